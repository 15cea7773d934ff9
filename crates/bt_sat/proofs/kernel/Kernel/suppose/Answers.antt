use Rattle.std.proofs.Common.{◌∙◌, map, sym, subst}
use Rattle.std.specs.Vec.{with_items}
use Rattle.std.proofs.lemmas.List.{with_items_is}
use Rattle.bt_sat.specs.Answering.{Assumes}
use Rattle.bt_sat.specs.Solving.{SolverParts}
use Rattle.bt_sat.specs.inner.Kernels.{AssumesBy, MayGoOn, parts_of}
use Rattle.bt_sat.proofs.Ended
use Rattle.bt_sat.proofs.kernel.Kernel.suppose.Goals as goal

pub returns-in-Ok-clause-given : goal.returns-in-Ok-clause-given
returns-in-Ok-clause-given g c =
    let f = g.C.Chooser.told_clauses in
    let waiting = map f c.args.choosers.now.items in
    let new = c.supposed.new.progress in
    let found = c.in-Ok.assumed in
    let items = with_items_is c.args.choosers.now c.supposed.new.choosers (c.supposed.auto.choosers ∙ c.deref_mut.ensures.len) in
    let left = map f (with_items c.args.choosers.now c.supposed.new.choosers).items in
    let assumes : AssumesBy c.self.inside.progress waiting new left found =
    subst (λ cs. AssumesBy c.self.inside.progress waiting new (map f cs) found) (sym items)
    (subst (λ cs. AssumesBy c.self.inside.progress (map f cs) new (map f c.supposed.new.choosers) found) c.deref_mut.ensures.value c.in-Ok.ensures.assumes) in
    let may = subst (λ (s : SolverParts). MayGoOn s.status) (sym c.self.view_is) c.requires in
    subst (λ s. Assumes s waiting (parts_of new c.stage_supposed-self-inside.result) left found) c.self.view_is
    (subst (λ stage. Assumes (parts_of c.self.inside.progress c.self.inside.stage) waiting (parts_of new stage) left found) (sym c.stage_supposed-self-inside.ensures)
    (Ended.assumes c.self.inside.progress new c.self.inside.stage waiting left found may assumes))
