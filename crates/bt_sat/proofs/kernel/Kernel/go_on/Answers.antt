use Rattle.std.proofs.Common.{◌∙◌, map, sym, subst}
use Rattle.std.specs.Vec.{with_items}
use Rattle.std.proofs.lemmas.List.{with_items_is}
use Rattle.bt_sat.specs.Answering.{GivesNext}
use Rattle.bt_sat.specs.Solving.{SolverParts}
use Rattle.bt_sat.specs.inner.Kernels.{AnswersBy, MayGoOn, parts_of}
use Rattle.bt_sat.proofs.Ended
use Rattle.bt_sat.proofs.kernel.Kernel.go_on.Goals as goal

pub returns-in-Ok-clause-given : goal.returns-in-Ok-clause-given
returns-in-Ok-clause-given g c =
    let f = g.C.Chooser.told_clauses in
    let waiting = map f c.args.choosers.now.items in
    let new = c.answer.new.progress in
    let found = c.in-Ok.answer in
    let items = with_items_is c.args.choosers.now c.answer.new.choosers (c.answer.auto.choosers ∙ c.deref_mut.ensures.len) in
    let left = map f (with_items c.args.choosers.now c.answer.new.choosers).items in
    let answers : AnswersBy c.self.inside.progress waiting new left found =
    subst (λ cs. AnswersBy c.self.inside.progress waiting new (map f cs) found) (sym items)
    (subst (λ cs. AnswersBy c.self.inside.progress (map f cs) new (map f c.answer.new.choosers) found) c.deref_mut.ensures.value c.in-Ok.ensures.answers) in
    let may = subst (λ (s : SolverParts). MayGoOn s.status) (sym c.self.view_is) c.requires in
    subst (λ s. GivesNext s waiting (parts_of new c.stage_of-self-inside.result) left found) c.self.view_is
    (subst (λ stage. GivesNext (parts_of c.self.inside.progress c.self.inside.stage) waiting (parts_of new stage) left found) (sym c.stage_of-self-inside.ensures)
    (Ended.gives c.self.inside.progress new c.self.inside.stage waiting left found may answers))
