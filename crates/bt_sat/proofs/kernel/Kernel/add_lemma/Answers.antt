use Rattle.std.proofs.Common.{◌<◌, ◌∙◌, arith, length, map, refl, sym, subst}
use Rattle.std.specs.Vec.{with_items}
use Rattle.std.proofs.lemmas.List.{with_items_is}
use Rattle.bt_sat.specs.Answering.{AddsLemma}
use Rattle.bt_sat.specs.Solving.{IsLemmaOf, IsSpent}
use Rattle.bt_sat.specs.declared.kernel.Stage.TheVariants.{Running}
use Rattle.bt_sat.specs.inner.Kernels.{AddsTo, parts_of}
use Rattle.bt_sat.proofs.Ended
use Rattle.bt_sat.proofs.kernel.Kernel.add_lemma.Goals as goal

pub returns-then-len-self : goal.returns-then-len-self
returns-then-len-self g c =
    let p = c.self.inside.progress in
    let stage = c.self.inside.stage in
    let lits = c.args.lits.now in
    let weights = c.args.weights.now in
    let meets = Ended.meets_lemma p stage lits weights c.self.invariant.stands (subst (λ s. IsLemmaOf s lits weights) (sym c.self.view_is) c.requires) in
    (refl, refl, subst IsSpent c.self.view_is (Ended.no_room p stage lits weights meets (sym c.len.ensures ∙ c.if-len-self.true)))

pub add-requires-clause-falses : goal.add-requires-clause-falses
add-requires-clause-falses g c =
    let lits = c.args.lits.now in
    let weights = c.args.weights.now in
    (Ended.meets_lemma c.self.inside.progress c.self.inside.stage lits weights c.self.invariant.stands (subst (λ s. IsLemmaOf s lits weights) (sym c.self.view_is) c.requires)).falses

pub add-requires-clause-next : goal.add-requires-clause-next
add-requires-clause-next g c =
    let lits = c.args.lits.now in
    let weights = c.args.weights.now in
    (Ended.meets_lemma c.self.inside.progress c.self.inside.stage lits weights c.self.invariant.stands (subst (λ s. IsLemmaOf s lits weights) (sym c.self.view_is) c.requires)).next

pub returns-in-Ok : goal.returns-in-Ok
returns-in-Ok g c =
    let f = g.C.Chooser.told_clauses in
    let p = c.self.inside.progress in
    let stage = c.self.inside.stage in
    let lits = c.args.lits.now in
    let weights = c.args.weights.now in
    let waiting = map f c.args.choosers.now.items in
    let items = with_items_is c.args.choosers.now c.add.new.choosers (c.add.auto.choosers ∙ c.deref_mut.ensures.len) in
    let left = map f (with_items c.args.choosers.now c.add.new.choosers).items in
    let adds : AddsTo p waiting lits weights c.add.new.progress left =
    subst (λ cs. AddsTo p waiting lits weights c.add.new.progress (map f cs)) (sym items)
    (subst (λ cs. AddsTo p (map f cs) lits weights c.add.new.progress (map f c.add.new.choosers)) c.deref_mut.ensures.value c.in-Ok.ensures.adds) in
    let meets = Ended.meets_lemma p stage lits weights c.self.invariant.stands (subst (λ s. IsLemmaOf s lits weights) (sym c.self.view_is) c.requires) in
    let room : length p.known.log.steps < p.limit = omega (arith, meets.complete.running.logged.within, c.len.ensures, c.if-len-self.false) in
    subst (λ s. AddsLemma s waiting lits weights (parts_of c.add.new.progress Running) left) c.self.view_is
    (Ended.adds p c.add.new.progress stage waiting left lits weights room adds)
