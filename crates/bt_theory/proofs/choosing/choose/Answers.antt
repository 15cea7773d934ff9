use Rattle.std.proofs.Common.{◌≡◌, ◌+◌, take, length, ◌∙◌, ap, sym, subst, arith}
use Rattle.std.proofs.lemmas.List.{with_items_is}
use Rattle.bt_cnf.specs.Assignments.{truth_in}
use Rattle.bt_cnf.specs.Meeting.{MeetsClause}
use Rattle.bt_theory.specs.inner.Choosing.{IsChosen}
use Rattle.bt_theory.proofs.Bases.{in_front}
use Rattle.bt_theory.proofs.Chosen.{chosen_more}
use Rattle.bt_theory.proofs.choosing.choose.Goals as goal

pub settle-requires-clause-met : goal.settle-requires-clause-met
settle-requires-clause-met c =
    let same = c.in-Some.ensures.some in
    let inside = c.loop-place-test.true in
    in_front (MeetsClause (truth_in c.args.model.now)) c.args.base.now.clauses c.args.formula.now.clauses c.in-Some.id c.clause.result.now c.requires.base.clauses c.requires.met
    (omega (arith, same, inside)) c.clause.ensures.value

pub loop-place-preserved : goal.loop-place-preserved
loop-place-preserved c =
    let model = c.args.model.now in
    let now = c.loop-place.chosen.items in
    let more = c.settle.new.chosen in
    let same = c.deref_mut.ensures.value in
    let size : length more ≡ length now = c.settle.auto.chosen ∙ ap length same in
    subst (λ l. IsChosen model l (take (c.loop-place.place + 1) c.args.formula.now.clauses)) (sym (with_items_is c.loop-place.chosen more (c.settle.auto.chosen ∙ c.deref_mut.ensures.len)))
    (chosen_more model now more c.args.formula.now.clauses c.loop-place.place c.in-Some.id c.clause.result.now c.clause.ensures.value c.in-Some.ensures.some c.loop-place.invariant size
    c.settle.ensures.within (λ var h. c.settle.ensures.grows var (ap (λ l. truth_in l var) same ∙ h)) c.settle.ensures.settled)
