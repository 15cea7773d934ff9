use Rattle.std.proofs.Common.{◌≡◌, false, true, arith, rules, subst}
use Rattle.std.proofs.lemmas.List.{take_all}
use Rattle.std.proofs.lemmas.List.Elements.{All-more}
use Rattle.bt_cnf.specs.Assignments.{truth_in}
use Rattle.bt_cnf.specs.declared.literal.Lit.{Lit}
use Rattle.bt_theory.specs.inner.Goals.{AreNegated, IsNegated}
use Rattle.bt_theory.proofs.goal.are_negated.Goals as goal

pub loop-lit-preserved : goal.loop-lit-preserved
loop-lit-preserved c =
    let lits = c.args.lits.now in
    let model = c.args.model.now in
    let lit : Lit = c.lit-item.result in
    let negative : lit.positive ≡ false = search rules in
    let holds : truth_in model lit.var ≡ true = search rules in
    All-more (IsNegated model) lits c.loop-lit.lit-index lit c.loop-lit-test.true c.loop-lit.invariant (subst (IsNegated model) c.lit-item.is (negative, holds))

pub returns : goal.returns
returns c = λ _. subst (AreNegated c.args.model.now) (take_all c.loop-lit.lit-index c.args.lits.now (omega arith)) c.loop-lit.invariant
