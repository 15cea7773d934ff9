use Rattle.std.proofs.Common.{subst}
use Rattle.bt_cnf.specs.Formulas.{IsFormula}
use Rattle.bt_theory.specs.Outcomes.{IsOutcome}
use Rattle.bt_decide.specs.Verdicts.{AreMade, splitters_of_both}
use Rattle.bt_decide.proofs.Taken.{made_of}
use Rattle.bt_decide.proofs.same.search.Goals as goal

pub returns : goal.returns
returns g c =
    let same = c.requires.formula in
    let splitters = splitters_of_both c.args.first.now c.args.second.now in
    let taken = c.solve.new.definitions.items in
    let made = made_of splitters c.args.formula c.in_ok-argument.argument.definitions.items taken c.in_ok-argument.ensures c.in_ok-outcome.ensures.taken in
    c.in_ok-verdict.ensures c.args.limits same.networks.0 same.networks.1 (subst IsFormula same.formula same.known)
    (subst (λ f. AreMade splitters f taken) same.formula made)
    (subst (λ f. IsOutcome f taken c.args.limits c.in_ok-outcome.outcome) same.formula c.in_ok-outcome.ensures.outcome)
