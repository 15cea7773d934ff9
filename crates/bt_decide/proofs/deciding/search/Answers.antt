use Rattle.std.proofs.Common.{subst}
use Rattle.bt_theory.specs.Outcomes.{IsOutcome}
use Rattle.bt_decide.specs.Verdicts.{AreMade}
use Rattle.bt_decide.proofs.Taken.{made_of}
use Rattle.bt_decide.proofs.deciding.search.Goals as goal

pub returns : goal.returns
returns g c =
    let taken = c.solve.new.definitions.items in
    let made = made_of c.args.net.now.splitters c.in_ok-formula.formula c.in_ok-argument.argument.definitions.items taken c.in_ok-argument.ensures c.in_ok-outcome.ensures.taken in
    c.in_ok-verdict.ensures c.args.property c.args.limits c.in_ok-formula.ensures.network
    (subst (λ f. AreMade c.args.net.now.splitters f taken) c.in_ok-formula.ensures.formula made)
    (subst (λ f. IsOutcome f taken c.args.limits c.in_ok-outcome.outcome) c.in_ok-formula.ensures.formula c.in_ok-outcome.ensures.outcome)
