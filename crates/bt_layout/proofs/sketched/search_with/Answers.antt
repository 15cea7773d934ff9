use Rattle.std.proofs.Common.{arith}
use Rattle.std.proofs.lemmas.Result.{IfOk-weaker}
use Rattle.bt_layout.specs.inner.Likely.{IsTried}
use Rattle.bt_layout.proofs.sketched.search_with.Goals as goal

pub returns : goal.returns
returns c =
    IfOk-weaker c.trial_by.result (IsTried c.args.request.now c.min.result) (IsTried c.args.request.now c.args.steps)
    (λ tried is. let few = is.1 in (is.0, omega (arith, c.min.ensures, few))) (c.trial_by.ensures c.min.result c.in_ok-solver.ensures)
