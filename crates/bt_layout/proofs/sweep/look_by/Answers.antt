use Rattle.std.proofs.Common.{arith}
use Rattle.std.proofs.lemmas.Result.{IfOk-weaker}
use Rattle.bt_layout.specs.inner.Likely.{IsTried}
use Rattle.bt_layout.proofs.sweep.look_by.Goals as goal

pub returns-in-Search : goal.returns-in-Search
returns-in-Search c =
    IfOk-weaker c.look_where_likely.result (IsTried c.args.request.now c.min.result) (IsTried c.args.request.now c.args.left)
    (λ tried is. let few = is.1 in (is.0, omega (arith, c.min.ensures, few))) c.look_where_likely.ensures
