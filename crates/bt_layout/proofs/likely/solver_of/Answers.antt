use Rattle.std.proofs.Common.{◌≡◌}
use Rattle.std.proofs.lemmas.Result.{IfOk-weaker}
use Rattle.bt_sat.specs.Solving.{begun}
use Rattle.bt_layout.specs.inner.Likely.{IsNarrowedSearch}
use Rattle.bt_layout.proofs.likely.solver_of.Goals as goal

pub returns : goal.returns
returns c =
    IfOk-weaker c.planned.result (λ solver. solver.kernel ≡ begun c.in_ok-formula.formula c.args.attempt.steps) (λ solver. IsNarrowedSearch c.args.request.now c.args.attempt.steps solver.kernel)
    (λ solver begins. record { formula = c.in_ok-formula.formula; narrowed = c.in_ok-formula.ensures; begins = begins }) c.planned.ensures
