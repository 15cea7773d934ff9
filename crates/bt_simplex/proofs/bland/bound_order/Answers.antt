use Rattle.std.proofs.Common.{subst}
use Rattle.bt_frac.specs.Deltas.{IsOrderOfDeltas}
use Rattle.bt_pivot.specs.Points.{bound_row, bound_value}
use Rattle.bt_pivot.proofs.Failing.{row_is}
use Rattle.bt_simplex.proofs.bland.bound_order.Goals as goal

pub returns-clause-order : goal.returns-clause-order
returns-clause-order c row is_bound =
    let same = row_is c.in-Some-bound_row.row.now row (bound_row c.args.tableau.now c.args.position) c.in-Some-bound_row.ensures is_bound in (
      c.in_ok-point.point,
      c.in_ok-point.ensures.point,
      subst (λ r. IsOrderOfDeltas c.compare.result (bound_value r) c.in_ok-point.point) same (subst (λ d. IsOrderOfDeltas c.compare.result d c.in_ok-point.point) c.bound_value.ensures c.compare.ensures.order),
    )
