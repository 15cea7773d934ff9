use Rattle.std.proofs.Common.{sym, subst}
use Rattle.bt_pivot.specs.Points.{point_at, IsSamePoint}
use Rattle.bt_pivot.specs.Tableaus.{with_slots}
use Rattle.bt_pivot.proofs.Places.{line_place, like_place}
use Rattle.bt_simplex.proofs.PointSteps.{point_cause}
use Rattle.bt_pivot.proofs.Resting.{rest_stands}
use Rattle.bt_simplex.proofs.points.point.Goals as goal

pub returns-in-Ok-clause-point : goal.returns-in-Ok-clause-point
returns-in-Ok-clause-point c =
    let t = with_slots c.args.tableau.now c.args.basis.now in
    subst (λ d. IsSamePoint d (point_at t c.args.position)) (sym c.signed_point.ensures)
    (line_place t c.all_known.ensures.rows c.args.position c.in-Line.negated c.in-Line.line.now c.in-Ok.point c.in-Line.ensures.0 c.in-Ok.ensures.known c.in-Ok.ensures.point)

pub returns-in-Err-clause-unfit : goal.returns-in-Err-clause-unfit
returns-in-Err-clause-unfit c =
    point_cause (with_slots c.args.tableau.now c.args.basis.now) c.in-Line.first c.in-Line.line.now c.in-Err.cause c.in-Line.ensures.1 c.in-Err.ensures.unfit

pub returns-in-Like-clause-point : goal.returns-in-Like-clause-point
returns-in-Like-clause-point c =
    let t = with_slots c.args.tableau.now c.args.basis.now in
    subst (λ d. IsSamePoint d (point_at t c.args.position)) (sym c.signed_point-in-Like.ensures)
    (like_place t c.all_known.ensures.rows c.args.position c.in-Like.other c.in-Like.negated c.rest.result c.in-Like.ensures.0 c.in-Like.ensures.1 c.rest.ensures)

pub returns-in-Outside-clause-point : goal.returns-in-Outside-clause-point
returns-in-Outside-clause-point c = rest_stands (with_slots c.args.tableau.now c.args.basis.now) c.args.position c.rest-in-Outside.result c.all_known.ensures.rows c.in-Outside.ensures c.rest-in-Outside.ensures
