use Rattle.std.proofs.Common.{◌<◌, subst}
use Rattle.bt_simplex.proofs.PointSteps.{point_more, point_unfit}
use Rattle.bt_simplex.proofs.points.long_point.Goals as goal

pub loop-index-preserved : goal.loop-index-preserved
loop-index-preserved c =
    point_more c.args.tableau.now c.all_known.ensures c.args.line.now c.known.ensures c.loop-index.index c.term_at-term.result c.loop-index.sum c.in-Ok.next (subst (λ n. c.loop-index.index < n) c.len-index-end.ensures c.loop-index-test.true) c.term_at-term.ensures c.loop-index.invariant
    c.in-Ok.ensures.sum

pub returns-in-Err-clause-unfit : goal.returns-in-Err-clause-unfit
returns-in-Err-clause-unfit c =
    point_unfit c.args.tableau.now c.args.position c.args.line.now c.known.ensures c.loop-index.index c.term_at-term.result c.loop-index.sum c.in-Err.unfit c.value_cause.result (subst (λ n. c.loop-index.index < n) c.len-index-end.ensures c.loop-index-test.true) c.term_at-term.ensures
    c.loop-index.invariant c.in-Err.ensures.unfit c.value_cause.ensures
