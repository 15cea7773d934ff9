use Rattle.std.proofs.Common.{take}
use Rattle.bt_frac.specs.Values.{nothing}
use Rattle.bt_farkas.specs.RunningSums.{RunsTo}
use Rattle.bt_farkas.specs.WeightedRows.{pairs_at}
use Rattle.bt_simplex.specs.Weights.{weighted_rows}
use Rattle.bt_simplex.proofs.sums.cause_at.Given as goal

abbrev pub invariant-loop-row : goal.invariant-loop-row
invariant-loop-row l = RunsTo nothing (pairs_at l.place (take l.row-index (weighted_rows l.rows l.weights))) l.sum
