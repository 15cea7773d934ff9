use Rattle.std.proofs.Common.{take}
use Rattle.bt_frac.specs.Values.{nothing}
use Rattle.bt_farkas.specs.RunningSums.{RunsTo}
use Rattle.bt_farkas.specs.WeightedRows.{weighted, pairs_at}
use Rattle.bt_farkas.proofs.combining.total.Given as goal

abbrev pub invariant-loop-i : goal.invariant-loop-i
invariant-loop-i l = RunsTo nothing (pairs_at l.place (take l.i (weighted l.rows l.picks l.weights))) l.sum
