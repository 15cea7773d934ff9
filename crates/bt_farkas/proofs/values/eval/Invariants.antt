use Rattle.std.proofs.Common.{take}
use Rattle.bt_frac.specs.Values.{nothing, valued, value_in}
use Rattle.bt_farkas.specs.RunningSums.{RunsTo}
use Rattle.bt_farkas.proofs.values.eval.Given as goal

abbrev pub invariant-loop-column : goal.invariant-loop-column
invariant-loop-column l = RunsTo nothing (valued (value_in l.values) (take l.column-index l.row.terms)) l.sum
