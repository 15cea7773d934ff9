use Rattle.std.proofs.Common.{◌-◌, ◌^◌}
use Rattle.bt_frac.specs.Rows.{columns_in}
use Rattle.bt_farkas.specs.WeightedRows.{picked, weighted}
use Rattle.bt_farkas.specs.inner.Totals.{AreColumnsBelow}
use Rattle.bt_farkas.proofs.weighing.sum_columns.Given as goal

abbrev pub invariant-loop-column : goal.invariant-loop-column
invariant-loop-column l = AreColumnsBelow (weighted l.rows l.picks l.weights) (columns_in (picked l.rows l.picks)) l.columns

abbrev pub decreases-loop-column : goal.decreases-loop-column
decreases-loop-column l = 2 ^ 64 - l.columns.end
