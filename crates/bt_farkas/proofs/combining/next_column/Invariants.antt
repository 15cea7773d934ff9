use Rattle.std.proofs.Common.{◌<◌, ◌-◌, ◌^◌, take, IfSome}
use Rattle.bt_frac.specs.Rows.{columns_in}
use Rattle.bt_farkas.specs.WeightedRows.{picked}
use Rattle.bt_farkas.specs.inner.Totals.{IsLeastFrom}
use Rattle.bt_farkas.proofs.combining.next_column.Given as goal

abbrev pub invariant-loop-pick : goal.invariant-loop-pick
invariant-loop-pick l = record {
  least : IsLeastFrom l.least (columns_in (picked l.rows (take l.pick-index l.picks))) l.best;
  below : IfSome l.best (λ column. column < 2 ^ 64 - 1);
}
