use Rattle.std.proofs.Common.{◌≡◌, take}
use Rattle.std.specs.List.{All}
use Rattle.bt_frac.specs.Rows.{RowParts, HaveColumns}
use Rattle.bt_farkas.specs.WeightedRows.{picked}
use Rattle.bt_farkas.specs.inner.Gathering.{entries_from}
use Rattle.bt_farkas.proofs.gathering.gather.Given as goal

abbrev pub invariant-loop-i : goal.invariant-loop-i
invariant-loop-i l = record {
  entries : l.entries.items ≡ entries_from 0 (picked l.rows (take l.i l.picks));
  ascend : All (λ (row : RowParts). HaveColumns row.terms) (picked l.rows (take l.i l.picks));
}
