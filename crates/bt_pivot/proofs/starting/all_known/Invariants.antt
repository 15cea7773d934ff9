use Rattle.std.proofs.Common.{◌<◌, get_or, ℕ}
use Rattle.bt_frac.specs.Rows.{RowParts, IsRow}
use Rattle.bt_pivot.proofs.starting.all_known.Given as goal

abbrev pub invariant-loop-row : goal.invariant-loop-row
invariant-loop-row l = (k : ℕ) (d : RowParts) → k < l.row-index → IsRow (get_or l.rows k d)
