use Rattle.std.proofs.Common.{◌≡◌, map, take}
use Rattle.bt_same.specs.SameFormula.{moved_row}
use Rattle.bt_same.specs.inner.Joining.{rows_of, with_rows}
use Rattle.bt_same.proofs.joining.add_rows.Given as goal

abbrev pub invariant-loop-row : goal.invariant-loop-row
invariant-loop-row l = l.formula ≡ with_rows l.initial.formula (map (moved_row l.columns) (take l.row-index (rows_of l.part)))
