use Rattle.std.proofs.Common.{◌≡◌, ◌++◌, map}
use Rattle.bt_parts.specs.Cells.{cell_at}
use Rattle.std.specs.List.{range_with_len}
use Rattle.bt_facts.proofs.cells.push_row.Given as goal

abbrev pub invariant-loop-column : goal.invariant-loop-column
invariant-loop-column l = l.cells.items ≡ l.initial.cells.items ++ map (λ column. cell_at column l.row) (range_with_len 0 l.column)
