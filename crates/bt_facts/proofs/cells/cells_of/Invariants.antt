use Rattle.std.proofs.Common.{◌≡◌}
use Rattle.bt_facts.specs.Spots.{row_cells}
use Rattle.std.specs.List.{flat_map, range_with_len}
use Rattle.bt_facts.proofs.cells.cells_of.Given as goal

abbrev pub invariant-loop-row : goal.invariant-loop-row
invariant-loop-row l = l.cells.items ≡ flat_map (row_cells l.rect) (range_with_len 0 l.row)
