-- The order of cells, by x and then by y.
use Rattle.std.specs.declared.cmp.Ordering.{Ordering}
use Rattle.bt_parts.specs.declared.part.Cell.{Cell}
use Rattle.bt_parts.specs.contracts.part.CellOrd.TheImpl as cell_ord

-- how two cells compare
abbrev pub cell_order : Cell → Cell → Ordering
cell_order = (cell_ord.ghosts).cmp
