use Rattle.bt_demands.proofs.DrawnCells.{cells_in_range}
use Rattle.bt_rules.proofs.drawing.add_splitter.Goals as goal

pub add_ports-requires-clause-range : goal.add_ports-requires-clause-range
add_ports-requires-clause-range c = cells_in_range c.args.request.now c.rect.ensures.request c.args.cells.now c.requires.cells
