use Rattle.bt_demands.proofs.DrawnCells.{cells_near}
use Rattle.bt_demands.proofs.counting.has_room.Goals as goal

pub border_of-requires : goal.border_of-requires
border_of-requires c = cells_near c.args.request.now c.rect.ensures.request c.args.cells.now c.requires
