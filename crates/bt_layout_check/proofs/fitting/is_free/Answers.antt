use Rattle.bt_layout_check.proofs.Within.{free_told}
use Rattle.bt_layout_check.proofs.fitting.is_free.Goals as goal

pub returns : goal.returns
returns c = free_told c.args.grid.now c.args.block.now c.blocked_cell.result c.at.result c.is_none.result c.blocked_cell.ensures c.at.ensures.found c.is_none.ensures
