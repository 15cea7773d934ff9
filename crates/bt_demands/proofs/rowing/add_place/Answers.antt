use Rattle.bt_demands.proofs.RowCells.{grid_near}
use Rattle.bt_demands.proofs.rowing.add_place.Goals as goal

pub has_place-requires-clause-near : goal.has_place-requires-clause-near
has_place-requires-clause-near c = grid_near c.args.rect c.requires.grid c.args.cell c.requires.cell
