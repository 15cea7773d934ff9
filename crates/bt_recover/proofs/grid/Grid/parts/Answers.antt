use Rattle.bt_recover.proofs.IndexLemmas.{placed}
use Rattle.bt_recover.proofs.grid.Grid.parts.Goals as goal

pub returns-clause-well_placed : goal.returns-clause-well_placed
returns-clause-well_placed c = rw (← c.self.view_is) (placed c.self.inside.parts.items c.self.inside.cells c.self.invariant.index)
