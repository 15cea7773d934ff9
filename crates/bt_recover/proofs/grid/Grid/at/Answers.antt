use Rattle.bt_recover.proofs.IndexLemmas.{found_there, empty_there}
use Rattle.bt_recover.proofs.grid.Grid.at.Goals as goal

pub returns-clause-found : goal.returns-clause-found
returns-clause-found c = rw (← c.self.view_is) (found_there c.self.inside.parts.items c.self.inside.cells c.args.cell c.index_at.result c.self.invariant.index c.index_at.ensures)

pub returns-clause-empty : goal.returns-clause-empty
returns-clause-empty c = rw (← c.self.view_is) (empty_there c.self.inside.parts.items c.self.inside.cells c.args.cell c.index_at.result c.self.invariant.index c.index_at.ensures)
