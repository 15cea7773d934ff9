use Rattle.bt_recover.proofs.IndexLemmas.{at_told}
use Rattle.bt_recover.proofs.grid.GridLayout.at.Goals as goal

pub returns : goal.returns
returns c = at_told c.args.self.now c.args.cell c.at.result c.at.ensures.found c.at.ensures.empty
