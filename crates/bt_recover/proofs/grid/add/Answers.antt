use Rattle.bt_recover.proofs.IndexLemmas.{adds_first, adds_both}
use Rattle.bt_recover.proofs.grid.add.Goals as goal

pub returns-in_ok-insert-2 : goal.returns-in_ok-insert-2
returns-in_ok-insert-2 c =
    adds_both c.args.cells.now c.insert.new.self c.insert-in-Some.new.self c.args.part.now c.cells_of-second.result.0
    c.cells_of-second.result.1 c.in-Some.cell c.args.i c.cells_of-second.ensures.first c.cells_of-second.ensures.second
    c.in-Some.is c.in_ok-insert.ensures.updates c.in_ok-insert-2.ensures.updates

pub returns-in_default : goal.returns-in_default
returns-in_default c =
    adds_first c.args.cells.now c.insert.new.self c.args.part.now c.cells_of-second.result.0 c.cells_of-second.result.1 c.args.i
    c.cells_of-second.ensures.first c.cells_of-second.ensures.second c.in_default.is c.in_ok-insert.ensures.updates
