use Rattle.std.proofs.Common.{[]}
use Rattle.bt_arena.proofs.Loops.{place_more}
use Rattle.bt_facts.specs.Spots.{row_cells}
use Rattle.bt_facts.proofs.cells.cells_of.Goals as goal

pub loop-row-preserved : goal.loop-row-preserved
loop-row-preserved c = place_more (row_cells c.args.rect) [] c.loop-row.cells.items c.push_row.new.cells.items c.loop-row.row c.loop-row.invariant c.in_ok-push_row.ensures
