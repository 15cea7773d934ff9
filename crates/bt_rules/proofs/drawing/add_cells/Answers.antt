use Rattle.std.proofs.Common.{append-nil, sym}
use Rattle.bt_rules.specs.PlaceRules as place
use Rattle.bt_demands.proofs.DrawnCells.{cell_inside}
use Rattle.bt_arena.proofs.Loops.{taken_more, taken_all}
use Rattle.bt_rules.proofs.drawing.add_cells.Goals as goal

pub loop-cell-init : goal.loop-cell-init
loop-cell-init c = sym (append-nil c.args.draft.now)

pub add_cell-requires-clause-cell : goal.add_cell-requires-clause-cell
add_cell-requires-clause-cell c = cell_inside c.args.request.now c.requires.plan.is_request c.args.cells.now c.loop-cell.cell-index _ c.requires.cells c.loop-cell-test.true

pub loop-cell-preserved : goal.loop-cell-preserved
loop-cell-preserved c = taken_more (place.cell_rules c.args.request.now) c.args.cells.now c.args.draft.now c.loop-cell.draft c.add_cell.new.draft c.loop-cell.cell-index _ c.loop-cell-test.true c.loop-cell.invariant (c.in_ok-add_cell.ensures)

pub returns : goal.returns
returns c = taken_all (place.cell_rules c.args.request.now) c.args.cells.now c.args.draft.now c.loop-cell.draft c.loop-cell.cell-index c.loop-cell-test.false c.loop-cell.invariant
