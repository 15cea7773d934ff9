use Rattle.std.proofs.Common.{take}
use Rattle.std.specs.List.{flat_map}
use Rattle.bt_rules.specs.PlaceRules.{cell_rules}
use Rattle.bt_demands.proofs.DrawnCells.{cell_inside}
use Rattle.bt_place.proofs.Encoded.{encoding_after, item_written, items_written}
use Rattle.bt_place.proofs.Written.{with_none}
use Rattle.bt_place.proofs.encoding.write_cells.Goals as goal

pub loop-cell-init : goal.loop-cell-init
loop-cell-init c = with_none c.args.numbers.now c.args.formula.now

pub write_cell-requires-clause-inside : goal.write_cell-requires-clause-inside
write_cell-requires-clause-inside c = cell_inside c.args.request.now c.requires.encoding.is_request c.args.cells.now c.loop-cell.cell-index _ c.requires.cells c.loop-cell-test.true

pub write_cell-requires-clause-encoding : goal.write_cell-requires-clause-encoding
write_cell-requires-clause-encoding c = encoding_after c.args.request.now c.args.numbers.now c.args.formula.now c.loop-cell.formula (flat_map (cell_rules c.args.request.now) (take c.loop-cell.cell-index c.args.cells.now)) c.requires.encoding c.loop-cell.invariant

pub loop-cell-preserved : goal.loop-cell-preserved
loop-cell-preserved c = item_written c.args.numbers.now (cell_rules c.args.request.now) c.args.cells.now c.args.formula.now c.loop-cell.formula c.write_cell.new.formula c.loop-cell.cell-index _ c.loop-cell-test.true c.loop-cell.invariant c.in_ok-write_cell.ensures

pub returns : goal.returns
returns c = items_written c.args.numbers.now (cell_rules c.args.request.now) c.args.cells.now c.args.formula.now c.loop-cell.formula c.loop-cell.cell-index c.loop-cell-test.false c.loop-cell.invariant
