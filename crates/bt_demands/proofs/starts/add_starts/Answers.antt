use Rattle.std.proofs.Common.{append-nil, sym}
use Rattle.bt_demands.specs.Starts as starts
use Rattle.bt_arena.proofs.Loops.{taken_more, taken_all}
use Rattle.bt_demands.proofs.starts.add_starts.Goals as goal

pub loop-cell-init : goal.loop-cell-init
loop-cell-init c = sym (append-nil c.args.draft.now)

pub loop-cell-preserved : goal.loop-cell-preserved
loop-cell-preserved c = taken_more (starts.start_rules c.args.input) c.args.border.now c.args.draft.now c.loop-cell.draft c.add_start.new.draft c.loop-cell.cell-index _ c.loop-cell-test.true c.loop-cell.invariant (c.in_ok-add_start.ensures)

pub returns : goal.returns
returns c = taken_all (starts.start_rules c.args.input) c.args.border.now c.args.draft.now c.loop-cell.draft c.loop-cell.cell-index c.loop-cell-test.false c.loop-cell.invariant
