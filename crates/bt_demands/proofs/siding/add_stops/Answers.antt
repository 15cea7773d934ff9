use Rattle.std.proofs.Common.{append-nil, sym}
use Rattle.bt_demands.specs.inner.Parts as parts
use Rattle.bt_arena.proofs.Loops.{taken_more, taken_all}
use Rattle.bt_demands.proofs.siding.add_stops.Goals as goal

pub loop-cell-init : goal.loop-cell-init
loop-cell-init c = sym (append-nil c.args.draft.now)

pub loop-cell-preserved : goal.loop-cell-preserved
loop-cell-preserved c = taken_more (parts.stop_part_rules c.args.rect c.args.dir c.args.output c.args.classes.now) c.args.border.now c.args.draft.now c.loop-cell.draft c.add_stop.new.draft c.loop-cell.cell-index _ c.loop-cell-test.true c.loop-cell.invariant (c.in_ok-add_stop.ensures)

pub returns : goal.returns
returns c = taken_all (parts.stop_part_rules c.args.rect c.args.dir c.args.output c.args.classes.now) c.args.border.now c.args.draft.now c.loop-cell.draft c.loop-cell.cell-index c.loop-cell-test.false c.loop-cell.invariant
