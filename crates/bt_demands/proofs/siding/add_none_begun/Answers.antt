use Rattle.std.proofs.Common.{append-nil, sym}
use Rattle.bt_demands.specs.Pinning as pinning
use Rattle.bt_arena.proofs.Loops.{taken_more, taken_all}
use Rattle.bt_demands.proofs.siding.add_none_begun.Goals as goal

pub loop-other-init : goal.loop-other-init
loop-other-init c = sym (append-nil c.args.draft.now)

pub loop-other-preserved : goal.loop-other-preserved
loop-other-preserved c = taken_more (pinning.not_begun c.args.class c.args.cell) c.args.others.now c.args.draft.now c.loop-other.draft c.add_not_begun.new.draft c.loop-other.other-index _ c.loop-other-test.true c.loop-other.invariant (c.in_ok-add_not_begun.ensures)

pub returns : goal.returns
returns c = taken_all (pinning.not_begun c.args.class c.args.cell) c.args.others.now c.args.draft.now c.loop-other.draft c.loop-other.other-index c.loop-other-test.false c.loop-other.invariant
