use Rattle.std.proofs.Common.{append-nil, sym}
use Rattle.bt_demands.specs.Pinning as pinning
use Rattle.bt_arena.proofs.Loops.{mapped_more, mapped_all}
use Rattle.bt_demands.proofs.pinning.add_blocks.Goals as goal

pub loop-block-init : goal.loop-block-init
loop-block-init c = sym (append-nil c.args.draft.now)

pub loop-block-preserved : goal.loop-block-preserved
loop-block-preserved c = mapped_more (pinning.block_rule) c.args.blocks.now c.args.draft.now c.loop-block.draft c.add_block.new.draft c.loop-block.block-index _ c.loop-block-test.true c.loop-block.invariant (c.in_ok-add_block.ensures)

pub returns : goal.returns
returns c = mapped_all (pinning.block_rule) c.args.blocks.now c.args.draft.now c.loop-block.draft c.loop-block.block-index c.loop-block-test.false c.loop-block.invariant
