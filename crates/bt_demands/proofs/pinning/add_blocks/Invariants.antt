use Rattle.std.proofs.Common.{◌≡◌, ◌++◌, map, take}
use Rattle.bt_demands.specs.Pinning as pinning
use Rattle.bt_demands.proofs.pinning.add_blocks.Given as goal

abbrev pub invariant-loop-block : goal.invariant-loop-block
invariant-loop-block l = l.draft ≡ l.initial.draft ++ map (pinning.block_rule) (take l.block-index l.blocks)
