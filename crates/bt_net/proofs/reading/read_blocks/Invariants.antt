use Rattle.std.proofs.Common.{◌≤◌, ◌+◌, length}
use Rattle.bt_net.specs.PinText.{IsBlockHere}
use Rattle.bt_net.specs.PinRefusals.{BeginsWithItems}
use Rattle.bt_net.proofs.reading.read_blocks.Given as goal

-- the text begins with lines of the blocks so far, and the rest follows
abbrev pub invariant-loop-block : goal.invariant-loop-block
invariant-loop-block l = record {
  lines : BeginsWithItems (IsBlockHere l.admitted) l.first l.text l.blocks.items l.rest;
  short : length l.blocks.items + length l.rest ≤ length l.text;
}

abbrev pub decreases-loop-block : goal.decreases-loop-block
decreases-loop-block l = length l.rest
