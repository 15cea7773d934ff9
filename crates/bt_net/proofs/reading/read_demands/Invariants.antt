use Rattle.std.proofs.Common.{◌≤◌, ◌+◌, length}
use Rattle.bt_net.specs.PinText.{IsDemandHere}
use Rattle.bt_net.specs.PinRefusals.{BeginsWithItems}
use Rattle.bt_net.proofs.reading.read_demands.Given as goal

-- the text begins with lines of the pins and sides so far, and the rest follows
abbrev pub invariant-loop-demand : goal.invariant-loop-demand
invariant-loop-demand l = record {
  lines : BeginsWithItems (IsDemandHere l.admitted l.wiring) l.first l.text l.demands.items l.rest;
  short : length l.demands.items + length l.rest ≤ length l.text;
}

abbrev pub decreases-loop-demand : goal.decreases-loop-demand
decreases-loop-demand l = length l.rest
