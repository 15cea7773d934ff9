use Rattle.std.proofs.Common.{◌≤◌, ◌-◌, length}
use Rattle.bt_net.specs.declared.network.TheConstants.{MOST_OF_EACH}
use Rattle.bt_net.specs.Refusals.{BeginsWithEdges}
use Rattle.bt_net.specs.Wiring.{IsPartlyWired}
use Rattle.bt_net.specs.inner.Lines.{SameSizes}
use Rattle.bt_net.proofs.reading.read_edges.Given as goal

-- the text begins with lines of the edges so far, and the rest follows
abbrev pub invariant-loop-edge : goal.invariant-loop-edge
invariant-loop-edge l = record {
  sizes : SameSizes l.fn.wiring l.wiring;
  wired : IsPartlyWired l.wiring;
  few : length l.wiring.edges ≤ MOST_OF_EACH;
  lines : BeginsWithEdges l.fn.text l.wiring.edges l.rest;
}

abbrev pub decreases-loop-edge : goal.decreases-loop-edge
decreases-loop-edge l = MOST_OF_EACH - length l.wiring.edges
