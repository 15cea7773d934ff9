use Rattle.std.proofs.Common.{◌≡◌, length}
use Rattle.hint_simulation.proofs.simulation.belts_of.Given as goal

abbrev pub invariant-loop-edge : goal.invariant-loop-edge
invariant-loop-edge l = length l.belts.items ≡ l.edge-index
