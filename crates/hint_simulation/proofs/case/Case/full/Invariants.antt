use Rattle.std.proofs.Common.{◌≡◌, length}
use Rattle.hint_simulation.proofs.case.Case.full.Given as goal

abbrev pub invariant-loop-edge : goal.invariant-loop-edge
invariant-loop-edge l = (length l.loads.items ≡ l.net.inputs) × (length l.rooms.items ≡ l.net.outputs)
