use Rattle.std.proofs.Common.{◌≡◌, length}
use Rattle.hint_simulation.proofs.simulation.marks_of.Given as goal

abbrev pub invariant-loop-belt : goal.invariant-loop-belt
invariant-loop-belt l = length l.marks.items ≡ l.belt-index
