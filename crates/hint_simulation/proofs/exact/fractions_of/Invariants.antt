use Rattle.std.proofs.Common.{◌≡◌, length}
use Rattle.hint_simulation.proofs.exact.fractions_of.Given as goal

abbrev pub invariant-loop-amount : goal.invariant-loop-amount
invariant-loop-amount l = length l.fractions.items ≡ l.amount-index
