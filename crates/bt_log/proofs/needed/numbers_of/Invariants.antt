use Rattle.std.proofs.Common.{◌≡◌, length}
use Rattle.bt_log.proofs.Choosing.{AreSoFar}
use Rattle.bt_log.proofs.needed.numbers_of.Given as goal

abbrev pub invariant-loop-number : goal.invariant-loop-number
invariant-loop-number l = record { count : length l.numbers.items ≡ l.count; numbers : AreSoFar l.places l.numbers.items l.number }
