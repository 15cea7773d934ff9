use Rattle.std.proofs.Common.{◌≡◌, length}
use Rattle.bt_decide.proofs.guessing.guess_of.Given as goal

abbrev pub invariant-loop-place : goal.invariant-loop-place
invariant-loop-place l = length l.guess.items ≡ l.place
