use Rattle.std.proofs.Common.{◌≡◌, ℕ, ◌<◌, get_or}
use Rattle.bt_frac.specs.Values.{nothing}
use Rattle.bt_same.proofs.comparing.are_same.Given as goal

abbrev pub invariant-loop-place : goal.invariant-loop-place
invariant-loop-place l = (i : ℕ) → i < l.place → get_or l.left i nothing ≡ get_or l.right i nothing
