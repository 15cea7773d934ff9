use Rattle.std.proofs.Common.{ℕ, ◌<◌}
use Rattle.bt_model.specs.Clean.{IsBlocked}
use Rattle.bt_recover.proofs.refusals.first_blocked.Given as goal

abbrev pub invariant-loop-i : goal.invariant-loop-i
invariant-loop-i l = (j : ℕ) → j < l.i → IsBlocked l.grid j → ⊥
