use Rattle.std.proofs.Common.{ℕ, ◌<◌}
use Rattle.bt_model.specs.Clean.{IsSideLoaded}
use Rattle.bt_recover.proofs.refusals.first_side_loaded.Given as goal

abbrev pub invariant-loop-i : goal.invariant-loop-i
invariant-loop-i l = (j : ℕ) → j < l.i → IsSideLoaded l.grid j → ⊥
