use Rattle.std.proofs.Common.{ℕ, ◌<◌}
use Rattle.bt_recover.specs.inner.Marks.{IsUnmarkedLink}
use Rattle.bt_recover.proofs.marks.first_unmarked.Given as goal

abbrev pub invariant-loop-i : goal.invariant-loop-i
invariant-loop-i l = (j : ℕ) → j < l.i → IsUnmarkedLink l.grid l.marks j → ⊥
