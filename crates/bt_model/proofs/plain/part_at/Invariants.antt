use Rattle.std.proofs.Common.{ℕ, ◌<◌}
use Rattle.bt_parts.specs.Layouts.{IsAt}
use Rattle.bt_model.proofs.plain.part_at.Given as goal

abbrev pub invariant-loop-i : goal.invariant-loop-i
invariant-loop-i l = (k : ℕ) → k < l.i → IsAt l.parts k l.cell → ⊥
