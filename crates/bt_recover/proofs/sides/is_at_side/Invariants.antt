use Rattle.std.proofs.Common.{ℕ, ◌<◌, get_or}
use Rattle.bt_parts.specs.declared.part.Part.{Part}
use Rattle.bt_recover.specs.Sides.{ReachesFarther}
use Rattle.bt_recover.proofs.sides.is_at_side.Given as goal

-- no part so far reaches farther
abbrev pub invariant-loop-part : goal.invariant-loop-part
invariant-loop-part l = (k : ℕ) (d : Part) → k < l.part-index → ReachesFarther (get_or l.parts k d) l.dir l.cell → ⊥
