use Rattle.std.proofs.Common.{◌≡◌, ℕ, ◌<◌, get_or}
use Rattle.bt_parts.specs.declared.part.Part.{Part}
use Rattle.bt_designs.proofs.design.tier_of.Given as goal

-- the parts so far have the tier of the first
abbrev pub invariant-loop-part : goal.invariant-loop-part
invariant-loop-part l = (k : ℕ) (d : Part) → k < l.part-index → (get_or l.parts k d).tier ≡ l.first.tier
