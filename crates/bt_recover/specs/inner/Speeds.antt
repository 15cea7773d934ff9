-- The least speed so far, along a chain.
use Rattle.std.specs.Prelude.{◌≡◌, ℕ, min, List}
use Rattle.bt_parts.specs.declared.part.Part.{Part}
use Rattle.bt_model.specs.Speeds.{HasSpeed}

-- the lesser of this speed and that of the part with this index
abbrev pub IsSlowedBy : List Part → ℕ → ℕ → ℕ → Type 0
IsSlowedBy parts speed i least = (other : ℕ) × HasSpeed parts i other × (least ≡ min speed other)
