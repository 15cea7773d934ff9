-- Listing the variables that have no value.
use Rattle.std.specs.Prelude.{◌≡◌, ◌⊎◌, ℕ, Bool, List, [], ◌∷◌, ◌++◌, Option}
use Rattle.bt_cnf.specs.Truths.{IsUnset}

-- the variable comes behind the others, where it has no value
abbrev pub AddsUnset : List (Option Bool) → ℕ → List ℕ → List ℕ → Type 0
AddsUnset values var old new = (IsUnset values var × (new ≡ old ++ var ∷ [])) ⊎ ((IsUnset values var → ⊥) × (new ≡ old))
