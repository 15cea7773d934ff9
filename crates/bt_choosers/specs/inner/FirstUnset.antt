-- The first of a clause's variables that has no value.
use Rattle.std.specs.Prelude.{◌≡◌, ◌⊎◌, ℕ, List, [], ◌∷◌, Some, slice_get, Contains}
use Rattle.bt_cnf.specs.declared.literal.Lit.{Lit}
use Rattle.bt_cnf.specs.Truths.{unset}

-- the variable at this place is the first of the clause's variables that is among those without a value; or none of
-- them is, and the place is the first
abbrev pub IsFirstUnset : List Lit → List ℕ → ℕ → Type 0
IsFirstUnset [] unset place = place ≡ 0
IsFirstUnset (l ∷ clause) unset place = (slice_get unset place ≡ Some l.var) ⊎ ((Contains unset l.var → ⊥) × IsFirstUnset clause unset place)
