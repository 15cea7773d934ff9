-- The values of literals while some variables are set.
use Rattle.std.specs.Prelude.{◌≡◌, ℕ, ◌+◌, ◌<◌, Bool, not, List, [], ◌∷◌, Option, None, Some, length, slice_index_or}
use Rattle.bt_cnf.specs.declared.literal.Lit.{Lit}

-- the variable of the literal is set so that the literal is true
abbrev pub IsTrueIn : List (Option Bool) → Lit → Type 0
IsTrueIn values l = slice_index_or values l.var None ≡ Some l.positive

-- the variable of the literal is set so that the literal is false
abbrev pub IsFalseIn : List (Option Bool) → Lit → Type 0
IsFalseIn values l = slice_index_or values l.var None ≡ Some (not l.positive)

-- the variable has no value
abbrev pub IsUnset : List (Option Bool) → ℕ → Type 0
IsUnset values var = slice_index_or values var None ≡ None

-- there is the variable, and it has no value
abbrev pub LacksValue : List (Option Bool) → ℕ → Type 0
LacksValue values var = (var < length values) × IsUnset values var

-- how many variables aren't set
abbrev pub unset : List (Option Bool) → ℕ
unset [] = 0
unset (None ∷ values) = unset values + 1
unset (Some value ∷ values) = unset values
