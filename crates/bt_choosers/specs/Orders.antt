-- The order in which variables are decided.
use Rattle.std.specs.Prelude.{◌<◌, ℕ, Bool, List, Option, Some, None, Contains}
use Rattle.bt_cnf.specs.declared.literal.Lit.{Lit}
use Rattle.bt_cnf.specs.Truths.{LacksValue}

-- so many variables, from the lowest on, are among these
abbrev pub HasFirst : ℕ → List ℕ → Type 0
HasFirst count vars = (v : ℕ) → v < count → Contains vars v

-- all variables that have no value are among these
abbrev pub HasUnset : List (Option Bool) → List ℕ → Type 0
HasUnset values vars = (v : ℕ) → LacksValue values v → Contains vars v

-- a variable that has no value is set next, or all have one
abbrev pub IsNext : List (Option Bool) → Option Lit → Type 0
IsNext values None = (v : ℕ) → LacksValue values v → ⊥
IsNext values (Some l) = LacksValue values l.var
