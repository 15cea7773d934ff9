-- Finding the next variable of the order.
use Rattle.std.specs.Prelude.{◌≡◌, ◌<◌, ◌≤◌, ℕ, Bool, List, [], Option, Some, None, length, drop, slice_index_or, Contains}
use Rattle.bt_cnf.specs.declared.literal.Lit.{Lit}
use Rattle.bt_cnf.specs.Truths.{LacksValue}

-- those that have no value from one place on are so from the other on, where one of them stands, unless that is the end
pub record FindsUnset (values : List (Option Bool)) (vars : List ℕ) (from place : ℕ) : Type 0 where
  pub left : (v : ℕ) → LacksValue values v → Contains (drop from vars) v → Contains (drop place vars) v
  pub found : (d : ℕ) → place < length vars → LacksValue values (slice_index_or vars place d)

-- a literal of the variable at the place, or the place is beyond the end
abbrev pub IsLitAt : List ℕ → ℕ → Option Lit → Type 0
IsLitAt vars place None = length vars ≤ place
IsLitAt vars place (Some l) = (place < length vars) × (slice_index_or vars place l.var ≡ l.var)

-- a literal of one of the variables, or there are none
abbrev pub IsAmong : List ℕ → Option Lit → Type 0
IsAmong vars None = vars ≡ []
IsAmong vars (Some l) = Contains vars l.var
