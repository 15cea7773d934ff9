-- The variables that have no value.
use Rattle.std.specs.Prelude.{◌<◌, ℕ, Bool, List, Option, Contains}
use Rattle.bt_cnf.specs.Choosing.{Ascends}
use Rattle.bt_cnf.specs.Truths.{IsUnset}

-- these are the variables below a number that have no value, in ascending order
pub record AreUnset (values : List (Option Bool)) (count : ℕ) (vars : List ℕ) : Type 0 where
  pub ascends : Ascends vars
  pub are : (v : ℕ) → Contains vars v → (v < count) × IsUnset values v
  pub complete : (v : ℕ) → v < count → IsUnset values v → Contains vars v
