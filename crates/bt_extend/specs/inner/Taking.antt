-- That a formula is extended by so many of some definitions.
use Rattle.std.specs.Prelude.{◌≡◌, ◌≤◌, ℕ, List, length, take}
use Rattle.bt_cnf.specs.Formulas.{FormulaParts}
use Rattle.bt_extend.specs.Extending.{AreTaken, extended}
use Rattle.bt_extend.specs.declared.definition.Definition.{Definition}

-- so many are taken of the definitions, and the formula is extended by them
pub record IsTaken (f : FormulaParts) (given : List Definition) (further : FormulaParts) (count : ℕ) : Type 0 where
  pub below : count ≤ length given
  pub taken : AreTaken f given (take count given)
  pub is : further ≡ extended f (take count given)
