-- The formula of two networks is a formula, and how large it is.
use Rattle.std.specs.Prelude.{◌<◌, ◌^◌, length}
use Rattle.bt_net.specs.Network.{Network, IsNetwork}
use Rattle.bt_cnf.specs.Formulas.{FormulaParts, IsFormula}
use Rattle.bt_same.specs.SameFormula.{same_formula}

-- the formula of two networks is a formula
abbrev pub SameFormulasAreFormulas : Type 0
SameFormulasAreFormulas = (a b : Network) → IsNetwork a → IsNetwork b → IsFormula (same_formula a b)

-- the formula has fewer than 2 ^ 22 variables, and fewer clauses than that
pub record IsSmall (f : FormulaParts) : Type 0 where
  pub vars : f.vars < 2 ^ 22
  pub clauses : length f.clauses < 2 ^ 22

-- so is each formula of two networks
abbrev pub SameFormulasAreSmall : Type 0
SameFormulasAreSmall = (a b : Network) → IsNetwork a → IsNetwork b → IsSmall (same_formula a b)
