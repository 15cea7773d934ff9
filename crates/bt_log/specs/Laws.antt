-- What follows from a log that refutes a formula.
use Rattle.std.specs.Prelude.{ℕ, Bool, List}
use Rattle.bt_frac.specs.Ratio.{Ratio}
use Rattle.bt_frac.specs.Values.{AreValues}
use Rattle.bt_cnf.specs.Formulas.{FormulaParts, IsFormula}
use Rattle.bt_cnf.specs.Meeting.{Meets}
use Rattle.bt_log.specs.Logs.{Step}
use Rattle.bt_log.specs.Refuting.{Refutes}

-- no assignment with values, which may be any fractions, meets the formula
abbrev pub IsUnmet : FormulaParts → Type 0
IsUnmet f = (assignment : ℕ → Bool) (values : ℕ → Ratio) → AreValues values → Meets f assignment values → ⊥

-- a formula that a log refutes is met by nothing
abbrev pub RefutedIsUnmet : Type 0
RefutedIsUnmet = (f : FormulaParts) (steps : List Step) → IsFormula f → Refutes f steps → IsUnmet f
