-- The literals of a step, and what a checker assumes between two steps.
use Rattle.std.specs.Prelude.{◌≡◌, ℕ, Bool, true, false, List, length, map, Option}
use Rattle.bt_cnf.specs.Formulas.{LitsBelow}
use Rattle.bt_cnf.specs.declared.literal.Lit.{Lit}
use Rattle.bt_cert.specs.StepLines.{lit_of}
use Rattle.bt_extend.specs.declared.written.WrittenLit.{WrittenLit}
use Rattle.bt_cert.specs.inner.Assuming.{AreUnset}

-- these are the literals that are written, of so many variables; or one is of no variable
abbrev pub AreRead : ℕ → List WrittenLit → List Lit → Bool → Type 0
AreRead vars written lits true = (lits ≡ map lit_of written) × LitsBelow vars lits
AreRead vars written lits false = LitsBelow vars (map lit_of written) → ⊥

-- there is a value for each variable, and nothing is assumed
pub record AssumesNothing (vars : ℕ) (values : List (Option Bool)) : Type 0 where
  pub size : length values ≡ vars
  pub unset : AreUnset values
