-- What a checker of steps knows, and what its judging of a step does.
use Rattle.std.specs.Prelude.{◌≡◌, List, [], ◌∷◌, ◌++◌, Bool, IsTrue, ◌↔◌, Result, Ok, Err}
use Rattle.bt_cnf.specs.Formulas.{FormulaParts}
use Rattle.bt_cnf.specs.declared.literal.Lit.{Lit}
use Rattle.bt_cert.specs.StepLines.{WrittenStep, written_clause}
use Rattle.bt_cert.specs.inner.Judgements.{Valid, Fails, IsWideAt, IsJudged}
use Rattle.bt_cert.specs.declared.fault.StepFault.{StepFault}
use Rattle.bt_cert.specs.declared.fault.StepFault.TheVariants as fault

-- the formula, and its clauses with those of the steps so far
pub record Checking : Type 0 where
  pub formula : FormulaParts
  pub clauses : List (List Lit)

-- what is known before the first step
abbrev pub start_of : FormulaParts → Checking
start_of f = record { formula = f; clauses = f.clauses }

-- what is known after one more step
abbrev pub with_step : Checking → WrittenStep → Checking
with_step known written = record known { clauses = known.clauses ++ written_clause written ∷ [] }

-- a written step was judged: it is valid, its clause was kept, and whether that is empty is told; or why it isn't
-- valid is told; the formula stays
abbrev pub JudgesStep : Checking → WrittenStep → Checking → Result Bool StepFault → Type 0
JudgesStep old written new (Ok is_empty) =
    IsJudged old.formula old.clauses written Valid × (new ≡ with_step old written)
    × (IsTrue is_empty ↔ (written_clause written ≡ []))
JudgesStep old written new (Err (fault.Fails cause)) = IsJudged old.formula old.clauses written (Fails cause) × (new.formula ≡ old.formula)
JudgesStep old written new (Err (fault.Wide at)) = IsJudged old.formula old.clauses written (IsWideAt at) × (new.formula ≡ old.formula)
JudgesStep old written new (Err fault.Memory) = new.formula ≡ old.formula
