-- What is right to say of one written step.
use Rattle.std.specs.Prelude.{List}
use Rattle.bt_farkas.specs.declared.wide.WideAt.{WideAt}
use Rattle.bt_cnf.specs.Formulas.{FormulaParts}
use Rattle.bt_cnf.specs.declared.literal.Lit.{Lit}
use Rattle.bt_cert.specs.StepLines.{WrittenStep}
use Rattle.bt_cert.specs.Judging.{FailsFor, IsWideStep, IsAccepted}
use Rattle.bt_cert.specs.declared.fault.Cause.{Cause}

-- a step is valid, or fails for a cause, or its sum leaves 128 bits there
pub data Judgement : Type 0 where
  Valid : Judgement
  Fails : Cause → Judgement
  IsWideAt : WideAt → Judgement

-- what is right to say of a written step after these clauses of the formula and of the earlier steps
abbrev pub IsJudged : FormulaParts → List (List Lit) → WrittenStep → Judgement → Type 0
IsJudged f clauses written Valid = IsAccepted f clauses written
IsJudged f clauses written (Fails cause) = FailsFor f clauses written cause
IsJudged f clauses written (IsWideAt at) = IsWideStep f written at
