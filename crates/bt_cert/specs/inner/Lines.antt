-- What is read of one line.
use Rattle.std.specs.Prelude.{◌≡◌, ◌≢◌, ℕ, List, Bool, true, false, Ok, Err}
use Rattle.bt_cert.specs.StepLines.{WrittenStep, IsWritten, written_text}
use Rattle.bt_cert.specs.Certificates.{SpellsNoStep, end_line}
use Rattle.bt_cert.specs.inner.Checking.{Checking, JudgesStep}
use Rattle.bt_cert.specs.declared.fault.StepFault.TheVariants as fault
use Rattle.bt_cert.specs.declared.line.Found.{Found}
use Rattle.bt_cert.specs.declared.line.Found.TheVariants.{End, Step, Other, Refused}

-- the line is that of the step, where it is said to be one; or it is that of none
abbrev pub IsStepRead : List ℕ → WrittenStep → Bool → Type 0
IsStepRead line step true = IsWritten step × (line ≡ written_text step)
IsStepRead line step false = SpellsNoStep line

-- the line is that of a step, of which this holds
pub record IsStepLine (line : List ℕ) (P : WrittenStep → Type 0) : Type 0 where
  pub step : WrittenStep
  pub is_written : IsWritten step
  pub line_is : line ≡ written_text step
  pub holds : P step

-- what a whole line is, and what was done with it: the clause of a valid step was kept
abbrev pub IsFound : Checking → List ℕ → Checking → Found → Type 0
IsFound old line new End = (line ≡ end_line) × (new ≡ old)
IsFound old line new (Step is_empty) = IsStepLine line (λ step. JudgesStep old step new (Ok is_empty))
IsFound old line new Other = SpellsNoStep line × (line ≢ end_line) × (new ≡ old)
IsFound old line new (Refused (fault.Fails cause)) = IsStepLine line (λ step. JudgesStep old step new (Err (fault.Fails cause)))
IsFound old line new (Refused (fault.Wide at)) = IsStepLine line (λ step. JudgesStep old step new (Err (fault.Wide at)))
IsFound old line new (Refused fault.Memory) = new.formula ≡ old.formula
