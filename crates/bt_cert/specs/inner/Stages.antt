-- How far a certificate was read.
use Rattle.std.specs.Prelude.{◌≡◌, ℕ, ◌+◌, ⊤, List, ◌++◌, All, Bool, true, false, map, IsTrue, ◌↔◌, Result, Ok, Err}
use Rattle.std.specs.List.{flat_map}
use Rattle.bt_text.specs.Answers.{UnlessMemory}
use Rattle.bt_cnf.specs.Formulas.{FormulaParts}
use Rattle.bt_text.specs.Blanks.{IsBlank}
use Rattle.bt_text.specs.Lines.{Lacks, line, line_feeds}
use Rattle.bt_log.specs.Refuting.{EndsEmpty}
use Rattle.bt_cert.specs.StepLines.{WrittenStep, written_text}
use Rattle.bt_cert.specs.Certificates.{AreRight, AreStepsRead, clauses_after, line_after, log_of, end_line}
use Rattle.bt_cert.specs.inner.Checking.{Checking}
use Rattle.bt_cert.specs.declared.fault.StepFault.{StepFault}
use Rattle.bt_cert.specs.declared.fault.StepFault.TheVariants as step_fault
use Rattle.bt_cert.specs.declared.fault.CertFault.{CertFault}
use Rattle.bt_cert.specs.declared.fault.CertFault.TheVariants.{CertLine, BadStep, NoVerdict, CertWide, ReadFault, TooLong, Memory}
use Rattle.bt_cert.specs.declared.line.Found.{Found}
use Rattle.bt_cert.specs.declared.line.Found.TheVariants as found
use Rattle.bt_cert.specs.declared.stage.Stage.{Stage}
use Rattle.bt_cert.specs.declared.stage.Stage.TheVariants.{Steps, Blanks, Refused}

-- what is known of the formula and the steps, the bytes of a line that goes on, the number of the line, whether
-- the last step adds the empty clause, and the stage
pub record Progress : Type 0 where
  pub known : Checking
  pub part : List ℕ
  pub line : ℕ
  pub is_refuted : Bool
  pub stage : Stage

-- the lines of steps
abbrev pub step_lines : List WrittenStep → List ℕ
step_lines steps = flat_map line (map written_text steps)

-- what was read is lines of valid steps, the first of them with this number, and the bytes of a line that goes on
pub record StandsAfterSteps (start : ℕ) (text : List ℕ) (p : Progress) : Type 0 where
  pub steps : List WrittenStep
  pub right : AreRight p.known.formula steps
  pub clauses : p.known.clauses ≡ clauses_after p.known.formula steps
  pub text_is : text ≡ step_lines steps ++ p.part
  pub goes_on : Lacks 10 p.part
  pub number : p.line ≡ line_after start steps
  pub refuted : IsTrue p.is_refuted ↔ EndsEmpty (log_of steps)

-- what was read is lines of valid steps, of which the last adds the empty clause, the line `end`, and blanks
pub record StandsAfterEnd (start : ℕ) (text : List ℕ) (p : Progress) : Type 0 where
  pub steps : List WrittenStep
  pub right : AreRight p.known.formula steps
  pub ends : EndsEmpty (log_of steps)
  pub blanks : List ℕ
  pub are_blanks : All IsBlank blanks
  pub text_is : text ≡ step_lines steps ++ line end_line ++ blanks
  pub number : p.line ≡ line_after start steps + 1 + line_feeds blanks

-- a text that goes on in whatever way has this fault
abbrev pub HasFault : ℕ → Progress → List ℕ → CertFault → Type 0
HasFault start p text fault = (more : List ℕ) → AreStepsRead start p.known.formula (text ++ more) (Err fault)

-- this fault was found, and nothing is said of want of memory
abbrev pub IsRefused : ℕ → Progress → List ℕ → CertFault → Type 0
IsRefused start p text (CertLine line) = HasFault start p text (CertLine line)
IsRefused start p text (BadStep line cause) = HasFault start p text (BadStep line cause)
IsRefused start p text NoVerdict = HasFault start p text NoVerdict
IsRefused start p text (CertWide line row column) = HasFault start p text (CertWide line row column)
IsRefused start p text ReadFault = ⊥
IsRefused start p text TooLong = ⊥
IsRefused start p text Memory = ⊤

-- what was read at a stage
abbrev pub IsAtStage : ℕ → List ℕ → Progress → Stage → Type 0
IsAtStage start text p Steps = StandsAfterSteps start text p
IsAtStage start text p Blanks = StandsAfterEnd start text p
IsAtStage start text p (Refused fault) = IsRefused start p text fault

-- this text was read
abbrev pub HasRead : ℕ → List ℕ → Progress → Type 0
HasRead start text p = IsAtStage start text p p.stage

-- the formula stays, and after each text that was read this text was read too
pub record ReadsOn (old : Progress) (text : List ℕ) (new : Progress) : Type 0 where
  pub formula : new.known.formula ≡ old.known.formula
  pub read : (start : ℕ) (before : List ℕ) → HasRead start before old → HasRead start (before ++ text) new

-- the fault of a certificate whose step on this line has a fault
abbrev pub fault_on : ℕ → StepFault → CertFault
fault_on line (step_fault.Fails cause) = BadStep line cause
fault_on line (step_fault.Wide at) = CertWide line at.row at.column
fault_on line step_fault.Memory = Memory

-- the stage after `end`: blanks where the last step adds the empty clause
abbrev pub stage_after_end : Bool → Stage
stage_after_end true = Blanks
stage_after_end false = Refused NoVerdict

-- the progress after a whole line
abbrev pub advanced : Progress → Found → Progress
advanced p found.End = record p { line = p.line + 1; stage = stage_after_end p.is_refuted }
advanced p (found.Step is_empty) = record p { line = p.line + 1; is_refuted = is_empty }
advanced p (found.Refused fault) = record p { stage = Refused (fault_on p.line fault) }
advanced p found.Other = record p { stage = Refused (CertLine p.line) }

-- the answer at a stage where nothing more comes
abbrev pub answer_at : ℕ → Stage → Result (Unit {0}) CertFault
answer_at line Steps = Err (CertLine line)
answer_at line Blanks = Ok tt
answer_at line (Refused fault) = Err fault

-- the answer at this stage is the right one to the text
abbrev pub IsEnded : ℕ → FormulaParts → List ℕ → Progress → Type 0
IsEnded start f text p = UnlessMemory Memory (AreStepsRead start f text) (answer_at p.line p.stage)
