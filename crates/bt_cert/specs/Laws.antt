-- What the text of a log tells.
use Rattle.std.specs.Prelude.{◌≡◌, ℕ, ◌+◌, List, All, map}
use Rattle.bt_cnf.specs.Formulas.{FormulaParts, IsFormula}
use Rattle.bt_cnf.specs.declared.literal.Lit.{Lit}
use Rattle.bt_log.specs.Logs as log
use Rattle.bt_log.specs.Logs.{Step}
use Rattle.bt_log.specs.LogText.{log_text}
use Rattle.bt_log.specs.Laws.{IsUnmet}
use Rattle.bt_log.specs.Refuting.{Refutes}
use Rattle.bt_extend.specs.declared.written.WrittenLit.{WrittenLit}
use Rattle.bt_cert.specs.StepLines.{WrittenStep, Lemma, Learnt, IsWritten}
use Rattle.bt_cert.specs.Judging.{IsWideNowhere}
use Rattle.bt_cert.specs.Certificates.{IsCertificate, SpellsLog, SpellsRefutation, log_of}

-- a literal as it is written: variables are numbered from 1 on in a text
abbrev pub written_lit : Lit → WrittenLit
written_lit l = record { number = l.var + 1; positive = l.positive }

-- a step as it is written: clauses too are numbered from 1 on
abbrev pub written_step : Step → WrittenStep
written_step (log.Lemma lits weights) = Lemma (map written_lit lits) weights
written_step (log.Learnt lits hints) = Learnt (map written_lit lits) (map (λ hint. hint + 1) hints)

-- the step may be written: its numbers have at most 18 digits there, and its weights are in lowest terms
abbrev pub MayBeWritten : Step → Type 0
MayBeWritten step = IsWritten (written_step step)

-- what is printed of a log whose steps may be written is read as these steps
abbrev pub PrintedIsRead : Type 0
PrintedIsRead = (steps : List Step) → All MayBeWritten steps
    → SpellsLog (log_text steps) (map written_step steps) × (log_of (map written_step steps) ≡ steps)

-- a text is that of one log
abbrev pub TextTellsLog : Type 0
TextTellsLog = (text : List ℕ) (steps others : List WrittenStep) → SpellsLog text steps → SpellsLog text others → steps ≡ others

-- what is printed of a log that refutes a formula is a certificate, where the steps may be written and the sum of no
-- lemma leaves 128 bits
abbrev pub PrintedIsCertificate : Type 0
PrintedIsCertificate = (f : FormulaParts) (steps : List Step) → Refutes f steps → All MayBeWritten steps
    → All (λ step. IsWideNowhere f (written_step step)) steps → IsCertificate f (log_text steps)

-- a text that spells a log which refutes the formula itself is a certificate that defines nothing
abbrev pub LogIsCertificate : Type 0
LogIsCertificate = (f : FormulaParts) (text : List ℕ) → SpellsRefutation f text → IsCertificate f text

-- where a text is a certificate, whatever it defines, nothing meets the formula
abbrev pub CertificateShowsUnmet : Type 0
CertificateShowsUnmet = (f : FormulaParts) (text : List ℕ) → IsFormula f → IsCertificate f text → IsUnmet f
