-- What reading a certificate from a source tells.
use Rattle.std.specs.Prelude.{ℕ, ◌+◌, ◌≤◌, List, ◌++◌, length, Result, Ok, Err}
use Rattle.bt_text.specs.Answers.{Answers}
use Rattle.bt_io.specs.Bytes.{IsAllOf, Takes, TakesAtMost}
use Rattle.bt_io.specs.Passages.{Passage, HasFault}
use Rattle.bt_cnf.specs.Formulas.{FormulaParts}
use Rattle.bt_cert.specs.Certificates.{IsCertRead}
use Rattle.bt_cert.specs.declared.fault.CertFault.{CertFault}
use Rattle.bt_cert.specs.declared.fault.CertFault.TheVariants.{CertLine, BadStep, NoVerdict, CertWide, ReadFault, TooLong, Memory}

-- all that the source had left was read, no more than the limit, and the right answer to it after the head is told
abbrev pub AnswersBy : (List ℕ → Result (Unit {0}) CertFault → Type 0) → List ℕ → ℕ → Passage → Result (Unit {0}) CertFault → Type 0
AnswersBy Right head limit source told =
    (bytes : List ℕ) × IsAllOf source bytes × (length bytes ≤ limit) × Answers Memory (Right (head ++ bytes)) told

-- what is told of a head and what a source had left, within a limit: that the source failed, which its count of
-- faults shows; or that one byte past the limit was taken; or else the right answer to the whole text
abbrev pub IsCheckedBy : (List ℕ → Result (Unit {0}) CertFault → Type 0) → List ℕ → ℕ → Passage → Result (Unit {0}) CertFault → Type 0
IsCheckedBy Right head limit source (Ok done) = AnswersBy Right head limit source (Ok done)
IsCheckedBy Right head limit source (Err (CertLine line)) = AnswersBy Right head limit source (Err (CertLine line))
IsCheckedBy Right head limit source (Err (BadStep line cause)) = AnswersBy Right head limit source (Err (BadStep line cause))
IsCheckedBy Right head limit source (Err NoVerdict) = AnswersBy Right head limit source (Err NoVerdict)
IsCheckedBy Right head limit source (Err (CertWide line row column)) = AnswersBy Right head limit source (Err (CertWide line row column))
IsCheckedBy Right head limit source (Err ReadFault) = HasFault source × TakesAtMost source limit
IsCheckedBy Right head limit source (Err TooLong) = Takes source (limit + 1)
IsCheckedBy Right head limit source (Err Memory) = TakesAtMost source limit

-- a head and a source were checked within a limit, and the source's count of faults has not fallen
pub record ChecksBy (Right : List ℕ → Result (Unit {0}) CertFault → Type 0) (head : List ℕ) (limit : ℕ) (source : Passage)
    (told : Result (Unit {0}) CertFault) : Type 0 where
  pub checked : IsCheckedBy Right head limit source told
  pub count : source.faults ≤ source.faults_after

-- the same of a certificate for a formula
abbrev pub AnswersWhole : FormulaParts → List ℕ → ℕ → Passage → Result (Unit {0}) CertFault → Type 0
AnswersWhole f = AnswersBy (IsCertRead f)

abbrev pub IsLogChecked : FormulaParts → List ℕ → ℕ → Passage → Result (Unit {0}) CertFault → Type 0
IsLogChecked f = IsCheckedBy (IsCertRead f)

abbrev pub ChecksLog : FormulaParts → List ℕ → ℕ → Passage → Result (Unit {0}) CertFault → Type 0
ChecksLog f = ChecksBy (IsCertRead f)
