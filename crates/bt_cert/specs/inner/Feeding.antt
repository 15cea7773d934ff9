-- A certificate that is read on from a source, block by block.
use Rattle.std.specs.Prelude.{◌≡◌, ℕ, ◌+◌, ◌≤◌, List, length, Option, Result, Ok, Err}
use Rattle.std.specs.Io.KnownBytes.{Consumes}
use Rattle.bt_io.specs.Bytes.{IsAllOf, Takes, TakesAtMost}
use Rattle.bt_io.specs.Passages.{Passage, HasFault}
use Rattle.bt_cert.specs.inner.Stages.{Progress, ReadsOn}
use Rattle.bt_cert.specs.declared.fault.CertFault.{CertFault}
use Rattle.bt_cert.specs.declared.fault.CertFault.TheVariants.{ReadFault, TooLong}

-- so many bytes of the source were read on
pub record IsFed (before after : Option (List ℕ)) (taken : ℕ) (old new : Progress) : Type 0 where
  pub bytes : List ℕ
  pub consumed : Consumes before after bytes
  pub many : length bytes ≡ taken
  pub reads : ReadsOn old bytes new
  pub line : new.line ≤ old.line + taken

-- all that the source had left was read on, no more than the limit
pub record ReadsWhole (limit : ℕ) (source : Passage) (old new : Progress) : Type 0 where
  pub bytes : List ℕ
  pub all : IsAllOf source bytes
  pub few : length bytes ≤ limit
  pub reads : ReadsOn old bytes new
  pub line : new.line ≤ old.line + limit

-- the same, or the source failed, which its count of faults shows, or one byte past the limit was taken
abbrev pub ReadsRest : ℕ → Passage → Progress → Progress → Result (Unit {0}) CertFault → Type 0
ReadsRest limit source old new (Ok done) = ReadsWhole limit source old new
ReadsRest limit source old new (Err ReadFault) = HasFault source × TakesAtMost source limit
ReadsRest limit source old new (Err TooLong) = Takes source (limit + 1)
ReadsRest limit source old new (Err other) = ⊥
