-- Reading a source on, block by block, of which blanks in front are dropped.
use Rattle.std.specs.Prelude.{◌≡◌, ◌⊎◌, ℕ, ◌+◌, ◌-◌, ◌<◌, ◌≤◌, true, List, [], ◌++◌, All, Result, Ok, Err, length}
use Rattle.std.specs.Io.KnownBytes.{Consumes, IsAtEnd}
use Rattle.bt_text.specs.Blanks.{IsBlank}
use Rattle.bt_io.specs.Bytes.{ReadsAll}
use Rattle.bt_io.specs.Passages.{Passage}
use Rattle.bt_io.specs.declared.fault.ReadAll.{ReadAll}
use Rattle.bt_designs.specs.declared.held.Gathered.{Gathered}
use Rattle.bt_designs.specs.declared.held.TheConstants.{MOST_CHECKED}

-- a piece of the source was put behind the bytes, or dropped with them as blanks; and it has ended, or the piece isn't
-- empty
pub record IsGathered (old : Gathered) (source : Passage) (new : Gathered) : Type 0 where
  pub piece : List ℕ
  pub taken : Consumes source.before source.after piece
  pub few : new.skipped + length new.bytes.items ≤ MOST_CHECKED
  pub at_end : new.ended ≡ true → IsAtEnd source.after
  pub more : (new.ended ≡ true) ⊎ (0 < length piece)
  pub kept : ((new.skipped ≡ old.skipped) × (new.bytes.items ≡ old.bytes.items ++ piece))
      ⊎ (All IsBlank (old.bytes.items ++ piece) × (new.skipped ≡ old.skipped + length (old.bytes.items ++ piece)) × (new.bytes.items ≡ []))
  pub count : source.faults ≤ source.faults_after

-- the source was read on; or it failed, is too long, or memory ran out
abbrev pub GathersOn : Gathered → Passage → Gathered → Result (Unit {0}) ReadAll → Type 0
GathersOn old source new (Ok done) = IsGathered old source new
GathersOn old source new (Err fault) = ReadsAll (MOST_CHECKED - (old.skipped + length old.bytes.items)) source (Err fault)
