-- What was gathered of a source so far.
use Rattle.std.specs.Prelude.{◌≡◌, ℕ, ◌+◌, ◌≤◌, true, List, ◌++◌, All, length}
use Rattle.std.specs.Io.KnownBytes.{Consumes, IsAtEnd}
use Rattle.bt_text.specs.Blanks.{IsBlank}
use Rattle.bt_io.specs.Passages.{Passage}
use Rattle.bt_designs.specs.declared.held.Gathered.{Gathered}
use Rattle.bt_designs.specs.declared.held.TheConstants.{MOST_CHECKED}

-- what was gathered of a source is what it had, blanks and then the bytes, within the limit; and where it has ended,
-- nothing is left
pub record IsGatheredOf (source : Passage) (gathered : Gathered) : Type 0 where
  pub blanks : List ℕ
  pub are_blanks : All IsBlank blanks
  pub counted : length blanks ≡ gathered.skipped
  pub taken : Consumes source.before source.after (blanks ++ gathered.bytes.items)
  pub few : gathered.skipped + length gathered.bytes.items ≤ MOST_CHECKED
  pub at_end : gathered.ended ≡ true → IsAtEnd source.after
  pub count : source.faults ≤ source.faults_after
