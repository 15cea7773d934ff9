-- Blanks that are dropped of what was gathered.
use Rattle.std.specs.Prelude.{◌≡◌, ◌⊎◌, ◌+◌, [], All, length}
use Rattle.bt_text.specs.Blanks.{IsBlank}
use Rattle.bt_designs.specs.declared.held.Gathered.{Gathered}

-- all bytes were blanks, and are counted among those that were dropped
pub record AreDropped (old new : Gathered) : Type 0 where
  pub are_blanks : All IsBlank old.bytes.items
  pub counted : new.skipped ≡ old.skipped + length old.bytes.items
  pub none : new.bytes.items ≡ []
  pub ended : new.ended ≡ old.ended

-- the bytes were dropped as blanks, or all stays
abbrev pub DropsBlanks : Gathered → Gathered → Type 0
DropsBlanks old new = AreDropped old new ⊎ (new ≡ old)
