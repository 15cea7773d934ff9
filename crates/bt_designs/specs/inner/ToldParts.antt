-- The part of what is held by which a design is told, and what its fault tells.
use Rattle.std.specs.Prelude.{◌≡◌, ◌⊎◌, ℕ, ◌+◌, ◌<◌, true, false, List, [], ◌++◌, Option, Some, None, Result, Ok, Err, length}
use denote.Ref.{Bor}
use Rattle.bt_text.specs.Lines.{line, line_feeds}
use Rattle.bt_designs.specs.declared.fault.DesignFault.{DesignFault}
use Rattle.bt_designs.specs.declared.fault.DesignFault.TheVariants as design
use Rattle.bt_designs.specs.declared.held.Held.{Held}
use Rattle.bt_designs.specs.declared.refusal.Refusal.{Refusal}
use Rattle.bt_designs.specs.declared.refusal.Refusal.TheVariants.{Json, NetLine}
use Rattle.bt_designs.specs.Designs.{IsJsonText}
use Rattle.bt_designs.specs.Longer.{IsOtherText}
use Rattle.bt_designs.specs.inner.Moved.{moved_told}
use Rattle.bt_designs.specs.Told.{MayFollow, IsAtHand}

-- JSON text, or other text that ends with a line feed
abbrev pub IsToldText : List ℕ → Type 0
IsToldText part = IsJsonText part ⊎ (IsOtherText part × ((lines : List ℕ) × (part ≡ line lines)))

-- the bytes begin with this part: it is all of them, and the input has ended; or the input goes on, and the part is
-- JSON text, or other text that ends with a line feed. Behind blanks that were dropped it is JSON text
pub record IsToldPart (held : Held) (part : List ℕ) : Type 0 where
  pub rest : List ℕ
  pub bytes_are : held.bytes.now ≡ part ++ rest
  pub kind : ((held.ended ≡ true) × (rest ≡ [])) ⊎ ((held.ended ≡ false) × IsToldText part)
  pub behind : IsJsonText part ⊎ (held.skipped ≡ 0)

-- other text than JSON stands behind blanks that were dropped
pub record IsIndented (held : Held) : Type 0 where
  pub some : 0 < held.skipped
  pub other : (more : List ℕ) → MayFollow held.ended more → IsJsonText (held.bytes.now ++ more) → ⊥
  pub at_hand : IsAtHand held.ended held.bytes.now

-- the bytes of other text begin with this part, by which a design is told; behind blanks that were dropped there is
-- none
abbrev pub IsTextPart : Held → List ℕ → Type 0
IsTextPart held part = (held.skipped ≡ 0 → IsToldPart held part) × (0 < held.skipped → IsIndented held)

-- a part by which a design is told, where there is one; more has to be read where there is none; or what is refused
-- whatever design is wanted
abbrev pub TellsPart : Held → Result (Option (Bor (List ℕ))) DesignFault → Type 0
TellsPart held (Ok (Some part)) = IsToldPart held part.now
TellsPart held (Ok None) = held.ended ≡ false
TellsPart held (Err fault) = (fault ≡ design.Refused (NetLine 1)) × IsIndented held

-- the refusal is that JSON text ends with the bytes, or that of the line that is next
abbrev pub RestsOnEnd : List ℕ → Refusal → Type 0
RestsOnEnd bytes (Json at) = at ≡ length bytes
RestsOnEnd bytes (NetLine k) = k ≡ line_feeds bytes + 1
RestsOnEnd bytes other = ⊥

-- and the same of why there is no design, but for want of memory
abbrev pub IsSettledFault : List ℕ → DesignFault → Type 0
IsSettledFault bytes (design.Refused r) = RestsOnEnd bytes r → ⊥
IsSettledFault bytes design.Memory = Unit {0}

-- why there is no design at the front, where that is told: the fault of the part, so many bytes later, which doesn't
-- rest on the end of the part but where the input has ended
abbrev pub TellsFault : Held → List ℕ → DesignFault → Option DesignFault → Type 0
TellsFault held part fault None = held.ended ≡ false
TellsFault held part fault (Some told) = (told ≡ moved_told held.skipped fault) × (held.ended ≡ false → IsSettledFault part fault)

-- what a part tells of what was read at its front: this, where it ends before the part does or the input has ended;
-- that more has to be read; or the fault that is told
abbrev pub TellsRead : {D : Type 0} → (D → ℕ) → Held → List ℕ → Result D DesignFault → Result (Option D) DesignFault → Type 0
TellsRead used_of held part (Ok read) (Ok (Some d)) = (d ≡ read) × (held.ended ≡ false → used_of d < length part)
TellsRead used_of held part (Ok read) (Err told) = ⊥
TellsRead used_of held part (Err fault) (Ok (Some d)) = ⊥
TellsRead used_of held part (Err fault) (Err told) = TellsFault held part fault (Some told)
TellsRead used_of held part read (Ok None) = held.ended ≡ false
