-- What stands at the front of an input, with nothing but blanks behind it.
use Rattle.std.specs.Prelude.{◌≡◌, ℕ, ◌+◌, ◌-◌, ◌<◌, List, [], length, take, drop, ◌⊎◌, Result, Ok, Err}
use Rattle.bt_text.specs.Blanks.{SkipsBlanks}
use Rattle.bt_text.specs.Lines.{line_feeds}
use Rattle.bt_net.specs.Network.{Network}
use Rattle.bt_designs.specs.declared.fault.DesignFault.{DesignFault}
use Rattle.bt_designs.specs.declared.fault.DesignFault.TheVariants.{Refused}
use Rattle.bt_designs.specs.declared.refusal.Refusal.{Refusal}
use Rattle.bt_designs.specs.declared.refusal.Refusal.TheVariants.{Json, NetLine}
use Rattle.bt_designs.specs.Designs.{IsJsonText, IsDesign}
use Rattle.bt_designs.specs.Steps.{InTurn}

-- the number, from 1, of the line on which the byte at an offset stands, counted by line feeds
abbrev pub line_at : List ℕ → ℕ → ℕ
line_at bytes at = line_feeds (take at bytes) + 1

-- the refusal of what begins at an offset behind a design: that offset behind JSON, and its line behind network text
abbrev pub IsRefusedAt : List ℕ → ℕ → Refusal → Type 0
IsRefusedAt bytes at r = (IsJsonText bytes × (r ≡ Json at)) ⊎ ((IsJsonText bytes → ⊥) × (r ≡ NetLine (line_at bytes at)))

-- what comes where this was found and this is what follows it and blanks: what was found where that is nothing, else
-- its refusal
abbrev pub IsEnded : {X : Type 0} → List ℕ → X → List ℕ → Result X DesignFault → Type 0
IsEnded bytes found text answer = ((text ≡ []) × (answer ≡ Ok found))
    ⊎ ((0 < length text) × (r : Refusal) × IsRefusedAt bytes (length bytes - length text) r × (answer ≡ Err (Refused r)))

-- what comes of bytes at whose front something is to stand alone: why it doesn't stand there, or what stands there
-- where only blanks follow it, or the refusal of the first byte that is none
abbrev pub IsAlone : {X : Type 0} → (List ℕ → Result (X × ℕ) DesignFault → Type 0) → List ℕ → Result X DesignFault → Type 0
IsAlone {X} IsFront bytes = InTurn (IsFront bytes) Err (λ (found : X × ℕ) answer. (text : List ℕ) × SkipsBlanks (drop found.1 bytes) text × IsEnded bytes found.0 text answer)

-- what comes of bytes that are to be a design alone: the refusal of the design at their front, or the design's network
-- where only blanks follow it, or the refusal of the first byte that is none
abbrev pub IsLoneNet : List ℕ → Result Network DesignFault → Type 0
IsLoneNet bytes = IsAlone IsDesign bytes
