-- What the front of an input, of which these bytes are held, tells of what is to stand there, whatever may follow.
use Rattle.std.specs.Prelude.{◌≡◌, ◌⊎◌, ℕ, ◌+◌, ◌<◌, ◌≤◌, Bool, true, false, List, [], ◌++◌, All, Option, Some, None, Result, Ok, Err, length}
use Rattle.bt_text.specs.Blanks.{IsBlank}
use Rattle.bt_text.specs.Lines.{IsFirstLine, SplitsAt}
use Rattle.bt_designs.specs.declared.fault.DesignFault.{DesignFault}
use Rattle.bt_designs.specs.declared.fault.DesignFault.TheVariants as design
use Rattle.bt_designs.specs.declared.held.Held.{Held}

-- what may follow the bytes: nothing where the input has ended
abbrev pub MayFollow : Bool → List ℕ → Type 0
MayFollow ended more = ended ≡ true → more ≡ []

-- this is right of the bytes, whatever may follow them
abbrev pub Lasts : {R : Type 0} → (List ℕ → R → Type 0) → Bool → List ℕ → R → Type 0
Lasts Right ended bytes answer = (more : List ℕ) → MayFollow ended more → Right (bytes ++ more) answer

-- and so it is behind the blanks that were dropped
abbrev pub LastsBehind : {R : Type 0} → (List ℕ → R → Type 0) → Held → R → Type 0
LastsBehind Right held answer = (blanks : List ℕ) → All IsBlank blanks → length blanks ≡ held.skipped → Lasts Right held.ended (blanks ++ held.bytes.now) answer

-- a byte is there, or the input has ended
abbrev pub IsAtHand : Bool → List ℕ → Type 0
IsAtHand ended bytes = (ended ≡ true) ⊎ (0 < length bytes)

-- what is told of something that is to stand at the front: this stands there, and so much of the bytes is it; or more
-- has to be read; or it is refused
abbrev pub TellsFront : {X D : Type 0} → (List ℕ → Result (X × ℕ) DesignFault → Type 0) → (D → X × ℕ) → Held → Result (Option D) DesignFault → Type 0
TellsFront IsFront of held (Ok (Some d)) =
    IsAtHand held.ended held.bytes.now × ((of d).1 ≤ length held.bytes.now) × LastsBehind IsFront held (Ok ((of d).0, held.skipped + (of d).1))
TellsFront IsFront of held (Ok None) = held.ended ≡ false
TellsFront IsFront of held (Err (design.Refused r)) = IsAtHand held.ended held.bytes.now × LastsBehind IsFront held (Err (design.Refused r))
TellsFront IsFront of held (Err design.Memory) = Unit {0}

-- the first line of a text and what follows it, where they are told: the line has its line feed, or the input has ended
abbrev pub TellsLine : Bool → List ℕ → List ℕ → List ℕ → Type 0
TellsLine ended text title lines = SplitsAt 10 text title lines ⊎ ((ended ≡ true) × IsFirstLine text title lines)
