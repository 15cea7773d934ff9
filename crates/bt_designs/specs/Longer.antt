-- A design at the front of bytes, and of longer bytes that begin with them.
use Rattle.std.specs.Prelude.{◌≡◌, ◌≢◌, ◌⊎◌, ℕ, ◌+◌, List, ◌∷◌, ◌++◌, length, Ok, Err}
use Rattle.bt_text.specs.Blanks.{SkipsBlanks}
use Rattle.bt_text.specs.Lines.{line, line_feeds}
use Rattle.bt_net.specs.Network.{Network}
use Rattle.bt_designs.specs.declared.fault.DesignFault.{DesignFault}
use Rattle.bt_designs.specs.declared.fault.DesignFault.TheVariants.{Refused}
use Rattle.bt_designs.specs.declared.refusal.Refusal.TheVariants.{Json, NetLine}
use Rattle.bt_designs.specs.Designs.{IsJsonText, IsDesign}

-- a design at the front of bytes stands at the front of longer ones; or they end with `end` without its line feed, and
-- it stands there where that follows
abbrev pub DesignStays : Type 0
DesignStays = (bytes : List ℕ) (n : Network) (used : ℕ) → IsDesign bytes (Ok (n, used)) → ((more : List ℕ) → IsDesign (bytes ++ more) (Ok (n, used)))
    ⊎ ((used ≡ length bytes) × ((more : List ℕ) → IsDesign (bytes ++ 10 ∷ more) (Ok (n, used + 1))))

-- the first byte that isn't blank is there, and is no `{`
abbrev pub IsOtherText : List ℕ → Type 0
IsOtherText bytes = (byte : ℕ) × (rest : List ℕ) × SkipsBlanks bytes (byte ∷ rest) × (byte ≢ 123)

-- a refusal doesn't rest on where the bytes end: that of JSON text isn't that it ends there; and network text ends with
-- a line feed, and it isn't the refusal of the line that is next
abbrev pub IsSettled : List ℕ → DesignFault → Type 0
IsSettled bytes fault = (IsJsonText bytes × (fault ≢ Refused (Json (length bytes))))
    ⊎ (IsOtherText bytes × ((lines : List ℕ) × (bytes ≡ line lines)) × (fault ≢ Refused (NetLine (line_feeds bytes + 1))))

-- such a refusal is that of all longer bytes
abbrev pub RefusalStays : Type 0
RefusalStays = (bytes more : List ℕ) (fault : DesignFault) → IsSettled bytes fault → IsDesign bytes (Err fault) → IsDesign (bytes ++ more) (Err fault)
