-- Pieces of a text before or after a byte that they lack.
use Rattle.std.proofs.Common.{◌≡◌, ◌≢◌, ℕ, List, [], ◌∷◌, ◌++◌, refl, sym, inl, inr}
use Rattle.std.proofs.lemmas.List.Elements.{All-head, All-tail}
use Rattle.bt_text.specs.Lines.{Lacks}
use Rattle.bt_text.specs.Pieces.{BeginsWith, LeadsTo}

-- a rest that begins with the byte begins with no other
ends_apart : (byte : ℕ) (rest : List ℕ) (other : ℕ) (more : List ℕ) → BeginsWith byte rest → other ≢ byte → rest ≡ other ∷ more → ⊥
ends_apart byte rest other more begins apart e = elim begins [ inl none ↦ cc | inr found ↦ let same = found.1 in apart cc ]

-- a text has one piece before a byte
pub piece_is : (byte : ℕ) (a x b y : List ℕ) → Lacks byte a → Lacks byte b → BeginsWith byte x → BeginsWith byte y → a ++ x ≡ b ++ y
    → (a ≡ b) × (x ≡ y)
piece_is byte [] x [] y lacks lacks' begins begins' e = (refl, e)
piece_is byte [] x (d ∷ b) y lacks lacks' begins begins' e =
    absurd (ends_apart byte x d (b ++ y) begins (All-head (λ o. o ≢ byte) d b lacks') e)
piece_is byte (c ∷ a) x [] y lacks lacks' begins begins' e =
    absurd (ends_apart byte y c (a ++ x) begins' (All-head (λ o. o ≢ byte) c a lacks) (sym e))
piece_is byte (c ∷ a) x (d ∷ b) y lacks lacks' begins begins' e =
    let heads : c ≡ d = cc in
    let tails : a ++ x ≡ b ++ y = cc in
    let more = piece_is byte a x b y (All-tail (λ o. o ≢ byte) c a lacks) (All-tail (λ o. o ≢ byte) d b lacks') begins begins' tails in
    let fronts = more.0 in
    (cc, more.1)

-- a text has one piece after a byte
pub piece_apart : (byte : ℕ) (text a x b y : List ℕ) → LeadsTo byte text a x → LeadsTo byte text b y → a ≡ b
piece_apart byte text a x b y h k =
    let same : a ++ x ≡ b ++ y = let e = h.text_is in let f = k.text_is in cc in
    (piece_is byte a x b y h.lacks k.lacks h.begins k.begins same).0
