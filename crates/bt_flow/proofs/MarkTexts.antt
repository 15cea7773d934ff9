-- The bytes of a mark.
use Rattle.std.proofs.Common.{◌≡◌, ◌≢◌, ℕ, ◌<◌, Bool, true, false, [], ◌∷◌, arith, refl, ap, get_or}
use Rattle.std.specs.Bool.{⊤}
use Rattle.std.specs.List.{All}
use Rattle.std.proofs.lemmas.List.Elements.{All-cons, All-nil, All-weaker}
use Rattle.bt_text.specs.Lines.{Lacks}
use Rattle.bt_flow.specs.StateText.{mark_text}

one_byte : (b : ℕ) → 44 < b → All (λ b. 44 < b) (b ∷ [])
one_byte b high = All-cons (λ b. 44 < b) b [] high (All-nil (λ b. 44 < b))

mark_high : (backed : Bool) → All (λ b. 44 < b) (mark_text backed)
mark_high true = one_byte 98 (omega arith)
mark_high false = one_byte 102 (omega arith)

pub mark_lacks : (backed : Bool) → ⊤ → Lacks 32 (mark_text backed)
mark_lacks backed h = All-weaker (λ b. 44 < b) (λ b. b ≢ 32) (λ b high. omega arith) (mark_text backed) (mark_high backed)

pub mark_in_line : (backed : Bool) → ⊤ → Lacks 10 (mark_text backed)
mark_in_line backed h = All-weaker (λ b. 44 < b) (λ b. b ≢ 10) (λ b high. omega arith) (mark_text backed) (mark_high backed)

apart : (m n : ℕ) → m ≢ n → m ≡ n → ⊥
apart m n other e = other e

pub mark_same : (a b : Bool) → ⊤ → ⊤ → mark_text a ≡ mark_text b → a ≡ b
mark_same true true ha hb e = refl
mark_same true false ha hb e = absurd (apart 98 102 (omega arith) (ap (λ bytes. get_or bytes 0 0) e))
mark_same false true ha hb e = absurd (apart 102 98 (omega arith) (ap (λ bytes. get_or bytes 0 0) e))
mark_same false false ha hb e = refl
