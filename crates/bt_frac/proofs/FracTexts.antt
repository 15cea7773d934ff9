-- The bytes of a fraction's spelling.
use Rattle.std.proofs.Common.{◌≡◌, ◌≢◌, ℕ, suc, ◌<◌, ◌^◌, ◌==◌, Bool, true, false, cond, List, [], ◌∷◌, ◌++◌, ℤ, pos, negsuc, unsigned_abs, refl, sym, subst, arith, append-nil}
use Rattle.std.specs.Fmt.{decimal, signed_decimal}
use Rattle.std.specs.Int.{IsInRange}
use Rattle.std.proofs.lemmas.List.Elements.{All-cons, All-append, All-nil}
use Rattle.std.specs.List.{All}
use Rattle.bt_frac.proofs.Numerals.{decimal-lacks}
use Rattle.bt_frac.specs.Ratio.{Ratio, IsLowest}
use Rattle.bt_frac.specs.Texts.{frac_text}

wide : (n : ℕ) → n < 2 ^ 127 → n < 10 ^ 64
wide n h = omega arith

low : (byte : ℕ) → byte < 48 → ¬ IsInRange 48 57 byte
low byte h range = omega arith

digits_lack : (n byte : ℕ) → n < 2 ^ 127 → byte < 48 → All (λ b. b ≢ byte) (decimal n)
digits_lack n byte h below = decimal-lacks n byte (wide n h) (low byte below)

-- the bytes of a signed number are a sign and digits
signed_lacks : (z : ℤ) (byte : ℕ) → unsigned_abs z < 2 ^ 127 → byte < 48 → byte ≢ 45 → All (λ b. b ≢ byte) (signed_decimal z)
signed_lacks (pos n) byte h below sign = digits_lack n byte h below
signed_lacks (negsuc n) byte h below sign =
    All-cons (λ b. b ≢ byte) 45 (decimal (suc n)) (λ same. sign (sym same)) (digits_lack (suc n) byte h below)

-- what follows the numerator
tail : Bool → ℕ → List ℕ
tail true n = []
tail false n = 47 ∷ decimal n

parts : (whole : Bool) (front : List ℕ) (n : ℕ) → cond whole front (front ++ 47 ∷ decimal n) ≡ front ++ tail whole n
unfolding tail
parts true front n = sym (append-nil front)
parts false front n = refl

tail_lacks : (whole : Bool) (n byte : ℕ) → n < 2 ^ 127 → byte < 48 → byte ≢ 47 → All (λ b. b ≢ byte) (tail whole n)
unfolding tail
tail_lacks true n byte h below slash = All-nil (λ b. b ≢ byte)
tail_lacks false n byte h below slash = All-cons (λ b. b ≢ byte) 47 (decimal n) (λ same. slash (sym same)) (digits_lack n byte h below)

-- the bytes are digits, a minus and a slash
pub frac_text_lacks : (r : Ratio) (byte : ℕ) → IsLowest r → byte < 48 → byte ≢ 45 → byte ≢ 47 → All (λ b. b ≢ byte) (frac_text r)
frac_text_lacks r byte h below sign slash =
    subst (λ bytes. All (λ b. b ≢ byte) bytes) (sym (parts (r.under == 1) (signed_decimal r.over) r.under))
    (All-append (λ b. b ≢ byte) (signed_decimal r.over) (tail (r.under == 1) r.under) (signed_lacks r.over byte h.over_fits below sign)
    (tail_lacks (r.under == 1) r.under byte h.under_fits below slash))
