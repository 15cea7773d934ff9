-- The fraction of two whole numbers.
use Rattle.std.proofs.Common.{◌≡◌, ◌≢◌, ℕ, ◌*◌, ◌<◌, ◌≤◌, ◌/◌, ◌^◌, arith, ℤ, pos, neg_ℤ, ◌*ℤ◌, ◌<ℤ◌, ◌↔◌, ap, sym, ◌∙◌, refl, subst, unsigned_abs, Bool, true, false, IsTrue, if◌then◌else◌}
use Rattle.std.specs.Int.{IsGcd}
use Rattle.std.proofs.lemmas.Bool.{false≢true}
use Rattle.std.proofs.lemmas.Int.{ints, unsigned_abs-mul}
use Rattle.std.proofs.lemmas.Nat.Gcd.{same_from_IsGcd}
use Rattle.std.proofs.Math.IntN.{*ℤ_comm}
use Rattle.std.proofs.Math.Nat.{div-mul_cancel, le_of_mul-le-mul_right}
use Rattle.bt_frac.specs.Ratio.{Ratio, IsLowest, IsQuotient, FitsPart, parts_ratio}
use Rattle.bt_frac.proofs.Gcds.{coprime_quotients, gcd_positive, quotient_positive}
use Rattle.bt_frac.proofs.Ring.{mul_assoc, neg_mul, mul_neg}
use Rattle.bt_frac.proofs.Euclid.{same_under}

pub cancel : (m n g : ℕ) → 0 < g → m * g ≡ n * g → m ≡ n
cancel m n g some e =
    let p : m * g ≤ n * g = omega arith in
    let q : n * g ≤ m * g = omega arith in
    omega (arith, le_of_mul-le-mul_right p some, le_of_mul-le-mul_right q some)

-- the quotients by the greatest common divisor have none
pub quotients_apart : (m n g : ℕ) → 0 < n → IsGcd m n g → IsGcd (m / g) (n / g) 1
quotients_apart m n g some h =
    let em : m / g * g ≡ m = div-mul_cancel g h.0 in
    let en : n / g * g ≡ n = div-mul_cancel g h.1 in
    coprime_quotients (m / g) (n / g) g (gcd_positive m n g h some) (subst (λ k. IsGcd (m / g * g) k g) (sym en) (subst (λ k. IsGcd k n g) (sym em) h))

negated_size : (z : ℤ) (negated : Bool) → unsigned_abs (if negated then neg_ℤ z else z) ≡ unsigned_abs z
negated_size z true = omega (arith, ints)
negated_size z false = refl

pub quotient_fits : (p z : ℤ) (n g : ℕ) → 0 < n → IsGcd (unsigned_abs p) n g → unsigned_abs z * g ≡ unsigned_abs p → unsigned_abs p / g < 2 ^ 127 → FitsPart z
quotient_fits p z n g some h e small =
    let is : unsigned_abs z ≡ unsigned_abs p / g = cancel (unsigned_abs z) (unsigned_abs p / g) g (gcd_positive (unsigned_abs p) n g h some) (e ∙ sym (div-mul_cancel g h.0)) in
    omega arith

pub quotient_lowest : (p z : ℤ) (n g : ℕ) (negated : Bool) → 0 < n → IsGcd (unsigned_abs p) n g → unsigned_abs z * g ≡ unsigned_abs p
    → unsigned_abs p / g < 2 ^ 127 → n / g < 2 ^ 127 → IsLowest (record { over = if negated then neg_ℤ z else z; under = n / g })
quotient_lowest p z n g negated some h e p_small n_small =
    let size : unsigned_abs (if negated then neg_ℤ z else z) ≡ unsigned_abs p / g =
    negated_size z negated ∙ cancel (unsigned_abs z) (unsigned_abs p / g) g (gcd_positive (unsigned_abs p) n g h some) (e ∙ sym (div-mul_cancel g h.0)) in
    record {
      positive = quotient_positive n g some h.1;
      coprime = subst (λ m. IsGcd m (n / g) 1) (sym size) (quotients_apart (unsigned_abs p) n g some h);
      over_fits = omega arith;
      under_fits = n_small;
    }

size_of_positive : (q : ℤ) → (q <ℤ pos 0 → ⊥) → q ≡ pos (unsigned_abs q)
size_of_positive q h = grind (arith, ints)

size_of_negative : (q : ℤ) → q <ℤ pos 0 → q ≡ neg_ℤ (pos (unsigned_abs q))
size_of_negative q h = omega (arith, ints)

neg_neg : (z : ℤ) → neg_ℤ (neg_ℤ z) ≡ z
neg_neg z = omega (arith, ints)

plain_is : (p z : ℤ) (n g : ℕ) → z *ℤ pos g ≡ p → n / g * g ≡ n → z *ℤ pos n ≡ p *ℤ pos (n / g)
plain_is p z n g e f =
    ap (λ m. z *ℤ pos m) (sym f) ∙ ap (λ t. z *ℤ t) (*ℤ_comm (pos (n / g)) (pos g)) ∙ sym (mul_assoc z (pos g) (pos (n / g))) ∙ ap (λ t. t *ℤ pos (n / g)) e

pub quotient_is : (p q z : ℤ) (g : ℕ) (negated : Bool) → z *ℤ pos g ≡ p → unsigned_abs q / g * g ≡ unsigned_abs q → (IsTrue negated ↔ (q <ℤ pos 0))
    → (if negated then neg_ℤ z else z) *ℤ q ≡ p *ℤ pos (unsigned_abs q / g)
quotient_is p q z g true e f sign =
    ap (λ t. neg_ℤ z *ℤ t) (size_of_negative q (sign.0 refl)) ∙ neg_mul z (neg_ℤ (pos (unsigned_abs q))) ∙ ap neg_ℤ (mul_neg z (pos (unsigned_abs q)))
    ∙ neg_neg (z *ℤ pos (unsigned_abs q)) ∙ plain_is p z (unsigned_abs q) g e f
quotient_is p q z g false e f sign =
    ap (λ t. z *ℤ t) (size_of_positive q (λ h. absurd (false≢true (sign.1 h)))) ∙ plain_is p z (unsigned_abs q) g e f

-- a fraction in lowest terms that is p / q has the quotients by the greatest common divisor as its parts
pub quotient_unique : (p q : ℤ) (g : ℕ) (f : Ratio) → 0 < unsigned_abs q → IsGcd (unsigned_abs p) (unsigned_abs q) g → IsLowest f → IsQuotient p q f
    → (unsigned_abs f.over ≡ unsigned_abs p / g) × (f.under ≡ unsigned_abs q / g)
quotient_unique p q g f some h low is =
    let m : ℕ = unsigned_abs p in
    let n : ℕ = unsigned_abs q in
    let g_some : 0 < g = gcd_positive m n g h some in
    let em : m / g * g ≡ m = div-mul_cancel g h.0 in
    let en : n / g * g ≡ n = div-mul_cancel g h.1 in
    let sizes : unsigned_abs f.over * n ≡ m * f.under = sym (unsigned_abs-mul f.over q) ∙ ap unsigned_abs is ∙ unsigned_abs-mul p (pos f.under) in
    let scaled : unsigned_abs f.over * (n / g) * g ≡ m / g * f.under * g =
    omega (arith, sizes, ap (λ k. unsigned_abs f.over * k) en, ap (λ k. k * f.under) em) in
    let parts : unsigned_abs f.over * (n / g) ≡ m / g * f.under = cancel (unsigned_abs f.over * (n / g)) (m / g * f.under) g g_some scaled in
    let under : f.under ≡ n / g = same_under (unsigned_abs f.over) f.under (m / g) (n / g) low.coprime (quotients_apart m n g some h) parts in
    (cancel (unsigned_abs f.over) (m / g) f.under low.positive (ap (λ k. unsigned_abs f.over * k) under ∙ parts), under)

pub nonzero_size : (q : ℤ) → q ≢ pos 0 → 0 < unsigned_abs q
nonzero_size q h = grind (arith, ints)

pub parts_size : (negative : Bool) (size : ℕ) → unsigned_abs (if negative then neg_ℤ (pos size) else pos size) ≡ size
parts_size true size = omega (arith, ints)
parts_size false size = refl

pub parts_lowest : (negative : Bool) (size under : ℕ) → 0 < under → size < 2 ^ 127 → under < 2 ^ 127 → IsGcd size under 1 → IsLowest (parts_ratio negative size under)
parts_lowest negative size under some s u h =
    let e = parts_size negative size in
    record { positive = some; coprime = subst (λ m. IsGcd m under 1) (sym e) h; over_fits = subst (λ m. m < 2 ^ 127) (sym e) s; under_fits = u }

pub parts_coprime : (negative : Bool) (size under g : ℕ) → IsGcd size under g → IsLowest (parts_ratio negative size under) → g ≡ 1
parts_coprime negative size under g h low = same_from_IsGcd size under g 1 h (subst (λ m. IsGcd m under 1) (parts_size negative size) low.coprime)
