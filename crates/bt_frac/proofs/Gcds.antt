-- Quotients by a greatest common divisor.
use Rattle.std.proofs.Common.{◌≡◌, ℕ, ◌<◌, ◌*◌, ◌/◌, ◌^◌, sym, refl, subst, arith, ◌∙◌, ap, ℤ, pos, negsuc, neg_ℤ, ◌+ℤ◌, ◌-ℤ◌, ◌*ℤ◌, ◌≤ℤ◌, ◌<ℤ◌, unsigned_abs, lit<, zero, suc, Bool, true, false, IsTrue, ◌↔◌, if◌then◌else◌}
use Rattle.std.specs.Int.{IsGcd}
use Rattle.std.proofs.lemmas.Int.{ints}
use Rattle.std.proofs.Math.Nat.{one-dvd, mul-dvd-mul_right, dvd_of_mul-dvd-mul_right, one-mul, pos_of_dvd_of_pos, div-mul_cancel, le-mul_of_pos_right, zero-mul}
use Rattle.std.proofs.lemmas.Bool.{false≢true}
use Rattle.bt_frac.specs.Ratio.{Ratio, IsLowest, FitsPart, AddNumbers, AddFits}
use Rattle.std.proofs.Math.Nat.{mul_comm}
use Rattle.std.proofs.Math.IntN.{pos-*ℤ-pos}
use Rattle.bt_frac.proofs.Ring.{mul_distrib_right, mul_assoc}
use Prim.Native.Nat.{◌∣◌}

-- what is left of two numbers has no common divisor
pub coprime_quotients : (a b g : ℕ) → 0 < g → IsGcd (a * g) (b * g) g → IsGcd a b 1
coprime_quotients a b g some h = (
  one-dvd a,
  one-dvd b,
  λ d p q.
      dvd_of_mul-dvd-mul_right d some
      (subst (λ n. d * g ∣ n) (sym (one-mul g)) (h.2 (d * g) (mul-dvd-mul_right d p g) (mul-dvd-mul_right d q g))),
)

pub gcd_positive : (a b g : ℕ) → IsGcd a b g → 0 < b → 0 < g
gcd_positive a b g h some = pos_of_dvd_of_pos h.1 some

pub neg_mul : (m n : ℕ) → neg_ℤ (pos m) *ℤ pos n ≡ neg_ℤ (pos (m * n))
neg_mul zero n = ap pos (zero-mul n) ∙ ap (λ m. neg_ℤ (pos m)) (sym (zero-mul n))
neg_mul (suc m) n = refl

abs_neg : (m : ℕ) → unsigned_abs (neg_ℤ (pos m)) ≡ m
abs_neg m = omega (arith, ints)

negative_is : (z : ℤ) → z <ℤ pos 0 → neg_ℤ (pos (unsigned_abs z)) ≡ z
negative_is z h = omega (arith, ints)

positive_is : (z : ℤ) → pos 0 ≤ℤ z → pos (unsigned_abs z) ≡ z
positive_is z h = omega (arith, ints)

not_negative : (z : ℤ) → (z <ℤ pos 0 → ⊥) → pos 0 ≤ℤ z
not_negative (pos n) h = omega (arith, ints)
not_negative (negsuc n) h = absurd (h (omega (arith, ints)))

-- a quotient of the magnitude with the number's sign, times the divisor
pub quotient_product : (z : ℤ) (g : ℕ) (negative : Bool) → g ∣ unsigned_abs z → (IsTrue negative ↔ (z <ℤ pos 0))
    → (if negative then neg_ℤ (pos (unsigned_abs z / g)) else pos (unsigned_abs z / g)) *ℤ pos g ≡ z
quotient_product z g true d sign =
    neg_mul (unsigned_abs z / g) g ∙ ap (λ n. neg_ℤ (pos n)) (div-mul_cancel g d) ∙ negative_is z (sign.0 refl)
quotient_product z g false d sign =
    ap pos (div-mul_cancel g d) ∙ positive_is z (not_negative z (λ h. absurd (false≢true (sign.1 h))))

pub quotient_size : (z : ℤ) (g : ℕ) (negative : Bool) → g ∣ unsigned_abs z
    → unsigned_abs (if negative then neg_ℤ (pos (unsigned_abs z / g)) else pos (unsigned_abs z / g)) * g ≡ unsigned_abs z
quotient_size z g true d = ap (λ n. n * g) (abs_neg (unsigned_abs z / g)) ∙ div-mul_cancel g d
quotient_size z g false d = div-mul_cancel g d

pub quotient_positive : (n g : ℕ) → 0 < n → g ∣ n → 0 < n / g
quotient_positive n g some d =
    let e : n / g * g ≡ n = div-mul_cancel g d in
    positive_factor (n / g) g n some e
  where
    positive_factor : (m g n : ℕ) → 0 < n → m * g ≡ n → 0 < m
    positive_factor zero g n some e = let z = zero-mul g in omega (arith, z, e)
    positive_factor (suc m) g n some e = omega arith

below_product : (m g n top : ℕ) → 0 < g → m * g ≡ n → n < top → m < top
below_product m g n top some e h = let l = le-mul_of_pos_right m some in omega (arith, l, e)

-- a fraction whose parts were divided by their greatest common divisor is in lowest terms
pub lowest : (z q : ℤ) (n g : ℕ) → 0 < n → n < 2 ^ 127 → FitsPart z → 0 < g → IsGcd (unsigned_abs z) n g
    → unsigned_abs q * g ≡ unsigned_abs z → IsLowest (record { over = q; under = n / g })
lowest z q n g some fits z_fits g_some h e =
    let d : n / g * g ≡ n = div-mul_cancel g h.1 in
    record {
      positive = quotient_positive n g some h.1;
      coprime = coprime_quotients (unsigned_abs q) (n / g) g g_some (subst (λ m. IsGcd m (n / g * g) g) (sym e) (subst (λ m. IsGcd (unsigned_abs z) m g) (sym d) h));
      over_fits = below_product (unsigned_abs q) g (unsigned_abs z) (2 ^ 127) g_some e z_fits;
      under_fits = below_product (n / g) g n (2 ^ 127) g_some d fits;
    }

-- the numbers of an addition
abbrev pub numbers : (a b : Ratio) (g : ℕ) → IsGcd a.under b.under g → AddNumbers a b
numbers a b g h = record { common = g; is_common = h; left = a.over *ℤ pos (b.under / g); left_is = refl; right = b.over *ℤ pos (a.under / g); right_is = refl; under = a.under * (b.under / g); under_is = refl }

pub coprime_one : (a : ℕ) → IsGcd a 1 1
coprime_one a = (one-dvd a, one-dvd 1, λ d p q. q)

-- nor has 1 a common divisor with a number
pub one_coprime : (m n : ℕ) → m ≡ 1 → IsGcd m n 1
one_coprime m n e = subst (λ k. IsGcd k n 1) (sym e) (one-dvd 1, one-dvd n, λ d p q. p)

pub coprime_to_one : (m n : ℕ) → n ≡ 1 → IsGcd m n 1
coprime_to_one m n e = subst (λ k. IsGcd m k 1) (sym e) (coprime_one m)

abs_negated : (z : ℤ) → unsigned_abs (pos 0 -ℤ z) ≡ unsigned_abs z
abs_negated z = omega (arith, ints)

-- a whole number
pub whole_lowest : (z : ℤ) → FitsPart z → IsLowest (record { over = z; under = 1 })
whole_lowest z fits = record { positive = omega arith; coprime = coprime_one (unsigned_abs z); over_fits = fits; under_fits = lit< tt }

-- a fraction negated
pub negated_lowest : (z : ℤ) (n : ℕ) → IsLowest (record { over = z; under = n }) → IsLowest (record { over = pos 0 -ℤ z; under = n })
negated_lowest z n h =
    let e = abs_negated z in
    record { positive = h.positive; coprime = subst (λ m. IsGcd m n 1) (sym e) h.coprime; over_fits = subst (λ m. m < 2 ^ 127) (sym e) h.over_fits; under_fits = h.under_fits }

times_factor : (x : ℤ) (n g m : ℕ) → n * g ≡ m → x *ℤ pos n *ℤ pos g ≡ x *ℤ pos m
times_factor x n g m e = mul_assoc x (pos n) (pos g) ∙ ap (λ t. x *ℤ t) (pos-*ℤ-pos n g ∙ ap pos e)

-- the sum over a common denominator, reduced by k
pub sum_is : (ao bo ro : ℤ) (au bu ru A B g k : ℕ) → A * g ≡ au → B * g ≡ bu
    → ro *ℤ pos k ≡ ao *ℤ pos B +ℤ bo *ℤ pos A → ru * k ≡ au * B
    → ro *ℤ pos (au * bu) ≡ (ao *ℤ pos bu +ℤ bo *ℤ pos au) *ℤ pos ru
sum_is ao bo ro au bu ru A B g k ea eb es eu =
    let n : au * bu ≡ k * (ru * g) = omega (arith, ap (λ x. x * g) eu, ap (λ x. au * x) eb) in
    let s : ℤ = ao *ℤ pos B +ℤ bo *ℤ pos A in
    ap (λ m. ro *ℤ pos m) n ∙ ap (λ t. ro *ℤ t) (sym (pos-*ℤ-pos k (ru * g))) ∙ sym (mul_assoc ro (pos k) (pos (ru * g)))
    ∙ ap (λ t. t *ℤ pos (ru * g)) es ∙ ap (λ t. s *ℤ t) (ap pos (mul_comm ru g) ∙ sym (pos-*ℤ-pos g ru))
    ∙ sym (mul_assoc s (pos g) (pos ru))
    ∙ ap (λ t. t *ℤ pos ru) (mul_distrib_right (ao *ℤ pos B) (bo *ℤ pos A) (pos g) ∙ ap (λ t. t +ℤ bo *ℤ pos A *ℤ pos g) (times_factor ao B g bu eb) ∙ ap (λ t. ao *ℤ pos bu +ℤ t) (times_factor bo A g au ea))

-- a sum whose working numbers don't all fit
pub wrong_left : (a b : Ratio) (g : ℕ) → IsGcd a.under b.under g → (FitsPart (a.over *ℤ pos (b.under / g)) → ⊥)
    → (n : AddNumbers a b) × (AddFits n → ⊥)
wrong_left a b g h refused = (numbers a b g h, λ f. refused f.left_fits)

pub wrong_right : (a b : Ratio) (g : ℕ) → IsGcd a.under b.under g → (FitsPart (b.over *ℤ pos (a.under / g)) → ⊥)
    → (n : AddNumbers a b) × (AddFits n → ⊥)
wrong_right a b g h refused = (numbers a b g h, λ f. refused f.right_fits)

pub wrong_sum : (a b : Ratio) (g : ℕ) → IsGcd a.under b.under g
    → (FitsPart (a.over *ℤ pos (b.under / g) +ℤ b.over *ℤ pos (a.under / g)) → ⊥) → (n : AddNumbers a b) × (AddFits n → ⊥)
wrong_sum a b g h refused = (numbers a b g h, λ f. refused f.sum_fits)

pub wrong_under : (a b : Ratio) (g : ℕ) → IsGcd a.under b.under g → (a.under * (b.under / g) < 2 ^ 127 → ⊥)
    → (n : AddNumbers a b) × (AddFits n → ⊥)
wrong_under a b g h refused = (numbers a b g h, λ f. refused f.under_fits)

pub all_fit : (a b : Ratio) (g : ℕ) → IsGcd a.under b.under g → FitsPart (a.over *ℤ pos (b.under / g)) → FitsPart (b.over *ℤ pos (a.under / g))
    → FitsPart (a.over *ℤ pos (b.under / g) +ℤ b.over *ℤ pos (a.under / g)) → a.under * (b.under / g) < 2 ^ 127
    → (n : AddNumbers a b) × AddFits n
all_fit a b g h p q r s = (numbers a b g h, record { left_fits = p; right_fits = q; sum_fits = r; under_fits = s })
