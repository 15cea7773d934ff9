-- The sum of two fractions over the least common denominator.
use Rattle.std.proofs.Common.{◌≡◌, ℕ, ◌*◌, ◌+◌, ◌<◌, ◌/◌, ◌^◌, ◌⊎◌, inl, inr, arith, ℤ, pos, ◌*ℤ◌, ◌+ℤ◌, ap, sym, ◌∙◌, subst, unsigned_abs}
use Rattle.std.specs.Int.{IsGcd}
use Rattle.std.proofs.lemmas.Int.{ints, unsigned_abs-mul}
use Rattle.std.proofs.lemmas.Nat.{mul-lt}
use Rattle.std.proofs.lemmas.Nat.Gcd.{dvd_trans, IsGcd-swap, same_from_IsGcd}
use Rattle.std.proofs.Math.Nat.{dvd-mul_left_of_dvd, dvd-add, dvd-add_iff_left, one-dvd, dvd-mul_right, div-mul_cancel, mul-one}
use Rattle.std.proofs.Math.IntN.{*ℤ_comm}
use Rattle.bt_frac.specs.Ratio.{Ratio, IsLowest, FitsPart, IsShort, IsSum, AddNumbers, AddFits, CanAdd, IsWide}
use Rattle.bt_frac.specs.inner.Wholes.{IsShortWhole}
use Rattle.bt_frac.proofs.Euclid.{euclid, coprime_part, common_of}
use Rattle.bt_frac.proofs.Gcds.{all_fit, gcd_positive, coprime_quotients}
use Rattle.bt_frac.proofs.Ring.{add_comm, mul_assoc, turn_last, mul_distrib_right}
use Prim.Native.Nat.{◌∣◌}

sizes : (x y : ℤ) → (unsigned_abs x ≡ unsigned_abs (x +ℤ y) + unsigned_abs y) ⊎ ((unsigned_abs x + unsigned_abs (x +ℤ y) ≡ unsigned_abs y) ⊎ (unsigned_abs x + unsigned_abs y ≡ unsigned_abs (x +ℤ y)))
sizes x y = grind (arith, ints)

-- what divides a sum and its second part divides the first
divides_first : (x y : ℤ) (d : ℕ) → d ∣ unsigned_abs (x +ℤ y) → d ∣ unsigned_abs y → d ∣ unsigned_abs x
divides_first x y d p q =
    elim (sizes x y) [
      | inl e ↦ subst (λ n. d ∣ n) (sym e) (dvd-add d p q)
      | inr r ↦ elim r [
        | inl e ↦ (dvd-add_iff_left d p).1 (subst (λ n. d ∣ n) (sym e) q)
        | inr e ↦ (dvd-add_iff_left d q).1 (subst (λ n. d ∣ n) (sym e) p)
      ]
    ]

-- a divisor of the sum has none in common with the part of a denominator that the other lacks
apart : (a b : ℤ) (m n : ℕ) (d : ℕ) → IsGcd (unsigned_abs a) m 1 → IsGcd m n 1 → d ∣ unsigned_abs (a *ℤ pos n +ℤ b *ℤ pos m) → IsGcd m d 1
apart a b m n d a_lowest both h = (
  one-dvd m,
  one-dvd d,
  λ f p q.
      let second : f ∣ unsigned_abs (b *ℤ pos m) =
      subst (λ k. f ∣ k) (sym (unsigned_abs-mul b (pos m))) (dvd-mul_left_of_dvd f p (unsigned_abs b)) in
      let first : f ∣ unsigned_abs (a *ℤ pos n) = divides_first (a *ℤ pos n) (b *ℤ pos m) f (dvd_trans f q h) second in
      let split : f ∣ unsigned_abs a * n = subst (λ k. f ∣ k) (unsigned_abs-mul a (pos n)) first in
      both.2 f p (euclid (unsigned_abs a) f n (coprime_part (unsigned_abs a) m f a_lowest p) split),
)

-- the sum over the least common denominator m * n * g shares with it only what it shares with g
shares_common : (a b : ℤ) (m n g : ℕ) → IsGcd (unsigned_abs a) m 1 → IsGcd (unsigned_abs b) n 1 → IsGcd m n 1
    → (d : ℕ) → d ∣ unsigned_abs (a *ℤ pos n +ℤ b *ℤ pos m) → d ∣ m * g * n → d ∣ g
shares_common a b m n g p q both d h k =
    let order : m * g * n ≡ m * (n * g) = omega arith in
    let rest : d ∣ n * g = euclid m d (n * g) (apart a b m n d p both h) (subst (λ t. d ∣ t) order k) in
    let other : d ∣ unsigned_abs (b *ℤ pos m +ℤ a *ℤ pos n) = subst (λ z. d ∣ unsigned_abs z) (add_comm (a *ℤ pos n) (b *ℤ pos m)) h in
    euclid n d g (apart b a n m d q (IsGcd-swap m n 1 both) other) rest

-- a fraction's parts have no common divisor, and no part of the denominator changes that
pub shares : (a b : Ratio) (g : ℕ) → IsLowest a → IsLowest b → IsGcd a.under b.under g
    → (d : ℕ) → d ∣ unsigned_abs (a.over *ℤ pos (b.under / g) +ℤ b.over *ℤ pos (a.under / g)) → d ∣ a.under * (b.under / g) → d ∣ g
shares a b g p q h d k l =
    let some : 0 < g = gcd_positive a.under b.under g h q.positive in
    let ea : a.under / g * g ≡ a.under = div-mul_cancel g h.0 in
    let eb : b.under / g * g ≡ b.under = div-mul_cancel g h.1 in
    let a_part : a.under / g ∣ a.under = subst (λ n. a.under / g ∣ n) ea (dvd-mul_right (a.under / g) g) in
    let b_part : b.under / g ∣ b.under = subst (λ n. b.under / g ∣ n) eb (dvd-mul_right (b.under / g) g) in
    let both : IsGcd (a.under / g) (b.under / g) 1 =
    coprime_quotients (a.under / g) (b.under / g) g some (subst (λ n. IsGcd (a.under / g * g) n g) (sym eb) (subst (λ n. IsGcd n b.under g) (sym ea) h)) in
    shares_common a.over b.over (a.under / g) (b.under / g) g
    (coprime_part (unsigned_abs a.over) a.under (a.under / g) p.coprime a_part)
    (coprime_part (unsigned_abs b.over) b.under (b.under / g) q.coprime b_part)
    both d k (subst (λ n. d ∣ n * (b.under / g)) (sym ea) l)

-- the sum of fractions with one denominator
same_by : (ao bo ro : ℤ) (n ru k : ℕ) → ro *ℤ pos k ≡ ao +ℤ bo → ru * k ≡ n
    → ro *ℤ pos (n * n) ≡ (ao *ℤ pos n +ℤ bo *ℤ pos n) *ℤ pos ru
same_by ao bo ro n ru k e f =
    let whole : ro *ℤ pos n ≡ (ao +ℤ bo) *ℤ pos ru =
    ap (λ m. ro *ℤ pos m) (sym f) ∙ ap (λ t. ro *ℤ t) (*ℤ_comm (pos ru) (pos k)) ∙ sym (mul_assoc ro (pos k) (pos ru)) ∙ ap (λ t. t *ℤ pos ru) e in
    sym (mul_assoc ro (pos n) (pos n)) ∙ ap (λ t. t *ℤ pos n) whole ∙ turn_last (ao +ℤ bo) (pos ru) (pos n)
    ∙ ap (λ t. t *ℤ pos ru) (mul_distrib_right ao bo (pos n))

pub same_is : (ao bo ro : ℤ) (m n ru k : ℕ) → m ≡ n → ro *ℤ pos k ≡ ao +ℤ bo → ru * k ≡ m
    → ro *ℤ pos (m * n) ≡ (ao *ℤ pos n +ℤ bo *ℤ pos m) *ℤ pos ru
same_is ao bo ro m n ru k same e f =
    subst (λ u. ro *ℤ pos (m * u) ≡ (ao *ℤ pos u +ℤ bo *ℤ pos m) *ℤ pos ru) same (same_by ao bo ro m ru k e f)

-- some number is the greatest common divisor
some_gcd : (a b : ℕ) → (g : ℕ) × IsGcd a b g
some_gcd a b = let found = common_of b a b (omega arith) in (found.common, (found.left, found.right, λ d p q. one_scaled a b found.common found.scaled d p q))
  where
    one_scaled : (a b g : ℕ) → ((d c : ℕ) → d ∣ a * c → d ∣ b * c → d ∣ g * c) → (d : ℕ) → d ∣ a → d ∣ b → d ∣ g
    one_scaled a b g h d p q = subst (λ n. d ∣ n) (mul-one g) (h d 1 (subst (λ n. d ∣ n) (sym (mul-one a)) p) (subst (λ n. d ∣ n) (sym (mul-one b)) q))

part_below : (n g : ℕ) → n < 2 ^ 63 → n / g < 2 ^ 63
part_below n g h = omega arith

product_below : (z : ℤ) (n g : ℕ) → unsigned_abs z < 2 ^ 63 → n < 2 ^ 63 → unsigned_abs (z *ℤ pos (n / g)) < 2 ^ 126
product_below z n g h k = rw unsigned_abs-mul (mul-lt (unsigned_abs z) (n / g) (2 ^ 63) (2 ^ 63) h (part_below n g k))

sum_below : (x y : ℤ) → unsigned_abs x < 2 ^ 126 → unsigned_abs y < 2 ^ 126 → FitsPart (x +ℤ y)
sum_below x y h k = omega (arith, ints)

-- the working numbers of an addition of short fractions fit
pub short_fits : (a b : Ratio) → IsShort a → IsShort b → (n : AddNumbers a b) × AddFits n
short_fits a b p q =
    let common = some_gcd a.under b.under in
    let g : ℕ = common.0 in
    let left : unsigned_abs (a.over *ℤ pos (b.under / g)) < 2 ^ 126 = product_below a.over b.under g p.over_short q.under_short in
    let right : unsigned_abs (b.over *ℤ pos (a.under / g)) < 2 ^ 126 = product_below b.over a.under g q.over_short p.under_short in
    let under : a.under * (b.under / g) < 2 ^ 126 = mul-lt a.under (b.under / g) (2 ^ 63) (2 ^ 63) p.under_short (part_below b.under g q.under_short) in
    all_fit a b g common.1 (omega arith) (omega arith) (sum_below (a.over *ℤ pos (b.under / g)) (b.over *ℤ pos (a.under / g)) left right) (omega arith)

pub wholes_fit : (a b : Ratio) → IsShortWhole a → IsShortWhole b → (n : AddNumbers a b) × AddFits n
wholes_fit a b p q = short_fits a b (whole_short a p) (whole_short b q)
  where
    whole_short : (r : Ratio) → IsShortWhole r → IsShort r
    whole_short r h = record { over_short = h.over_short; under_short = below_short r.under h.is_whole }
      where
        below_short : (n : ℕ) → n ≡ 1 → n < 2 ^ 63
        below_short n e = omega arith

-- the working numbers of an addition are the same wherever they are named, so a sum is not both wide and fitting
fits_alike : (a b : Ratio) (m n : AddNumbers a b) → AddFits m → AddFits n
fits_alike a b m n h =
    let common : m.common ≡ n.common = same_from_IsGcd a.under b.under m.common n.common m.is_common n.is_common in
    let left : m.left ≡ n.left = m.left_is ∙ ap (λ g. a.over *ℤ pos (b.under / g)) common ∙ sym n.left_is in
    let right : m.right ≡ n.right = m.right_is ∙ ap (λ g. b.over *ℤ pos (a.under / g)) common ∙ sym n.right_is in
    let under : m.under ≡ n.under = m.under_is ∙ ap (λ g. a.under * (b.under / g)) common ∙ sym n.under_is in
    record {
      left_fits = subst FitsPart left h.left_fits;
      right_fits = subst FitsPart right h.right_fits;
      sum_fits = subst FitsPart (ap (λ x. x +ℤ m.right) left ∙ ap (λ y. n.left +ℤ y) right) h.sum_fits;
      under_fits = subst (λ k. k < 2 ^ 127) under h.under_fits;
    }

pub wide_apart : (a b : Ratio) → ((n : AddNumbers a b) × (AddFits n → ⊥)) → ((m : AddNumbers a b) × AddFits m) → ⊥
wide_apart a b wide fits = wide.1 (fits_alike a b fits.0 wide.0 fits.1)

-- what is told of two fractions is told of what their views are
pub sum_seen : {a a' b b' : Ratio} (r : Ratio) → a ≡ a' → b ≡ b' → IsSum a b r → IsSum a' b' r
sum_seen {a} {a'} {b} {b'} r ea eb p = subst (λ y. IsSum a' y r) eb (subst (λ x. IsSum x b r) ea p)

pub wide_seen : {a a' b b' : Ratio} → a ≡ a' → b ≡ b' → IsWide a b → IsWide a' b'
wide_seen {a} {a'} {b} {b'} ea eb p = subst (λ y. IsWide a' y) eb (subst (λ x. IsWide x b) ea p)

pub can_add_seen : {a a' b b' : Ratio} → a ≡ a' → b ≡ b' → CanAdd a b → CanAdd a' b'
can_add_seen {a} {a'} {b} {b'} ea eb p = subst (λ y. CanAdd a' y) eb (subst (λ x. CanAdd x b) ea p)
