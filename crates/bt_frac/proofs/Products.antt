-- The product of two fractions in lowest terms.
use Rattle.std.proofs.Common.{◌≡◌, ℕ, ◌*◌, ◌<◌, ◌/◌, ◌^◌, arith, ℤ, pos, neg_ℤ, ◌*ℤ◌, ap, sym, ◌∙◌, subst, unsigned_abs, Bool, true, false, if◌then◌else◌, lit<}
use Rattle.std.specs.Int.{IsGcd}
use Rattle.std.proofs.lemmas.Int.{unsigned_abs-mul}
use Rattle.std.proofs.lemmas.Nat.{mul-lt}
use Rattle.std.proofs.lemmas.Nat.Gcd.{dvd_trans, IsGcd-swap}
use Rattle.std.proofs.Math.Nat.{div-mul_cancel, dvd-mul_right, one-dvd}
use Rattle.bt_frac.specs.Ratio.{Ratio, IsLowest, parts_ratio}
use Rattle.bt_frac.specs.Products.{IsProduct}
use Rattle.bt_frac.specs.inner.ProductParts.{AreProductParts, IsProductSign}
use Rattle.bt_frac.proofs.Euclid.{euclid, coprime_part, same_under}
use Rattle.bt_frac.proofs.Gcds.{quotient_positive, neg_mul, coprime_one}
use Rattle.bt_frac.proofs.Over.{under_positive}
use Rattle.bt_frac.proofs.Quotients.{cancel, quotients_apart, parts_lowest}
use Prim.Native.Nat.{◌∣◌}

-- divisors of two numbers with no common divisor have none
apart_parts : (a b m n : ℕ) → IsGcd a b 1 → m ∣ a → n ∣ b → IsGcd m n 1
apart_parts a b m n h p q = (one-dvd m, one-dvd n, λ d x y. h.2 d (dvd_trans d x p) (dvd_trans d y q))

-- a product has no common divisor with what neither factor has one with
apart_times : (x y n : ℕ) → IsGcd x n 1 → IsGcd y n 1 → IsGcd (x * y) n 1
apart_times x y n p q = (one-dvd (x * y), one-dvd n, λ d u v. q.2 d (euclid x d y (coprime_part x n d p v) u) v)

apart_both : (a b c d : ℕ) → IsGcd a b 1 → IsGcd a d 1 → IsGcd c b 1 → IsGcd c d 1 → IsGcd (a * c) (b * d) 1
apart_both a b c d ab ad cb cd =
    apart_times a c (b * d)
    (IsGcd-swap (b * d) a 1 (apart_times b d a (IsGcd-swap a b 1 ab) (IsGcd-swap a d 1 ad)))
    (IsGcd-swap (b * d) c 1 (apart_times b d c (IsGcd-swap c b 1 cb) (IsGcd-swap c d 1 cd)))

quotient_divides : (n g : ℕ) → g ∣ n → n / g ∣ n
quotient_divides n g h = subst (λ m. n / g ∣ m) (div-mul_cancel g h) (dvd-mul_right (n / g) g)

regrouped : (m p n q g h : ℕ) → m * p * (n * h * (q * g)) ≡ m * g * (p * h) * (n * q)
regrouped m p n q g h = omega arith

part_short : (n g : ℕ) → n < 2 ^ 63 → n / g < 2 ^ 63
part_short n g h = omega arith

quotients_fit : (m n g h : ℕ) → m < 2 ^ 63 → n < 2 ^ 63 → m / g * (n / h) < 2 ^ 127
quotients_fit m n g h p q =
    let small : m / g * (n / h) < 2 ^ 126 = mul-lt (m / g) (n / h) (2 ^ 63) (2 ^ 63) (part_short m g p) (part_short n h q) in
    omega arith

module _ (a b c d g h : ℕ) (left : IsGcd a b 1) (left_some : 0 < b) (right : IsGcd c d 1) (right_some : 0 < d)
    (left_common : IsGcd a d g) (right_common : IsGcd c b h) where
  -- what is left of both numerators has no common divisor with what is left of both denominators
  parts_apart : IsGcd (a / g * (c / h)) (b / h * (d / g)) 1
  parts_apart =
      apart_both (a / g) (b / h) (c / h) (d / g)
      (apart_parts a b (a / g) (b / h) left (quotient_divides a g left_common.0) (quotient_divides b h right_common.1))
      (quotients_apart a d g right_some left_common)
      (quotients_apart c b h left_some right_common)
      (apart_parts c d (c / h) (d / g) right (quotient_divides c h right_common.0) (quotient_divides d g left_common.1))

  parts_same : a / g * (c / h) * (b * d) ≡ a * c * (b / h * (d / g))
  parts_same =
      let ea : a / g * g ≡ a = div-mul_cancel g left_common.0 in
      let ed : d / g * g ≡ d = div-mul_cancel g left_common.1 in
      let ec : c / h * h ≡ c = div-mul_cancel h right_common.0 in
      let eb : b / h * h ≡ b = div-mul_cancel h right_common.1 in
      ap (λ n. a / g * (c / h) * (n * d)) (sym eb) ∙ ap (λ n. a / g * (c / h) * (b / h * h * n)) (sym ed)
      ∙ regrouped (a / g) (c / h) (b / h) (d / g) g h
      ∙ ap (λ n. n * (c / h * h) * (b / h * (d / g))) ea ∙ ap (λ n. a * n * (b / h * (d / g))) ec

  parts_positive : 0 < b / h * (d / g)
  parts_positive = under_positive (b / h) (d / g) (quotient_positive b h left_some right_common.1) (quotient_positive d g right_some left_common.1)

  -- parts of a product in lowest terms are these
  pub parts_are : (m n : ℕ) → AreProductParts a b c d m n → (m ≡ a / g * (c / h)) × (n ≡ b / h * (d / g))
  parts_are m n are =
      let u : ℕ = a / g * (c / h) in
      let v : ℕ = b / h * (d / g) in
      let bd_some : 0 < b * d = under_positive b d left_some right_some in
      let crossed : m * v ≡ u * n =
      cancel (m * v) (u * n) (b * d) bd_some
      (turned m v (b * d) ∙ ap (λ k. k * v) are.same ∙ turned (a * c) n v ∙ ap (λ k. k * n) (sym parts_same) ∙ turned u (b * d) n) in
      let under : n ≡ v = same_under m n u v are.coprime parts_apart crossed in
      (cancel m u v parts_positive (crossed ∙ ap (λ k. u * k) under), under)
    where
      turned : (x y z : ℕ) → x * y * z ≡ x * z * y
      turned x y z = omega arith

  pub are_parts : (m n : ℕ) → m ≡ a / g * (c / h) → m < 2 ^ 127 → n ≡ b / h * (d / g) → n < 2 ^ 127 → AreProductParts a b c d m n
  are_parts m n over over_fits under under_fits =
      record {
        same = ap (λ k. k * (b * d)) over ∙ parts_same ∙ ap (λ k. a * c * k) (sym under);
        positive = subst (λ k. 0 < k) (sym under) parts_positive;
        coprime = subst (λ k. IsGcd k n 1) (sym over) (subst (λ k. IsGcd (a / g * (c / h)) k 1) (sym under) parts_apart);
        over_fits = over_fits;
        under_fits = under_fits;
      }

  -- parts below 2 ^ 63 have a product that fits
  pub short_are_parts : (m n : ℕ) → m ≡ a / g * (c / h) → n ≡ b / h * (d / g)
      → a < 2 ^ 63 → b < 2 ^ 63 → c < 2 ^ 63 → d < 2 ^ 63 → AreProductParts a b c d m n
  short_are_parts m n over under a_short b_short c_short d_short =
      are_parts m n over (subst (λ k. k < 2 ^ 127) (sym over) (quotients_fit a c g h a_short c_short))
      under (subst (λ k. k < 2 ^ 127) (sym under) (quotients_fit b d h g b_short d_short))

  pub no_over : (a / g * (c / h) < 2 ^ 127 → ⊥) → (m n : ℕ) → AreProductParts a b c d m n → ⊥
  no_over wide m n are = wide (subst (λ k. k < 2 ^ 127) (parts_are m n are).0 are.over_fits)

  pub no_under : (b / h * (d / g) < 2 ^ 127 → ⊥) → (m n : ℕ) → AreProductParts a b c d m n → ⊥
  no_under wide m n are = wide (subst (λ k. k < 2 ^ 127) (parts_are m n are).1 are.under_fits)

-- the product with 0
pub no_size_parts : (a b c d : ℕ) → a * c ≡ 0 → AreProductParts a b c d 0 1
no_size_parts a b c d e =
    record { same = zeros (a * c) (b * d) e; positive = lit< tt; coprime = coprime_one 0; over_fits = lit< tt; under_fits = lit< tt }
  where
    zeros : (m n : ℕ) → m ≡ 0 → 0 * n ≡ m * 1
    zeros m n e = omega arith

-- no fraction in lowest terms is the product
abbrev pub HaveNoProduct : Ratio → Ratio → Type 0
HaveNoProduct x y = (f : Ratio) → IsLowest f → IsProduct x y f → ⊥

-- the magnitudes of a product in lowest terms
parts_of_product : (x y f : Ratio) → IsLowest f → IsProduct x y f
    → AreProductParts (unsigned_abs x.over) x.under (unsigned_abs y.over) y.under (unsigned_abs f.over) f.under
parts_of_product x y f low is = record {
  same =
      sym (unsigned_abs-mul f.over (pos (x.under * y.under))) ∙ ap unsigned_abs is ∙ unsigned_abs-mul (x.over *ℤ y.over) (pos f.under)
      ∙ ap (λ n. n * f.under) (unsigned_abs-mul x.over y.over);
  positive = low.positive;
  coprime = low.coprime;
  over_fits = low.over_fits;
  under_fits = low.under_fits;
}

pub no_product : (x y : Ratio) (m n : ℕ) → m ≡ unsigned_abs x.over → n ≡ unsigned_abs y.over
    → ((p q : ℕ) → AreProductParts m x.under n y.under p q → ⊥) → HaveNoProduct x y
no_product x y m n size other_size none f low is =
    none (unsigned_abs f.over) f.under
    (subst (λ k. AreProductParts k x.under n y.under (unsigned_abs f.over) f.under) (sym size)
    (subst (λ k. AreProductParts (unsigned_abs x.over) x.under k y.under (unsigned_abs f.over) f.under) (sym other_size) (parts_of_product x y f low is)))

pub parts_are_lowest : (negative : Bool) (a b c d m n : ℕ) → AreProductParts a b c d m n → IsLowest (parts_ratio negative m n)
parts_are_lowest negative a b c d m n are = parts_lowest negative m n are.positive are.over_fits are.under_fits are.coprime

-- the product with the sign of its factors
pub product_is : (negative : Bool) (x y : ℤ) (b d m n : ℕ) → IsProductSign x y negative → m * (b * d) ≡ unsigned_abs x * unsigned_abs y * n
    → (if negative then neg_ℤ (pos m) else pos m) *ℤ pos (b * d) ≡ x *ℤ y *ℤ pos n
product_is true x y b d m n sign same =
    neg_mul m (b * d) ∙ ap (λ k. neg_ℤ (pos k)) same ∙ sym (neg_mul (unsigned_abs x * unsigned_abs y) n) ∙ ap (λ z. z *ℤ pos n) (sym sign)
product_is false x y b d m n sign same = ap pos same ∙ ap (λ z. z *ℤ pos n) (sym sign)

-- what is told of two fractions is told of what their views are
pub product_seen : {a a' b b' : Ratio} (r : Ratio) → a ≡ a' → b ≡ b' → IsProduct a b r → IsProduct a' b' r
product_seen {a} {a'} {b} {b'} r ea eb p = subst (λ y. IsProduct a' y r) eb (subst (λ x. IsProduct x b r) ea p)
