-- Sums of products of fractions as whole numbers over one denominator.
use Rattle.std.proofs.Common.{◌≡◌, ℕ, ◌<◌, ◌*◌, ◌/◌, arith, ℤ, pos, ◌+ℤ◌, ◌*ℤ◌, List, [], ◌∷◌, ap, sym, ◌∙◌, refl}
use Rattle.std.specs.List.{AllByRecursion}
use Rattle.std.proofs.Math.IntN.{pos-*ℤ-pos}
use Rattle.std.proofs.Math.Nat.{div-mul_cancel, dvd-mul_right, dvd-mul_left, dvd-mul_left_of_dvd, dvd-mul_right_of_dvd}
use Rattle.bt_frac.specs.Ratio.{Ratio, IsOver}
use Rattle.bt_frac.specs.Products.{IsProduct}
use Rattle.bt_frac.specs.Values.{nothing, plus, times, sum_of_products}
use Rattle.bt_frac.proofs.Order.{mul_cancel}
use Rattle.bt_frac.proofs.Over.{over_sum, over_zero, under_positive}
use Rattle.bt_frac.proofs.Ring.{products, mul_assoc, turn_last}
use Prim.Native.Nat.{◌∣◌}

-- the fraction's denominator is positive and divides this one
pub record Divides (d : ℕ) (r : Ratio) : Type 0 where
  pub positive : 0 < r.under
  pub divides : r.under ∣ d

-- the same of both fractions of a pair
pub record DividesBoth (d : ℕ) (pair : Ratio × Ratio) : Type 0 where
  pub left : Divides d pair.0
  pub right : Divides d pair.1

-- the fraction's whole number over a denominator that its own divides
unfoldable pub whole_over : ℕ → Ratio → ℤ
whole_over d r = r.over *ℤ pos (d / r.under)

-- the whole numbers of pairs, multiplied and added up
unfoldable pub whole_sum : ℕ → List (Ratio × Ratio) → ℤ
whole_sum d [] = pos 0
whole_sum d (pair ∷ pairs) = whole_over d pair.0 *ℤ whole_over d pair.1 +ℤ whole_sum d pairs

pub over_by : (d : ℕ) (r : Ratio) → Divides d r → IsOver r (whole_over d r) d
unfolding whole_over
over_by d r h =
    ap (λ n. r.over *ℤ pos n) (sym (div-mul_cancel r.under h.divides)) ∙ ap (λ t. r.over *ℤ t) (sym (pos-*ℤ-pos (d / r.under) r.under))
    ∙ sym (mul_assoc r.over (pos (d / r.under)) (pos r.under))

first_regrouped : (a b r d e : ℤ) → a *ℤ b *ℤ r *ℤ (d *ℤ e) ≡ a *ℤ d *ℤ (b *ℤ e) *ℤ r
first_regrouped a b r d e = simp products

last_regrouped : (x y m n r : ℤ) → x *ℤ m *ℤ (y *ℤ n) *ℤ r ≡ x *ℤ y *ℤ r *ℤ (m *ℤ n)
last_regrouped x y m n r = simp products

-- a product of fractions is the product of their whole numbers
pub over_product : (a b r : Ratio) (x y : ℤ) (d e : ℕ) → 0 < a.under → 0 < b.under → IsOver a x d → IsOver b y e → IsProduct a b r → IsOver r (x *ℤ y) (d * e)
over_product a b r x y d e a_some b_some ea eb is =
    mul_cancel (r.over *ℤ pos (d * e)) (x *ℤ y *ℤ pos r.under) (a.under * b.under) (under_positive a.under b.under a_some b_some)
    (turn_last r.over (pos (d * e)) (pos (a.under * b.under)) ∙ ap (λ t. t *ℤ pos (d * e)) is
    ∙ ap (λ t. a.over *ℤ b.over *ℤ pos r.under *ℤ t) (sym (pos-*ℤ-pos d e))
    ∙ first_regrouped a.over b.over (pos r.under) (pos d) (pos e)
    ∙ ap (λ t. t *ℤ (b.over *ℤ pos e) *ℤ pos r.under) ea ∙ ap (λ t. x *ℤ pos a.under *ℤ t *ℤ pos r.under) eb
    ∙ last_regrouped x y (pos a.under) (pos b.under) (pos r.under)
    ∙ ap (λ t. x *ℤ y *ℤ pos r.under *ℤ t) (pos-*ℤ-pos a.under b.under))

-- a sum of products is the sum of their whole numbers
pub sum_over : (d : ℕ) (pairs : List (Ratio × Ratio)) → AllByRecursion (DividesBoth d) pairs
    → IsOver (sum_of_products pairs) (whole_sum d pairs) (d * d) × (0 < (sum_of_products pairs).under)
unfolding whole_sum
sum_over d [] all = (over_zero nothing (d * d) refl, omega arith)
sum_over d (pair ∷ pairs) all =
    let rest = sum_over d pairs all.1 in
    let left = all.0.left in
    let right = all.0.right in
    let product : Ratio = times pair.0 pair.1 in
    let product_some : 0 < product.under = under_positive pair.0.under pair.1.under left.positive right.positive in
    let product_over : IsOver product (whole_over d pair.0 *ℤ whole_over d pair.1) (d * d) =
    over_product pair.0 pair.1 product (whole_over d pair.0) (whole_over d pair.1) d d left.positive right.positive (over_by d pair.0 left) (over_by d pair.1 right) refl in
    let total : Ratio = sum_of_products pairs in (
      over_sum product total (plus product total) (whole_over d pair.0 *ℤ whole_over d pair.1) (whole_sum d pairs) (d * d) product_some rest.1 product_over rest.0 refl,
      under_positive product.under total.under product_some rest.1,
    )

divides_more : (d k : ℕ) (r : Ratio) → Divides d r → Divides (k * d) r
divides_more d k r h = record { positive = h.positive; divides = dvd-mul_left_of_dvd r.under h.divides k }

divides_more_both : (d k : ℕ) (pairs : List (Ratio × Ratio)) → AllByRecursion (DividesBoth d) pairs → AllByRecursion (DividesBoth (k * d)) pairs
divides_more_both d k [] all = tt
divides_more_both d k (pair ∷ pairs) all =
    (record { left = divides_more d k pair.0 all.0.left; right = divides_more d k pair.1 all.0.right }, divides_more_both d k pairs all.1)

-- both denominators of a pair are positive
pub record ArePositive (pair : Ratio × Ratio) : Type 0 where
  pub left : 0 < pair.0.under
  pub right : 0 < pair.1.under

-- pairs with positive denominators have a denominator that all of theirs divide
pub common_divided : (pairs : List (Ratio × Ratio)) → AllByRecursion ArePositive pairs → (d : ℕ) × (0 < d) × AllByRecursion (DividesBoth d) pairs
common_divided [] all = (1, omega arith, tt)
common_divided (pair ∷ pairs) all =
    let rest = common_divided pairs all.1 in
    let m : ℕ = pair.0.under in
    let n : ℕ = pair.1.under in
    let both : ℕ = m * n in (
      both * rest.0,
      under_positive both rest.0 (under_positive m n all.0.left all.0.right) rest.1,
      (
        record {
          left = record { positive = all.0.left; divides = dvd-mul_right_of_dvd m (dvd-mul_right m n) rest.0 };
          right = record { positive = all.0.right; divides = dvd-mul_right_of_dvd n (dvd-mul_left n m) rest.0 };
        },
        divides_more_both rest.0 both pairs rest.2,
      ),
    )
