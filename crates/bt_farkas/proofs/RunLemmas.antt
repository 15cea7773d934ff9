-- Running sums: their steps have one result, and lead to the sum.
use Rattle.std.proofs.Common.{◌≡◌, ℕ, ◌<◌, ◌*◌, arith, ℤ, pos, ◌+ℤ◌, ◌*ℤ◌, List, [], ◌∷◌, ◌++◌, sym, refl, subst, inl, inr}
use Rattle.std.specs.List.{AllByRecursion}
use Rattle.std.proofs.lemmas.Int.{ints}
use Rattle.bt_frac.specs.Ratio.{Ratio, IsLowest, SameRatio, IsOver, IsSum, CanAdd}
use Rattle.bt_frac.specs.Products.{IsProduct}
use Rattle.bt_frac.specs.Values.{nothing, plus, times, sum_of_products}
use Rattle.bt_frac.proofs.Euclid.{lowest_same}
use Rattle.bt_frac.proofs.Over.{over_sum, over_zero, over_same, under_positive}
use Rattle.bt_frac.proofs.Sums.{wide_apart}
use Rattle.bt_farkas.specs.RunningSums.{AddsProduct, IsWideStep, RunsTo}
use Rattle.bt_farkas.proofs.Lens.{DividesBoth, whole_over, whole_sum, over_by, over_product, sum_over, ArePositive, common_divided}
use Rattle.bt_farkas.proofs.SameNumbers.{same_trans}

one_product : (pair : Ratio × Ratio) (p q : Ratio) → IsLowest pair.0 → IsLowest pair.1 → IsLowest p → IsLowest q → IsProduct pair.0 pair.1 p → IsProduct pair.0 pair.1 q → p ≡ q
one_product pair p q left right p_low q_low p_is q_is =
    lowest_same p q p_low q_low
    (same_trans p (times pair.0 pair.1) q (under_positive pair.0.under pair.1.under left.positive right.positive) p_is (sym q_is))

one_sum : (s p r t : Ratio) → IsLowest s → IsLowest p → IsLowest r → IsLowest t → IsSum s p r → IsSum s p t → r ≡ t
one_sum s p r t s_low p_low r_low t_low r_is t_is =
    lowest_same r t r_low t_low (same_trans r (plus s p) t (under_positive s.under p.under s_low.positive p_low.positive) r_is (sym t_is))

-- a step has one result
one_step : (s : Ratio) (pair : Ratio × Ratio) (r t : Ratio) → AddsProduct s pair r → AddsProduct s pair t → r ≡ t
one_step s pair r t a b =
    let same : b.product ≡ a.product = one_product pair b.product a.product a.left a.right b.product_lowest a.product_lowest b.is_product a.is_product in
    one_sum s a.product r t a.start a.product_lowest a.lowest b.lowest a.sum (subst (λ p. IsSum s p t) same b.sum)

-- a step that fits isn't wide
step_fits : (s : Ratio) (pair : Ratio × Ratio) (r : Ratio) → AddsProduct s pair r → IsWideStep s pair → ⊥
step_fits s pair r a (inl wide) = wide a.product a.product_lowest a.is_product
step_fits s pair r a (inr (p, low, is, wide)) =
    let same : a.product ≡ p = one_product pair a.product p a.left a.right a.product_lowest low a.is_product is in
    wide_apart s p wide (subst (CanAdd s) same a.fits)

-- a sum that runs through isn't wide on the way
pub runs_through : (s u t : Ratio) (front : List (Ratio × Ratio)) (pair : Ratio × Ratio) (rest : List (Ratio × Ratio))
    → RunsTo s (front ++ pair ∷ rest) t → RunsTo s front u → IsWideStep u pair → ⊥
runs_through s u t [] pair rest (r, a, more) same wide = step_fits s pair r a (subst (λ x. IsWideStep x pair) (sym same) wide)
runs_through s u t (x ∷ front) pair rest (r, a, more) (q, b, less) wide =
    let same : q ≡ r = one_step s x q r b a in
    runs_through r u t front pair rest more (subst (λ y. RunsTo y front u) same less) wide

-- one more pair
pub runs_more : (s t u : Ratio) (pairs : List (Ratio × Ratio)) (pair : Ratio × Ratio) → RunsTo s pairs t → AddsProduct t pair u → RunsTo s (pairs ++ pair ∷ []) u
runs_more s t u [] pair same a = (u, subst (λ x. AddsProduct x pair u) (sym same) a, refl)
runs_more s t u (x ∷ pairs) pair (r, b, more) a = (r, b, runs_more r t u pairs pair more a)

positive_pairs : (s t : Ratio) (pairs : List (Ratio × Ratio)) → RunsTo s pairs t → AllByRecursion ArePositive pairs
positive_pairs s t [] runs = tt
positive_pairs s t (pair ∷ pairs) (r, a, more) = (record { left = a.left.positive; right = a.right.positive }, positive_pairs r t pairs more)

regrouped : (w p x : ℤ) → w +ℤ p +ℤ x ≡ w +ℤ (p +ℤ x)
regrouped w p x = omega (arith, ints)

with_zero : (x : ℤ) → x +ℤ pos 0 ≡ x
with_zero x = omega (arith, ints)

after_zero : (x : ℤ) → pos 0 +ℤ x ≡ x
after_zero x = omega (arith, ints)

-- what a running sum leads to, over a denominator that all divide
runs_over : (d : ℕ) (s t : Ratio) (w : ℤ) (pairs : List (Ratio × Ratio)) → AllByRecursion (DividesBoth d) pairs → RunsTo s pairs t → IsOver s w (d * d)
    → IsOver t (w +ℤ whole_sum d pairs) (d * d)
unfolding whole_sum
runs_over d s t w [] all same over = subst (λ x. IsOver t x (d * d)) (sym (with_zero w)) (subst (λ r. IsOver r w (d * d)) same over)
runs_over d s t w (pair ∷ pairs) all (r, a, more) over =
    let left = all.0.left in
    let right = all.0.right in
    let p : ℤ = whole_over d pair.0 *ℤ whole_over d pair.1 in
    let product_over : IsOver a.product p (d * d) =
    over_product pair.0 pair.1 a.product (whole_over d pair.0) (whole_over d pair.1) d d left.positive right.positive (over_by d pair.0 left) (over_by d pair.1 right) a.is_product in
    let step : IsOver r (w +ℤ p) (d * d) = over_sum s a.product r w p (d * d) a.start.positive a.product_lowest.positive over product_over a.sum in
    subst (λ x. IsOver t x (d * d)) (regrouped w p (whole_sum d pairs)) (runs_over d r t (w +ℤ p) pairs all.1 more step)

end_positive : (s t : Ratio) (pairs : List (Ratio × Ratio)) → 0 < s.under → RunsTo s pairs t → 0 < t.under
end_positive s t [] some same = subst (λ r. 0 < r.under) same some
end_positive s t (pair ∷ pairs) some (r, a, more) = end_positive r t pairs a.lowest.positive more

-- a running sum from 0 leads to the sum of the products
pub record Reaches (pairs : List (Ratio × Ratio)) (t : Ratio) : Type 0 where
  pub same : SameRatio t (sum_of_products pairs)
  pub end_some : 0 < t.under
  pub sum_some : 0 < (sum_of_products pairs).under

pub runs_reach : (t : Ratio) (pairs : List (Ratio × Ratio)) → RunsTo nothing pairs t → Reaches pairs t
runs_reach t pairs runs =
    let common = common_divided pairs (positive_pairs nothing t pairs runs) in
    let d : ℕ = common.0 in
    let sum = sum_over d pairs common.2 in
    let over : IsOver t (whole_sum d pairs) (d * d) =
    subst (λ x. IsOver t x (d * d)) (after_zero (whole_sum d pairs)) (runs_over d nothing t (pos 0) pairs common.2 runs (over_zero nothing (d * d) refl)) in
    let some : 0 < t.under = end_positive nothing t pairs (omega arith) runs in
    record {
      same = (over_same t (sum_of_products pairs) (whole_sum d pairs) (whole_sum d pairs) (d * d) (under_positive d d common.1 common.1) some sum.1 over sum.0).1 refl;
      end_some = some;
      sum_some = sum.1;
    }
