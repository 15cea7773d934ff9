-- A product with 0, and what it adds to a sum.
use Rattle.std.proofs.Math.IntN.{*ℤ-zero}
use Rattle.std.proofs.Common.{◌≡◌, ◌*◌, ◌/◌, ◌<◌, ◌^◌, arith, pos, None, ◌+ℤ◌, ◌*ℤ◌, ap, sym, ◌∙◌, refl, subst, ℕ, ℤ, lit<}
use Rattle.std.proofs.lemmas.Int.{ints}
use Rattle.bt_frac.proofs.Gcds.{coprime_one, whole_lowest}
use Rattle.bt_frac.specs.Ratio.{Ratio, IsLowest, FitsPart, CanAdd}
use Rattle.bt_frac.specs.Values.{nothing}
use Rattle.bt_frac.specs.declared.delta.Delta.{Delta}
use Rattle.bt_pivot.specs.Tableaus.{TableauParts}
use Rattle.bt_pivot.specs.Points.{bound_row, resting, value_or_zero}
use Rattle.bt_simplex.specs.inner.UnfitPoints.{AddsPart, AddsTerm}

-- a product with 1 or 0
times_one : (z : ℤ) → z *ℤ pos 1 ≡ z
times_one z = omega (arith, ints)

nothing_times : (k : ℕ) → 0 * k ≡ 0
nothing_times k = omega arith

no_product : (z : ℤ) (k : ℕ) → pos (0 * k) ≡ z *ℤ pos 0 *ℤ pos 1
no_product z k = ap pos (nothing_times k) ∙ sym (times_one (z *ℤ pos 0) ∙ *ℤ-zero z)

no_more : (z : ℤ) (k : ℕ) → z *ℤ pos (k * 1) ≡ (z *ℤ pos 1 +ℤ pos (0 * k)) *ℤ pos k
no_more z k = ap (λ n. z *ℤ pos n) one ∙ ap (λ x. x *ℤ pos k) (sym (ap (λ n. z *ℤ pos 1 +ℤ pos n) (nothing_times k) ∙ more))
  where
    one : k * 1 ≡ k
    one = omega arith

    more : z *ℤ pos 1 +ℤ pos 0 ≡ z
    more = omega (arith, ints, times_one z)

-- the working numbers of a sum with 0
nothing_fits : (a : Ratio) → IsLowest a → CanAdd a nothing
nothing_fits a low = (
  record { common = 1; is_common = coprime_one a.under; left = a.over *ℤ pos (1 / 1); left_is = refl; right = pos 0 *ℤ pos (a.under / 1); right_is = refl; under = a.under * (1 / 1); under_is = refl },
  record { left_fits = subst FitsPart (sym (times_one a.over)) low.over_fits; right_fits = right; sum_fits = subst FitsPart (sym sum) low.over_fits; under_fits = omega (arith, low.under_fits) },
)
  where
    right : 0 * (a.under / 1) < 2 ^ 127
    right = subst (λ n. n < 2 ^ 127) (sym (nothing_times (a.under / 1))) (lit< tt)

    sum : a.over *ℤ pos 1 +ℤ pos (0 * (a.under / 1)) ≡ a.over
    sum = omega (arith, ints, times_one a.over, nothing_times (a.under / 1))

-- a product with 0 is 0, and adds nothing
pub adds_nothing : (sum number part : Ratio) → IsLowest sum → part.over ≡ pos 0 → AddsPart sum number part sum
adds_nothing sum number part low none = record {
  product = nothing;
  product_lowest = whole_lowest (pos 0) (lit< tt);
  is_product = subst (λ z. pos (0 * (number.under * part.under)) ≡ number.over *ℤ z *ℤ pos 1) (sym none) (no_product number.over (number.under * part.under));
  is_sum = no_more sum.over sum.under;
  fits = nothing_fits sum low;
  lowest = low;
}

-- a position that isn't a bound row adds nothing where it rests
pub unbound_adds_nothing : (t : TableauParts) (q : ℕ) (number : Ratio) (sum : Delta) → bound_row t q ≡ None → IsLowest sum.value → IsLowest sum.tiny → AddsTerm (resting t q) sum number sum
unbound_adds_nothing t q number sum none low low' =
    subst (λ o. AddsTerm (value_or_zero o) sum number sum) (sym none)
    (record { value = adds_nothing sum.value number nothing low refl; tiny = adds_nothing sum.tiny number nothing low' refl })
