-- The sums of a line that a pivot changes, by those before it and those of the zero line.
use Rattle.std.proofs.Common.{◌≡◌, ◌*◌, ◌<◌, ◌^◌, arith, pos, ◌+ℤ◌, ◌*ℤ◌, Option, Some, ap, sym, ◌∙◌, refl, subst, ℕ, ℤ}
use Rattle.std.specs.List.{All}
use Rattle.bt_frac.specs.Ratio.{Ratio, SameRatio}
use Rattle.bt_frac.specs.Values.{AreValues, plus, times}
use Rattle.bt_frac.proofs.Over.{over_scaled}
use Rattle.bt_frac.proofs.Ring.{turn_last}
use Rattle.bt_linear_forms.specs.Lines.{Terms, HasNumber, IsLine, IsCombination, total}
use Rattle.bt_pivot.specs.Points.{resting, standing, IsSamePoint}
use Rattle.bt_pivot.specs.Tableaus.{TableauParts, IsTableau}
use Rattle.bt_pivot.specs.declared.short_points.Sums.{Sums}
use Rattle.bt_linear_forms.specs.Shorts.{reduced, AreScales}
use Rattle.bt_pivot.specs.Sums.{delta_of}
use Rattle.bt_pivot.specs.inner.Carrying.{AreCarried}
use Rattle.bt_linear_forms.specs.Changes.{IsScaled}
use Rattle.bt_linear_forms.specs.declared.short.merging.Scales.{Scales}
use Rattle.bt_linear_forms.proofs.Numbers.{Alike, alike, back, next, both_plus, both_times, plus_positive, times_positive}
use Rattle.bt_pivot.proofs.Resting.{rest_value, rest_tiny}
use Rattle.bt_linear_forms.proofs.ShortWalks.{whole_over, reduced_alike, factor_lowest, added_parts}
use Rattle.bt_linear_forms.proofs.Zeros.{combined_alike}

module _ (lu : ℕ) (k : ℤ) (ru : ℕ) (m r : ℤ) (u : ℕ) (s : AreScales lu k ru m r u) where
  -- a number over a line's denominator and its factor times another
  carried_parts : (v z : ℤ) → Alike (whole_over (v *ℤ m +ℤ r *ℤ z) u) (plus (whole_over v lu) (times (whole_over k lu) (whole_over z ru)))
  carried_parts v z =
      let left = alike (whole_over (v *ℤ m) u) (whole_over v lu) s.some s.left_some left_same in
      let right = alike (whole_over (r *ℤ z) u) (times (whole_over k lu) (whole_over z ru)) s.some (times_positive (whole_over k lu) (whole_over z ru) s.left_some s.right_some) right_same in
      let parts = alike (whole_over (v *ℤ m +ℤ r *ℤ z) u) (plus (whole_over (v *ℤ m) u) (whole_over (r *ℤ z) u)) s.some (plus_positive (whole_over (v *ℤ m) u) (whole_over (r *ℤ z) u) s.some s.some) (added_parts (v *ℤ m) (r *ℤ z) u) in
      next parts (both_plus left right)
    where
      left_same : SameRatio (whole_over (v *ℤ m) u) (whole_over v lu)
      left_same =
          sym (subst (λ t. v *ℤ pos u ≡ v *ℤ t *ℤ pos lu) (sym s.left_is) (subst (λ n. v *ℤ pos n ≡ v *ℤ pos s.by *ℤ pos lu) s.under_is (over_scaled (whole_over v lu) v lu s.by refl)))

      right_same : SameRatio (whole_over (r *ℤ z) u) (times (whole_over k lu) (whole_over z ru))
      right_same = turn_last r z (pos (lu * ru)) ∙ ap (λ t. t *ℤ z) s.right_is ∙ turn_last k (pos u) z

  carried_total : (at : ℕ → Ratio) → AreValues at → (old zero new : Terms) → All HasNumber old → All HasNumber zero → IsLine new → IsCombination old (reduced k lu) zero new → (v z : ℤ)
      → Alike (whole_over v lu) (total at old) → Alike (whole_over z ru) (total at zero) → Alike (whole_over (v *ℤ m +ℤ r *ℤ z) u) (total at new)
  carried_total at values old zero new old_all zero_all line sum v z old_is zero_is =
      let factor = back (reduced_alike k lu s.left_some (wide lu s.left_fits) (omega arith)) in
      next (carried_parts v z)
      (next (both_plus old_is (both_times factor zero_is)) (back (combined_alike at values old (reduced k lu) zero new (factor_lowest lu k ru m r u s).positive old_all zero_all line sum)))
    where
      wide : (n : ℕ) → n < 2 ^ 31 → n < 2 ^ 127
      wide n h = omega arith

-- the sums that are carried are those of the line after a pivot
pub carried_point : (t : TableauParts) → IsTableau t → (zero : Terms) (slot slot' : Option Terms) (scales : Scales) (is : IsScaled zero slot slot' scales) (before other after : Sums) → AreCarried scales before other after
    → IsSamePoint (delta_of other) (standing (resting t) 0 (Some zero)) → IsSamePoint (delta_of before) (standing (resting t) 0 (Some is.terms))
    → IsSamePoint (delta_of after) (standing (resting t) 0 (Some is.terms_after))
carried_point t tableau zero slot slot' scales is before other after carried zero_is old_is =
    let value =
    at (λ p. (resting t p).value) (rest_value t tableau.rows) before.value other.value after.value carried.value_is
    (alike (whole_over before.value before.under) (total (λ p. (resting t p).value) is.terms) old_is.left_value old_is.right_value old_is.same.0)
    (alike (whole_over other.value other.under) (total (λ p. (resting t p).value) zero) zero_is.left_value zero_is.right_value zero_is.same.0) in
    let tiny =
    at (λ p. (resting t p).tiny) (rest_tiny t) before.tiny other.tiny after.tiny carried.tiny_is
    (alike (whole_over before.tiny before.under) (total (λ p. (resting t p).tiny) is.terms) old_is.left_tiny old_is.right_tiny old_is.same.1)
    (alike (whole_over other.tiny other.under) (total (λ p. (resting t p).tiny) zero) zero_is.left_tiny zero_is.right_tiny zero_is.same.1) in
    record { left_value = value.left; left_tiny = tiny.left; right_value = value.right; right_tiny = tiny.right; same = (value.same, tiny.same) }
  where
    at : (rests : ℕ → Ratio) → AreValues rests → (v z w : ℤ) → w ≡ v *ℤ scales.left +ℤ scales.right *ℤ z → Alike (whole_over v before.under) (total rests is.terms) → Alike (whole_over z other.under) (total rests zero)
        → Alike (whole_over w after.under) (total rests is.terms_after)
    at rests values v z w e old other_is =
        subst (λ n. Alike (whole_over w n) (total rests is.terms_after)) (sym carried.under_is)
        (subst (λ y. Alike (whole_over y scales.under) (total rests is.terms_after)) (sym e)
        (carried_total scales.left_under is.factor scales.right_under scales.left scales.right scales.under is.are_scales rests values is.terms zero is.terms_after is.line.numbers is.zero_line.numbers is.line_after is.sum v z
        (subst (λ n. Alike (whole_over v n) (total rests is.terms)) carried.before_under old) (subst (λ n. Alike (whole_over z n) (total rests zero)) carried.other_under other_is)))

-- and their denominator is small
pub carried_fits : (zero : Terms) (slot slot' : Option Terms) (scales : Scales) → IsScaled zero slot slot' scales → (before other after : Sums) → AreCarried scales before other after → after.under < 2 ^ 31
carried_fits zero slot slot' scales is before other after carried = subst (λ n. n < 2 ^ 31) (sym carried.under_is) is.are_scales.fits
