-- Walks over two short lines.
use Rattle.std.specs.Int.{w64}
use Rattle.std.proofs.Common.{FitsSigned, ◌⊎◌, inl, inr, ◌≡◌, ◌≢◌, ℕ, ◌+◌, ◌*◌, ◌/◌, ◌^◌, ◌<◌, ◌≤◌, zero, suc, arith, ℤ, pos, neg_ℤ, ◌*ℤ◌, ◌+ℤ◌, ◌-ℤ◌, ◌<ℤ◌, ◌≤ℤ◌, Bool, true, false, if◌then◌else◌, ◌==◌, unsigned_abs, [], ◌∷◌, ◌++◌, length, drop, get_or, map, Option, Some, None, ap, sym, ◌∙◌, refl, subst}
use Rattle.std.specs.List.{All}
use Rattle.std.proofs.lemmas.Int.{ints, unsigned_abs-mul, fits_signed_from_abs}
use Rattle.std.proofs.lemmas.List.Elements.{All-head, All-tail, All-cons, All-nil, All-append}
use Rattle.std.proofs.lemmas.Nat.{mul-lt}
use Rattle.std.proofs.Math.Nat.{div-mul_cancel}
use Rattle.std.proofs.Math.IntN.{pos-*ℤ-pos, zero-*ℤ}
use Rattle.bt_frac.specs.Ratio.{Ratio, SameRatio, IsLowest, IsOver, IsSum, FitsPart}
use Rattle.bt_frac.specs.Products.{IsProduct}
use Rattle.bt_frac.specs.Values.{plus, times}
use Prim.Native.Nat.{◌∣◌}
use Rattle.std.proofs.lemmas.Bool.{false≢true, cases_lt}
use Rattle.std.proofs.lemmas.Bool.Decides.{nat_tests}
use Rattle.std.proofs.lemmas.List.{drop_all}
use Rattle.bt_frac.proofs.Gcds.{quotient_positive, quotient_product}
use Rattle.bt_frac.proofs.Order.{mul_cancel}
use Rattle.bt_frac.proofs.Over.{over_scaled, under_positive}
use Rattle.bt_frac.proofs.Ring.{mul_assoc, products, sums, turn_last}
use Rattle.bt_linear_forms.specs.Changes.{IsScaled}
use Rattle.bt_linear_forms.specs.declared.short.merging.Scales.{Scales}
use Rattle.bt_linear_forms.specs.Lines.{Terms, HasNumber, IsLine, IsCombination}
use Rattle.bt_frac.specs.Columns.{AreColumnsFrom}
use Rattle.bt_frac.specs.Rows.{columns_of}
use Rattle.bt_linear_forms.proofs.SignedLines.{number_of_named}
use Rattle.bt_linear_forms.specs.Shorts.{Numbers, reduced, terms_over, IsSmall, IsShort, Ascend, whole_at, AreScales}
use Rattle.bt_linear_forms.specs.inner.ShortSteps.{IsTermOver, IsShortStep, IsShortSum, IsSmallTerm}
use Rattle.bt_linear_forms.specs.Substituting.{IsSubstituted}
use Rattle.bt_linear_forms.specs.inner.Steps.{IsStep, IsNumbered}
use Rattle.bt_linear_forms.proofs.Numbers.{Alike, alike, back, next, both_plus, both_times, plus_positive, times_positive}
use Rattle.bt_linear_forms.proofs.Shorts.{reduced_lowest, reduced_over, reduced_only, reduced_zero, over_more, number_is}
use Rattle.bt_linear_forms.proofs.Totals.{product_some, step_first, step_before, step_second, step_after, step_same}
use Rattle.bt_linear_forms.proofs.Walks.{IsWalk, walk_begins, walk_stays, walk_grows, walk_line, walk_ends}

pub product_below : (x y : ℤ) → IsSmall x → IsSmall y → unsigned_abs (x *ℤ y) < 2 ^ 62
product_below x y p q = rw unsigned_abs-mul (mul-lt (unsigned_abs x) (unsigned_abs y) (2 ^ 31) (2 ^ 31) p q)

-- the quotient of a number by a divisor of its magnitude
pub quotient_below : (z s : ℤ) (g : ℕ) → g ∣ unsigned_abs z → z <ℤ pos 0 → s ≡ pos (unsigned_abs z / g) → (pos 0 -ℤ s) *ℤ pos g ≡ z
quotient_below z s g divides less is = ap (λ t. t *ℤ pos g) (opposite s) ∙ ap (λ t. neg_ℤ t *ℤ pos g) is ∙ quotient_product z g true divides (λ h. less, λ h. refl)
  where
    opposite : (s : ℤ) → pos 0 -ℤ s ≡ neg_ℤ s
    opposite s = omega (arith, ints)

pub quotient_above : (z s : ℤ) (g : ℕ) → g ∣ unsigned_abs z → pos 0 ≤ℤ z → s ≡ pos (unsigned_abs z / g) → s *ℤ pos g ≡ z
quotient_above z s g divides least is =
    ap (λ t. t *ℤ pos g) is ∙ quotient_product z g false divides (λ h. absurd (false≢true h), λ h. absurd (omega (arith, ints)))

-- the other sign of a number of 64 bits fits
pub opposite_fits : (s : ℤ) (n : ℕ) → s ≡ pos n → n < 2 ^ 63 → FitsSigned w64 (pos 0 -ℤ s)
opposite_fits s n is fits = fits_signed_from_abs w64 (pos 0 -ℤ s) (omega (arith, ints))

-- a whole number over a denominator
abbrev pub whole_over : ℤ → ℕ → Ratio
whole_over z d = record { over = z; under = d }

pub reduced_alike : (z : ℤ) (d : ℕ) → 0 < d → d < 2 ^ 127 → FitsPart z → Alike (reduced z d) (whole_over z d)
reduced_alike z d some fits small = alike (reduced z d) (whole_over z d) (reduced_lowest z d some fits small).positive some (reduced_over z d)

zero_reduced : (z : ℤ) (d : ℕ) → 0 < d → z ≡ pos 0 → (reduced z d).over ≡ pos 0
zero_reduced z d some e =
    mul_cancel (reduced z d).over (pos 0) d some (reduced_over z d ∙ ap (λ t. t *ℤ pos (reduced z d).under) e ∙ zero-*ℤ (pos (reduced z d).under) ∙ sym (zero-*ℤ (pos d)))

-- the sum of whole numbers over one denominator
added_parts_ints : (x y u : ℤ) → (x +ℤ y) *ℤ (u *ℤ u) ≡ (x *ℤ u +ℤ y *ℤ u) *ℤ u
added_parts_ints x y u = simp (products, sums)

pub added_parts : (x y : ℤ) (u : ℕ) → (x +ℤ y) *ℤ pos (u * u) ≡ (x *ℤ pos u +ℤ y *ℤ pos u) *ℤ pos u
added_parts x y u = simp pos-*ℤ-pos at (added_parts_ints x y (pos u))

wide : (u : ℕ) → u < 2 ^ 31 → u < 2 ^ 127
wide u h = omega arith

small_part : (z : ℤ) → IsSmall z → FitsPart z
small_part z h = omega arith

product_part : (z : ℤ) → unsigned_abs z < 2 ^ 62 → FitsPart z
product_part z h = omega arith

sum_part : (x y : ℤ) → unsigned_abs x < 2 ^ 62 → unsigned_abs y < 2 ^ 62 → FitsPart (x +ℤ y)
sum_part x y p q = omega (arith, ints)

-- how a line begins: nowhere, or at this position
pub Begins : Numbers → ℕ → Type 0
Begins numbers position = (numbers ≡ []) ⊎ ((t : ℕ × ℤ) × (rest : Numbers) × (numbers ≡ t ∷ rest) × (t.0 ≡ position))

module _ (lu : ℕ) (k : ℤ) (ru : ℕ) (m r : ℤ) (u : ℕ) (s : AreScales lu k ru m r u) where
  -- the number of the first line over the new denominator
  pub left_same : (a : ℤ) → IsSmall a → reduced (a *ℤ m) u ≡ reduced a lu
  left_same a small =
      sym (reduced_only (reduced a lu) (a *ℤ m) u s.some (wide u s.fits) (product_part (a *ℤ m) (product_below a m small s.left_small)) (reduced_lowest a lu s.left_some (wide lu s.left_fits) (small_part a small))
      (subst (λ t. IsOver (reduced a lu) (a *ℤ t) u) (sym s.left_is) (subst (λ n. IsOver (reduced a lu) (a *ℤ pos s.by) n) s.under_is (over_scaled (reduced a lu) a lu s.by (reduced_over a lu)))))

  pub factor_lowest : IsLowest (reduced k lu)
  factor_lowest = reduced_lowest k lu s.left_some (wide lu s.left_fits) (small_part k s.factor_small)

  pub factor_not : (reduced k lu).over ≢ pos 0
  factor_not = λ e. s.factor_some (reduced_zero k lu s.left_some (wide lu s.left_fits) (small_part k s.factor_small) e)

  pub product_lowest : (b : ℤ) → IsSmall b → IsLowest (reduced (r *ℤ b) u)
  product_lowest b small = reduced_lowest (r *ℤ b) u s.some (wide u s.fits) (product_part (r *ℤ b) (product_below r b s.right_small small))

  -- the number of the second line times the factor
  pub right_product : (b : ℤ) → IsSmall b → IsProduct (reduced k lu) (reduced b ru) (reduced (r *ℤ b) u)
  right_product b small =
      let p = reduced_alike (r *ℤ b) u s.some (wide u s.fits) (product_part (r *ℤ b) (product_below r b s.right_small small)) in
      let x = reduced_alike k lu s.left_some (wide lu s.left_fits) (small_part k s.factor_small) in
      let y = reduced_alike b ru s.right_some (wide ru s.right_fits) (small_part b small) in
      let middle : SameRatio (whole_over (r *ℤ b) u) (times (whole_over k lu) (whole_over b ru)) =
      turn_last r b (pos (lu * ru)) ∙ ap (λ t. t *ℤ b) s.right_is ∙ turn_last k (pos u) b in
      (next p (next (alike (whole_over (r *ℤ b) u) (times (whole_over k lu) (whole_over b ru)) s.some (times_positive (whole_over k lu) (whole_over b ru) s.left_some s.right_some) middle) (back (both_times x y)))).same

  -- the sum of both
  pub both_lowest : (a b : ℤ) → IsSmall a → IsSmall b → IsLowest (reduced (a *ℤ m +ℤ r *ℤ b) u)
  both_lowest a b small small' =
      reduced_lowest (a *ℤ m +ℤ r *ℤ b) u s.some (wide u s.fits) (sum_part (a *ℤ m) (r *ℤ b) (product_below a m small s.left_small) (product_below r b s.right_small small'))

  pub both_sum : (a b : ℤ) → IsSmall a → IsSmall b → IsSum (reduced a lu) (reduced (r *ℤ b) u) (reduced (a *ℤ m +ℤ r *ℤ b) u)
  both_sum a b small small' =
      let left = product_below a m small s.left_small in
      let right = product_below r b s.right_small small' in
      let x = subst (λ t. Alike t (whole_over (a *ℤ m) u)) (left_same a small) (reduced_alike (a *ℤ m) u s.some (wide u s.fits) (product_part (a *ℤ m) left)) in
      let y = reduced_alike (r *ℤ b) u s.some (wide u s.fits) (product_part (r *ℤ b) right) in
      let z = reduced_alike (a *ℤ m +ℤ r *ℤ b) u s.some (wide u s.fits) (sum_part (a *ℤ m) (r *ℤ b) left right) in
      let parts = alike (whole_over (a *ℤ m +ℤ r *ℤ b) u) (plus (whole_over (a *ℤ m) u) (whole_over (r *ℤ b) u)) s.some (plus_positive (whole_over (a *ℤ m) u) (whole_over (r *ℤ b) u) s.some s.some) (added_parts (a *ℤ m) (r *ℤ b) u) in
      (next z (next parts (back (both_plus x y)))).same

-- the first line begins before the second, or alone
pub left_step : (left right : Numbers) (m r : ℤ) (u : ℕ) (t : ℕ × ℤ) (rest : Numbers) (position : ℕ) (number : ℤ) → left ≡ t ∷ rest → IsSmall t.1 → Begins right position → t.0 < position → number ≡ t.1 *ℤ m
    → IsShortStep left right m r u t.0 number rest right
unfolding Begins
left_step left right m r u t rest position number e small begins less is lu k ru s left_all right_all (Some term) (term_is, not) =
    subst (λ x. IsStep (terms_over lu left) (reduced k lu) (terms_over ru right) (Some x) (terms_over lu rest) (terms_over ru right))
    (ap (λ n. (t.0, n)) (sym (left_same lu k ru m r u s t.1 small)) ∙ ap (λ z. (t.0, reduced z u)) (sym is) ∙ sym term_is) (step begins)
  where
    step : ((right ≡ []) ⊎ ((t : ℕ × ℤ) × (rest : Numbers) × (right ≡ t ∷ rest) × (t.0 ≡ position)))
        → IsStep (terms_over lu left) (reduced k lu) (terms_over ru right) (Some (t.0, reduced t.1 lu)) (terms_over lu rest) (terms_over ru right)
    step (inl none) =
        step_first (terms_over lu left) (reduced k lu) (terms_over ru right) (t.0, reduced t.1 lu) (terms_over lu rest) (factor_lowest lu k ru m r u s) (ap (λ l. terms_over lu l) e) (ap (λ l. terms_over ru l) none)
    step (inr (other, others, some, at)) =
        step_before (terms_over lu left) (reduced k lu) (terms_over ru right) (t.0, reduced t.1 lu) (terms_over lu rest) (other.0, reduced other.1 ru) (terms_over ru others) (factor_lowest lu k ru m r u s)
        (ap (λ l. terms_over lu l) e) (ap (λ l. terms_over ru l) some) (subst (λ n. t.0 < n) (sym at) less)
left_step left right m r u t rest position number e small begins less is lu k ru s left_all right_all None none =
    let here = All-head HasNumber (t.0, reduced t.1 lu) (terms_over lu rest) (subst (λ l. All HasNumber (terms_over lu l)) e left_all) in
    absurd (here.1 (ap (λ x. x.over) (sym (left_same lu k ru m r u s t.1 small)) ∙ zero_reduced (t.1 *ℤ m) u s.some (sym is ∙ none)))

-- the second begins before the first, or alone
pub right_step : (left right : Numbers) (m r : ℤ) (u : ℕ) (t : ℕ × ℤ) (rest : Numbers) (position : ℕ) (number : ℤ) → right ≡ t ∷ rest → IsSmall t.1 → Begins left position → t.0 < position → number ≡ r *ℤ t.1
    → IsShortStep left right m r u t.0 number left rest
unfolding Begins
right_step left right m r u t rest position number e small begins less is lu k ru s left_all right_all (Some term) (term_is, not) =
    subst (λ x. IsStep (terms_over lu left) (reduced k lu) (terms_over ru right) (Some x) (terms_over lu left) (terms_over ru rest))
    (ap (λ z. (t.0, reduced z u)) (sym is) ∙ sym term_is) (step begins)
  where
    step : ((left ≡ []) ⊎ ((t : ℕ × ℤ) × (rest : Numbers) × (left ≡ t ∷ rest) × (t.0 ≡ position)))
        → IsStep (terms_over lu left) (reduced k lu) (terms_over ru right) (Some (t.0, reduced (r *ℤ t.1) u)) (terms_over lu left) (terms_over ru rest)
    step (inl none) =
        step_second (terms_over lu left) (reduced k lu) (terms_over ru right) (t.0, reduced t.1 ru) (terms_over ru rest) (t.0, reduced (r *ℤ t.1) u) (factor_lowest lu k ru m r u s) (factor_not lu k ru m r u s)
        (refl, product_lowest lu k ru m r u s t.1 small, right_product lu k ru m r u s t.1 small) (ap (λ l. terms_over ru l) e) (ap (λ l. terms_over lu l) none)
    step (inr (other, others, some, at)) =
        step_after (terms_over lu left) (reduced k lu) (terms_over ru right) (t.0, reduced t.1 ru) (terms_over ru rest) (t.0, reduced (r *ℤ t.1) u) (other.0, reduced other.1 lu) (terms_over lu others)
        (factor_lowest lu k ru m r u s) (factor_not lu k ru m r u s) (refl, product_lowest lu k ru m r u s t.1 small, right_product lu k ru m r u s t.1 small)
        (ap (λ l. terms_over ru l) e) (ap (λ l. terms_over lu l) some) (subst (λ n. t.0 < n) (sym at) less)
right_step left right m r u t rest position number e small begins less is lu k ru s left_all right_all None none =
    let here = All-head HasNumber (t.0, reduced t.1 ru) (terms_over ru rest) (subst (λ l. All HasNumber (terms_over ru l)) e right_all) in
    absurd (product_some (reduced k lu) (reduced t.1 ru) (reduced (r *ℤ t.1) u) (product_lowest lu k ru m r u s t.1 small).positive (right_product lu k ru m r u s t.1 small) (factor_not lu k ru m r u s) here.1
    (zero_reduced (r *ℤ t.1) u s.some (sym is ∙ none)))

-- both begin at one position
pub both_step : (left right : Numbers) (m r : ℤ) (u : ℕ) (t : ℕ × ℤ) (rest : Numbers) (t' : ℕ × ℤ) (rest' : Numbers) (number : ℤ) → left ≡ t ∷ rest → right ≡ t' ∷ rest' → IsSmall t.1 → IsSmall t'.1 → t.0 ≡ t'.0
    → number ≡ t.1 *ℤ m +ℤ r *ℤ t'.1 → IsShortStep left right m r u t.0 number rest rest'
both_step left right m r u t rest t' rest' number e e' small small' same is lu k ru s left_all right_all term told =
    step_same (terms_over lu left) (reduced k lu) (terms_over ru right) (t.0, reduced t.1 lu) (terms_over lu rest) (t'.0, reduced t'.1 ru) (terms_over ru rest') term (factor_lowest lu k ru m r u s)
    (ap (λ l. terms_over lu l) e) (ap (λ l. terms_over ru l) e') same
    (record {
      product = reduced (r *ℤ t'.1) u;
      product_lowest = product_lowest lu k ru m r u s t'.1 small';
      is_product = right_product lu k ru m r u s t'.1 small';
      sum = reduced number u;
      sum_lowest = subst (λ z. IsLowest (reduced z u)) (sym is) (both_lowest lu k ru m r u s t.1 t'.1 small small');
      is_sum = subst (λ z. IsSum (reduced t.1 lu) (reduced (r *ℤ t'.1) u) (reduced z u)) (sym is) (both_sum lu k ru m r u s t.1 t'.1 small small');
      is_term = numbered term told;
    })
  where
    numbered : (term : Option (ℕ × Ratio)) → IsTermOver u t.0 number term → IsNumbered t.0 (reduced number u) term
    numbered (Some x) (x_is, not) = (
      x_is,
      λ z. not (reduced_zero number u s.some (wide u s.fits)
          (subst (λ n. FitsPart n) (sym is) (sum_part (t.1 *ℤ m) (r *ℤ t'.1) (product_below t.1 m small s.left_small) (product_below r t'.1 s.right_small small'))) z),
    )
    numbered None none = zero_reduced number u s.some none

-- where what is left of a list begins
pub begins_at : (numbers : Numbers) (i : ℕ) (x : ℕ × ℤ) → (i < length numbers → drop i numbers ≡ x ∷ drop (i + 1) numbers) → Begins (drop i numbers) x.0
unfolding Begins
begins_at numbers i x h = elim (cases_lt i (length numbers)) [
  | inl inside ↦ inr (x, drop (i + 1) numbers, h inside, refl)
  | inr past ↦ inl (drop_all i numbers past)
]

-- what is left of one line, once the other has ended
pub rest_left : (left right : Numbers) (m r : ℤ) (u i j : ℕ) (t : ℕ × ℤ) (number : ℤ) → drop i left ≡ t ∷ drop (i + 1) left → IsSmall t.1 → length right ≤ j → number ≡ t.1 *ℤ m
    → IsShortStep (drop i left) (drop j right) m r u t.0 number (drop (i + 1) left) (drop j right)
rest_left left right m r u i j t number e small past is =
    left_step (drop i left) (drop j right) m r u t (drop (i + 1) left) (t.0 + 1) number e small (begins_at right j (t.0 + 1, pos 0) (λ h. absurd (omega arith))) (omega arith) is

pub rest_right : (left right : Numbers) (m r : ℤ) (u i j : ℕ) (t : ℕ × ℤ) (number : ℤ) → drop j right ≡ t ∷ drop (j + 1) right → IsSmall t.1 → length left ≤ i → number ≡ r *ℤ t.1
    → IsShortStep (drop i left) (drop j right) m r u t.0 number (drop i left) (drop (j + 1) right)
rest_right left right m r u i j t number e small past is =
    right_step (drop i left) (drop j right) m r u t (drop (j + 1) right) (t.0 + 1) number e small (begins_at left i (t.0 + 1, pos 0) (λ h. absurd (omega arith))) (omega arith) is

-- what is written of a sum of two short lines so far, and what is left of both
pub record IsShortWalk (left right : Numbers) (m r : ℤ) (u : ℕ) (written first second : Numbers) : Type 0 where
  pub small : All (λ t. IsSmall t.1) written
  pub walk : (lu : ℕ) (k : ℤ) (ru : ℕ) → AreScales lu k ru m r u → IsLine (terms_over lu left) → IsLine (terms_over ru right)
      → IsWalk (terms_over lu left) (reduced k lu) (terms_over ru right) (terms_over u written) (terms_over lu first) (terms_over ru second)

pub short_begins : (left right : Numbers) (m r : ℤ) (u : ℕ) → IsShortWalk left right m r u [] left right
short_begins left right m r u = record {
  small = All-nil (λ t. IsSmall t.1);
  walk = λ lu k ru s line line'. walk_begins (terms_over lu left) (reduced k lu) (terms_over ru right) (factor_lowest lu k ru m r u s) line line';
}

pub short_stays : (left right : Numbers) (m r : ℤ) (u : ℕ) (written first second first' second' : Numbers) (position : ℕ) (number : ℤ) → IsShortWalk left right m r u written first second
    → IsShortStep first second m r u position number first' second' → number ≡ pos 0 → IsShortWalk left right m r u written first' second'
short_stays left right m r u written first second first' second' position number so_far step none = record {
  small = so_far.small;
  walk = λ lu k ru s line line'.
      let w = so_far.walk lu k ru s line line' in
      walk_stays (terms_over lu left) (reduced k lu) (terms_over ru right) (terms_over u written) (terms_over lu first) (terms_over ru second) (terms_over lu first') (terms_over ru second')
      (factor_lowest lu k ru m r u s) w (step lu k ru s w.first_line.numbers w.second_line.numbers None none);
}

pub short_grows : (left right : Numbers) (m r : ℤ) (u : ℕ) (written first second first' second' : Numbers) (position : ℕ) (number : ℤ) → IsShortWalk left right m r u written first second
    → IsShortStep first second m r u position number first' second' → number ≢ pos 0 → IsSmall number → IsShortWalk left right m r u (written ++ (position, number) ∷ []) first' second'
short_grows left right m r u written first second first' second' position number so_far step not small = record {
  small = All-append (λ t. IsSmall t.1) written ((position, number) ∷ []) so_far.small (All-cons (λ t. IsSmall t.1) (position, number) [] small (All-nil (λ t. IsSmall t.1)));
  walk = λ lu k ru s line line'.
      let w = so_far.walk lu k ru s line line' in
      subst (λ l. IsWalk (terms_over lu left) (reduced k lu) (terms_over ru right) l (terms_over lu first') (terms_over ru second')) (sym (over_more u written position number))
      (walk_grows (terms_over lu left) (reduced k lu) (terms_over ru right) (terms_over u written) (terms_over lu first) (terms_over ru second) (terms_over lu first') (terms_over ru second')
      (factor_lowest lu k ru m r u s) (position, reduced number u) w (step lu k ru s w.first_line.numbers w.second_line.numbers (Some (position, reduced number u)) (refl, not)));
}

pub short_ends : (left right : Numbers) (m r : ℤ) (u : ℕ) (written first second : Numbers) → IsShortWalk left right m r u written first second → first ≡ [] → second ≡ [] → IsShortSum left right m r u written
short_ends left right m r u written first second so_far none none' lu k ru s line line' =
    let w = so_far.walk lu k ru s line line' in
    let low = factor_lowest lu k ru m r u s in (
      record {
        some = s.some;
        fits = s.fits;
        small = so_far.small;
        line = walk_line (terms_over lu left) (reduced k lu) (terms_over ru right) (terms_over u written) (terms_over lu first) (terms_over ru second) w;
      },
      walk_ends (terms_over lu left) (reduced k lu) (terms_over ru right) (terms_over u written) (terms_over lu first) (terms_over ru second) low (ap (λ l. terms_over lu l) none) (ap (λ l. terms_over ru l) none') w,
    )

-- the scales of two denominators and a factor whose greatest common divisor with the second is this
pub scales_are : (lu : ℕ) (k : ℤ) (ru g : ℕ) (m r : ℤ) (u : ℕ) → 0 < lu → lu < 2 ^ 31 → 0 < ru → ru < 2 ^ 31 → k ≢ pos 0 → IsSmall k → g ∣ ru → u < 2 ^ 31
    → m ≡ pos (ru / g) → u ≡ ru / g * lu → r *ℤ pos g ≡ k → IsSmall r → AreScales lu k ru m r u
scales_are lu k ru g m r u lu_some lu_fits ru_some ru_fits not small divides u_fits m_is u_is r_is r_small = record {
  left_some = lu_some;
  left_fits = lu_fits;
  right_some = ru_some;
  right_fits = ru_fits;
  factor_some = not;
  factor_small = small;
  some = subst (λ n. 0 < n) (sym u_is) (under_positive (ru / g) lu (quotient_positive ru g ru_some divides) lu_some);
  fits = u_fits;
  left_small = subst (λ z. IsSmall z) (sym m_is) below;
  right_small = r_small;
  by = ru / g;
  left_is = m_is;
  under_is = sym u_is;
  right_is =
      ap (λ n. r *ℤ pos n) (turned lu (ru / g) g ru (div-mul_cancel g divides)) ∙ ap (λ t. r *ℤ t) (sym (pos-*ℤ-pos g (ru / g * lu))) ∙ sym (mul_assoc r (pos g) (pos (ru / g * lu)))
      ∙ ap (λ t. t *ℤ pos (ru / g * lu)) r_is ∙ ap (λ n. k *ℤ pos n) (sym u_is);
}
  where
    below : ru / g < 2 ^ 31
    below = omega arith

    turned : (a b c d : ℕ) → b * c ≡ d → a * d ≡ c * (b * a)
    turned a b c d e = let f = ap (λ t. a * t) e in omega (arith, f)

-- the walk at these places of both lines, with room for the terms that are left
pub record IsShortMerge (left right : Numbers) (m r : ℤ) (u : ℕ) (written : Numbers) (count capacity first second : ℕ) : Type 0 where
  pub walk : IsShortWalk left right m r u written (drop first left) (drop second right)
  pub first_within : first ≤ length left
  pub second_within : second ≤ length right
  pub room : count + length left + length right ≤ capacity + first + second

-- the terms of a short line
positions_fit : (least u : ℕ) (numbers : Numbers) → AreColumnsFrom least (columns_of (terms_over u numbers)) → All (λ t. IsSmall t.1) numbers → All IsSmallTerm numbers
positions_fit least u [] ascends small = All-nil IsSmallTerm
positions_fit least u (t ∷ numbers) ascends small =
    All-cons IsSmallTerm t numbers (ascends.1, All-head (λ x. IsSmall x.1) t numbers small) (positions_fit (t.0 + 1) u numbers ascends.2 (All-tail (λ x. IsSmall x.1) t numbers small))

pub terms_small : (u : ℕ) (numbers : Numbers) → IsShort u numbers → All IsSmallTerm numbers
terms_small u numbers short = positions_fit 0 u numbers short.line.ascends short.small

-- their positions ascend
columns_ascend : (least u : ℕ) (numbers : Numbers) → AreColumnsFrom least (columns_of (terms_over u numbers)) → AreColumnsFrom least (map (λ t. t.0) numbers)
columns_ascend least u [] ascends = tt
columns_ascend least u (t ∷ numbers) ascends = (ascends.0, ascends.1, columns_ascend (t.0 + 1) u numbers ascends.2)

pub short_ascends : (u : ℕ) (numbers : Numbers) → IsShort u numbers → Ascend numbers
short_ascends u numbers short = columns_ascend 0 u numbers short.line.ascends

-- a number of another position isn't the first
whole_later : (t : ℕ × ℤ) (rest : Numbers) (p : ℕ) → t.0 ≢ p → whole_at p (t ∷ rest) ≡ whole_at p rest
whole_later t rest p apart = let test : (t.0 == p) ≡ false = grind (arith, nat_tests) in ap (λ b. if b then Some t.1 else whole_at p rest) test

-- one that is before all positions isn't named
whole_from : (least : ℕ) (numbers : Numbers) (p : ℕ) → p < least → AreColumnsFrom least (map (λ t. t.0) numbers) → whole_at p numbers ≡ None
whole_from least [] p less ascends = refl
whole_from least (t ∷ numbers) p less ascends = whole_later t numbers p (λ e. omega arith) ∙ whole_from (t.0 + 1) numbers p (omega arith) ascends.2

-- nor is one that is before the first of those that are left
pub whole_passed : (least : ℕ) (numbers : Numbers) (i : ℕ) (d : ℕ × ℤ) (p : ℕ) → AreColumnsFrom least (map (λ t. t.0) numbers) → i < length numbers → p < (get_or numbers i d).0 → whole_at p (drop i numbers) ≡ None
whole_passed least [] i d p ascends inside before = absurd (omega arith)
whole_passed least (u ∷ numbers) zero d p ascends inside before = whole_later u numbers p (λ e. omega arith) ∙ whole_from (u.0 + 1) numbers p (omega arith) ascends.2
whole_passed least (u ∷ numbers) (suc i) d p ascends inside before = whole_passed (u.0 + 1) numbers i d p ascends.2 (omega arith) before

-- the number of its position is small, and isn't 0
pub whole_small : (p : ℕ) (numbers : Numbers) (z : ℤ) → All (λ t. IsSmall t.1) numbers → whole_at p numbers ≡ Some z → IsSmall z
whole_small p [] z small named = absurd cc
whole_small p (t ∷ numbers) z small named =
    at (t.0 == p) named (λ e. whole_small p numbers z (All-tail (λ x. IsSmall x.1) t numbers small) e)
  where
    at : (b : Bool) → (if b then Some t.1 else whole_at p numbers) ≡ Some z → (whole_at p numbers ≡ Some z → IsSmall z) → IsSmall z
    at true e rest = let same : t.1 ≡ z = cc in subst (λ n. IsSmall n) same (All-head (λ x. IsSmall x.1) t numbers small)
    at false e rest = rest e

pub whole_not : (p u : ℕ) (numbers : Numbers) (z : ℤ) → IsShort u numbers → whole_at p numbers ≡ Some z → z ≢ pos 0
whole_not p u numbers z short named none =
    (number_of_named p (terms_over u numbers) (reduced z u) short.line.numbers (sym (number_is p u numbers (terms_over u numbers) (Some z) refl (sym named)))).1 (zero_reduced z u short.some none)

-- a walk over both numbers tells what becomes of the line
pub sum_told : (p lu ru : ℕ) (k : ℤ) (left right : Numbers) (now other written : Terms) → terms_over lu left ≡ now → terms_over ru right ≡ other → whole_at p left ≡ Some k
    → IsLine written → IsCombination (terms_over lu left) (reduced k lu) (terms_over ru right) written → IsSubstituted p other (Some now) (Some written)
sum_told p lu ru k left right now other written is is' whole line sum =
    inr (reduced k lu, sym (number_is p lu left now (Some k) is (sym whole)), (written, refl, line, subst (λ l. IsCombination l (reduced k lu) other written) is (subst (λ l. IsCombination (terms_over lu left) (reduced k lu) l written) is' sum)))

-- a walk over both numbers tells what becomes of the line, and by which scales
pub change_told : (p lu ru : ℕ) (k : ℤ) (left right written : Numbers) (now other : Terms) (scales : Scales) → terms_over lu left ≡ now → terms_over ru right ≡ other → whole_at p left ≡ Some k
    → IsLine (terms_over lu left) → IsLine (terms_over ru right) → AreScales lu k ru scales.left scales.right scales.under → scales.left_under ≡ lu → scales.right_under ≡ ru → IsLine (terms_over scales.under written)
    → IsCombination (terms_over lu left) (reduced k lu) (terms_over ru right) (terms_over scales.under written)
    → IsSubstituted p other (Some now) (Some (terms_over scales.under written)) × IsScaled other (Some now) (Some (terms_over scales.under written)) scales
change_told p lu ru k left right written now other scales is is' whole line line' are lu_is ru_is line_after sum = (
  sum_told p lu ru k left right now other (terms_over scales.under written) is is' whole line_after sum,
  record {
    terms = now;
    slot_is = refl;
    terms_after = terms_over scales.under written;
    slot_after = refl;
    factor = k;
    are_scales = subst (λ n. AreScales n k scales.right_under scales.left scales.right scales.under) (sym lu_is) (subst (λ n. AreScales lu k n scales.left scales.right scales.under) (sym ru_is) are);
    line = subst (λ l. IsLine l) is line;
    zero_line = subst (λ l. IsLine l) is' line';
    line_after = line_after;
    sum =
        subst (λ n. IsCombination now (reduced k n) other (terms_over scales.under written)) (sym lu_is)
        (subst (λ l. IsCombination l (reduced k lu) other (terms_over scales.under written)) is (subst (λ l. IsCombination (terms_over lu left) (reduced k lu) l (terms_over scales.under written)) is' sum));
  },
)
