-- What short lines add up to where their positions rest.
use Rattle.std.proofs.Math.IntN.{pos-*ℤ-pos}
use Rattle.std.proofs.Common.{Ordering, Less, Equal, Greater, Bool, IsTrue, ◌↔◌, ◌<ℤ◌, inl, inr, ◌≡◌, ◌+◌, ◌-◌, ◌<◌, ◌≤◌, ◌^◌, arith, pos, ◌+ℤ◌, ◌*ℤ◌, ◌∷◌, length, take, get_or, Some, ap, sym, ◌∙◌, subst, ℕ, ℤ, []}
use Rattle.std.specs.List.{All}
use Rattle.std.proofs.lemmas.Int.{ints}
use Rattle.std.proofs.lemmas.List.{take_all}
use Rattle.bt_frac.specs.Ratio.{Ratio, SameRatio, IsSum, IsLess, FitsPart}
use Rattle.bt_frac.specs.Products.{IsProduct}
use Rattle.bt_frac.specs.Deltas.{IsLessDelta, IsOrderOfDeltas}
use Rattle.std.specs.Ordering.{MatchOrdering}
use Rattle.bt_frac.specs.Rows.{RowParts, IsRow}
use Rattle.bt_frac.specs.Values.{AreValues}
use Rattle.bt_frac.specs.declared.delta.Delta.{Delta}
use Rattle.bt_frac.specs.declared.relation.Relation.TheVariants.{Equal as AnEquation}
use Rattle.bt_frac.proofs.Ring.{products, sums}
use Rattle.bt_linear_forms.specs.Lines.{one, Terms, HasNumber, IsLine, total, signed_terms}
use Rattle.bt_pivot.specs.Points.{bound_row, resting, standing, Breaks, Fails, IsSamePoint, signed_point}
use Rattle.bt_pivot.specs.Tableaus.{TableauParts, IsTableau}
use Rattle.bt_pivot.specs.declared.short_points.Sums.{Sums}
use Rattle.bt_pivot.specs.SolvedForms.{slot_at}
use Rattle.bt_linear_forms.specs.Shorts.{Numbers, reduced, terms_over, IsShort}
use Rattle.bt_pivot.specs.inner.ShortPoints.{AddsWhole, BreaksTiny, IsBreak}
use Rattle.bt_pivot.specs.Sums.{delta_of}
use Rattle.bt_linear_forms.proofs.Shorts.{over_of, length_over, item_over, reduced_lowest, reduced_over}
use Rattle.bt_pivot.proofs.Failing.{fails_told}
use Rattle.bt_pivot.proofs.Places.{line_place, like_place}
use Rattle.bt_linear_forms.proofs.Numbers.{Positive, Alike, alike, next}
use Rattle.bt_pivot.proofs.Resting.{part_more, rest_value, rest_tiny}

-- both sums over a denominator
abbrev delta_over : Sums → ℕ → Delta
delta_over sums under = record { value = over_of sums.value under; tiny = over_of sums.tiny under }

product_parts_ints : (z b o r u : ℤ) → o *ℤ u ≡ z *ℤ r → z *ℤ b *ℤ (r *ℤ pos 1) ≡ o *ℤ b *ℤ u
product_parts_ints z b o r u e = opened z b r ∙ ap (λ t. t *ℤ b *ℤ pos 1) (sym e) ∙ closed o b u
  where
    opened : (z b r : ℤ) → z *ℤ b *ℤ (r *ℤ pos 1) ≡ z *ℤ r *ℤ b *ℤ pos 1
    opened z b r = simp products

    one : (z : ℤ) → z *ℤ pos 1 ≡ z
    one z = omega (arith, ints)

    pivoted : (o b u : ℤ) → o *ℤ u *ℤ b ≡ o *ℤ b *ℤ u
    pivoted o b u = simp products

    closed : (o b u : ℤ) → o *ℤ u *ℤ b *ℤ pos 1 ≡ o *ℤ b *ℤ u
    closed o b u = one (o *ℤ u *ℤ b) ∙ pivoted o b u

-- the product of a number over a denominator and a whole number
product_over : (r : Ratio) (z b : ℤ) (under : ℕ) → r.over *ℤ pos under ≡ z *ℤ pos r.under → IsProduct r (over_of b 1) (over_of (z *ℤ b) under)
product_over r z b under is = ap (λ t. z *ℤ b *ℤ t) (pos-*ℤ-pos r.under 1) ∙ product_parts_ints z b r.over (pos r.under) (pos under) is

sum_parts_ints : (v w u : ℤ) → (v +ℤ w) *ℤ (u *ℤ u) ≡ (v *ℤ u +ℤ w *ℤ u) *ℤ u
sum_parts_ints v w u = simp (products, sums)

-- the sum of two whole numbers over one denominator
sum_over : (v w : ℤ) (under : ℕ) → IsSum (over_of v under) (over_of w under) (over_of (v +ℤ w) under)
sum_over v w under = simp pos-*ℤ-pos at (sum_parts_ints v w (pos under))

-- one of both sums with one more term
whole_more : (at : ℕ → Ratio) → AreValues at → (under : ℕ) (numbers : Numbers) → 0 < under → All HasNumber (terms_over under numbers) → (i : ℕ) (x : ℕ × ℤ) (v b w : ℤ) → i < length numbers → x ≡ get_or numbers i x
    → at x.0 ≡ over_of b 1 → w ≡ v +ℤ x.1 *ℤ b → Alike (over_of v under) (total at (take i (terms_over under numbers))) → Alike (over_of w under) (total at (take (i + 1) (terms_over under numbers)))
whole_more at some under numbers has all i x v b w inside is rests sum so_far =
    let item = item_over under numbers i x inside is in
    let inside' : i < length (terms_over under numbers) = subst (λ n. i < n) (sym (length_over under numbers)) inside in
    let low : HasNumber (x.0, reduced x.1 under) = subst (λ t. HasNumber t) (sym item) (all i (x.0, reduced x.1 under) inside') in
    let product = subst (λ r. IsProduct (reduced x.1 under) r (over_of (x.1 *ℤ b) under)) (sym rests) (product_over (reduced x.1 under) x.1 b under (reduced_over x.1 under)) in
    let added = subst (λ u. IsSum (over_of v under) (over_of (x.1 *ℤ b) under) (over_of u under)) (sym sum) (sum_over v (x.1 *ℤ b) under) in
    part_more at some (terms_over under numbers) all i (x.0, reduced x.1 under) (over_of v under) (over_of (x.1 *ℤ b) under) (over_of w under) inside' item low.0.positive so_far has product has added

-- the same of both
short_more : (t : TableauParts) → IsTableau t → (under : ℕ) (numbers : Numbers) (now : Terms) → IsShort under numbers → terms_over under numbers ≡ now → (i : ℕ) (x : ℕ × ℤ) (sums after : Sums) → i < length numbers
    → x ≡ get_or numbers i x → IsSamePoint (delta_over sums under) (standing (resting t) 0 (Some (take i now))) → AddsWhole (resting t x.0) sums x.1 after
    → IsSamePoint (delta_over after under) (standing (resting t) 0 (Some (take (i + 1) now)))
short_more t tableau under numbers now short now_is i x sums after inside is so_far adds =
    let so_far' = subst (λ l. IsSamePoint (delta_over sums under) (standing (resting t) 0 (Some (take i l)))) (sym now_is) so_far in
    let value =
    whole_more (λ p. (resting t p).value) (rest_value t tableau.rows) under numbers short.some short.line.numbers i x sums.value adds.whole after.value inside is adds.value_rests adds.value_is
    (alike (over_of sums.value under) (total (λ p. (resting t p).value) (take i (terms_over under numbers))) so_far'.left_value so_far'.right_value so_far'.same.0) in
    let tiny =
    whole_more (λ p. (resting t p).tiny) (rest_tiny t) under numbers short.some short.line.numbers i x sums.tiny adds.often after.tiny inside is adds.tiny_rests adds.tiny_is
    (alike (over_of sums.tiny under) (total (λ p. (resting t p).tiny) (take i (terms_over under numbers))) so_far'.left_tiny so_far'.right_tiny so_far'.same.1) in
    subst (λ l. IsSamePoint (delta_over after under) (standing (resting t) 0 (Some (take (i + 1) l)))) now_is
    (record { left_value = value.left; left_tiny = tiny.left; right_value = value.right; right_tiny = tiny.right; same = (value.same, tiny.same) })

-- no terms add up to nothing
pub short_start : (t : TableauParts) (under : ℕ) (now : Terms) → 0 < under → IsSamePoint (delta_over (record { value = pos 0; tiny = pos 0; under = under }) under) (standing (resting t) 0 (Some (take 0 now)))
short_start t under now some = record { left_value = some; left_tiny = some; right_value = omega arith; right_tiny = omega arith; same = (nothing_is under, nothing_is under) }
  where
    nothing_is : (n : ℕ) → pos 0 *ℤ pos 1 ≡ pos 0 *ℤ pos n
    nothing_is n = omega (arith, ints)

-- the sums as fractions
pub short_point : (d : Delta) (a : Delta) (under : ℕ) (sums : Sums) → 0 < under → under < 2 ^ 31 → FitsPart sums.value → FitsPart sums.tiny → d.value ≡ reduced sums.value under → d.tiny ≡ reduced sums.tiny under
    → IsSamePoint (delta_over sums under) a → IsSamePoint d a
short_point d a under sums some fits first second value_is tiny_is same =
    let value = part sums.value a.value first value_is same.left_value same.right_value same.same.0 in
    let tiny = part sums.tiny a.tiny second tiny_is same.left_tiny same.right_tiny same.same.1 in
    record { left_value = value.left; left_tiny = tiny.left; right_value = value.right; right_tiny = tiny.right; same = (value.same, tiny.same) }
  where
    part : {r : Ratio} (z : ℤ) (b : Ratio) → FitsPart z → r ≡ reduced z under → 0 < under → Positive b → SameRatio (over_of z under) b → Alike r b
    part {r} z b small is left right same =
        let low = reduced_lowest z under left (omega arith) small in
        subst (λ q. Alike q b) (sym is) (next (alike (reduced z under) (over_of z under) low.positive left (reduced_over z under)) (alike (over_of z under) b left right same))

-- all terms
short_all : (t : TableauParts) (d : Delta) (under : ℕ) (numbers : Numbers) (now : Terms) (i : ℕ) → terms_over under numbers ≡ now → length numbers ≤ i
    → IsSamePoint d (standing (resting t) 0 (Some (take i now))) → IsSamePoint d (standing (resting t) 0 (Some now))
short_all t d under numbers now i now_is past same =
    let past' : length now ≤ i = subst (λ n. n ≤ i) (sym (length_over under numbers) ∙ ap length now_is) past in
    subst (λ l. IsSamePoint d (standing (resting t) 0 (Some l))) (take_all i now past') same

-- so many terms of a short line, and their sums over its denominator
abbrev pub AreSums : TableauParts → ℕ → Terms → ℕ → Sums → Type 0
AreSums t under now i sums = (sums.under ≡ under) × IsSamePoint (delta_over sums under) (standing (resting t) 0 (Some (take i now)))

pub sums_more : (t : TableauParts) → IsTableau t → (under : ℕ) (numbers : Numbers) (now : Terms) → IsShort under numbers → terms_over under numbers ≡ now → (i : ℕ) (x : ℕ × ℤ) (sums after : Sums) → i < length numbers
    → x ≡ get_or numbers i x → AreSums t under now i sums → AddsWhole (resting t x.0) sums x.1 after → AreSums t under now (i + 1) after
sums_more t tableau under numbers now short now_is i x sums after inside is so_far adds =
    (adds.under_is ∙ so_far.0, short_more t tableau under numbers now short now_is i x sums after inside is so_far.1 adds)

pub sums_all : (t : TableauParts) (under : ℕ) (numbers : Numbers) (now : Terms) (i : ℕ) (sums : Sums) → terms_over under numbers ≡ now → length numbers ≤ i → AreSums t under now i sums
    → IsSamePoint (delta_of sums) (standing (resting t) 0 (Some now))
sums_all t under numbers now i sums now_is past so_far =
    subst (λ u. IsSamePoint (delta_over sums u) (standing (resting t) 0 (Some now))) (sym so_far.0) (short_all t (delta_over sums under) under numbers now i now_is past so_far.1)

times_one : (z : ℤ) → z *ℤ pos 1 ≡ z
times_one z = omega (arith, ints)

-- a row that stands below its bound doesn't hold
pub below_breaks : (row : RowParts) (s : Sums) (bound level : ℤ) → row.bound ≡ over_of bound 1 → level ≡ bound *ℤ pos s.under → s.value <ℤ level → Breaks row (delta_of s)
below_breaks row s bound level is level_is less =
    inl (inl (subst (λ b. IsLess (over_of s.value s.under) b) (sym is) (subst (λ z. z <ℤ (bound *ℤ pos s.under)) (sym (times_one s.value)) (subst (λ z. s.value <ℤ z) level_is less))))

less_not : (x y : ℤ) → x <ℤ y → y <ℤ x → ⊥
less_not x y p q = omega (arith, ints)

less_same : (x y : ℤ) → x <ℤ y → x ≡ y → ⊥
less_same x y p q = omega (arith, ints)

-- above it, where it is an equation
pub above_breaks : (row : RowParts) (s : Sums) (bound level : ℤ) → row.bound ≡ over_of bound 1 → level ≡ bound *ℤ pos s.under → level <ℤ s.value → (row.relation ≡ AnEquation) ↔ Breaks row (delta_of s)
above_breaks row s bound level is level_is more = (λ e. inr (e, inl above), λ breaks. told breaks)
  where
    here : (bound *ℤ pos s.under) <ℤ (s.value *ℤ pos 1)
    here = subst (λ z. (bound *ℤ pos s.under) <ℤ z) (sym (times_one s.value)) (subst (λ z. z <ℤ s.value) level_is more)

    above : IsLess row.bound (over_of s.value s.under)
    above = subst (λ b. IsLess b (over_of s.value s.under)) (sym is) here

    told : Breaks row (delta_of s) → row.relation ≡ AnEquation
    told (inl (inl less)) = absurd (less_not (bound *ℤ pos s.under) (s.value *ℤ pos 1) here (subst (λ b. IsLess (over_of s.value s.under) b) is less))
    told (inl (inr (same, less))) = absurd (less_same (bound *ℤ pos s.under) (s.value *ℤ pos 1) here (sym (subst (λ b. SameRatio (over_of s.value s.under) b) is same)))
    told (inr (e, less)) = e

-- at it, where the multiple of the infinitesimal tells it
pub level_breaks : (row : RowParts) (s : Sums) (bound level : ℤ) → row.bound ≡ over_of bound 1 → level ≡ bound *ℤ pos s.under → s.value ≡ level
    → BreaksTiny row.relation (over_of s.tiny s.under) ↔ Breaks row (delta_of s)
level_breaks row s bound level is level_is even = (λ tiny. made tiny, λ breaks. told breaks)
  where
    here : s.value *ℤ pos 1 ≡ bound *ℤ pos s.under
    here = times_one s.value ∙ even ∙ level_is

    same : SameRatio (over_of s.value s.under) row.bound
    same = subst (λ b. SameRatio (over_of s.value s.under) b) (sym is) here

    back : SameRatio row.bound (over_of s.value s.under)
    back = subst (λ b. SameRatio b (over_of s.value s.under)) (sym is) (sym here)

    made : BreaksTiny row.relation (over_of s.tiny s.under) → Breaks row (delta_of s)
    made (inl less) = inl (inr (same, less))
    made (inr (e, more)) = inr (e, inr (back, more))

    told : Breaks row (delta_of s) → BreaksTiny row.relation (over_of s.tiny s.under)
    told (inl (inl less)) = absurd (less_same (s.value *ℤ pos 1) (bound *ℤ pos s.under) (subst (λ b. IsLess (over_of s.value s.under) b) is less) here)
    told (inl (inr (even, less))) = inl less
    told (inr (e, inl more)) = absurd (less_same (bound *ℤ pos s.under) (s.value *ℤ pos 1) (subst (λ b. IsLess b (over_of s.value s.under)) is more) (sym here))
    told (inr (e, inr (even, more))) = inr (e, more)

-- how whole numbers stand to sums over a denominator
pub order_less : (v t : ℤ) (s : Sums) (level : ℤ) → level ≡ v *ℤ pos s.under → level <ℤ s.value → IsLessDelta (record { value = over_of v 1; tiny = over_of t 1 }) (delta_of s)
order_less v t s level is less = inl (subst (λ z. (v *ℤ pos s.under) <ℤ z) (sym (times_one s.value)) (subst (λ z. z <ℤ s.value) is less))

pub order_more : (v t : ℤ) (s : Sums) (level : ℤ) → level ≡ v *ℤ pos s.under → s.value <ℤ level → IsLessDelta (delta_of s) (record { value = over_of v 1; tiny = over_of t 1 })
order_more v t s level is more = inl (subst (λ z. z <ℤ (v *ℤ pos s.under)) (sym (times_one s.value)) (subst (λ z. s.value <ℤ z) is more))

pub order_tiny : (v t : ℤ) (s : Sums) (level tiny : ℤ) (o : Ordering) → level ≡ v *ℤ pos s.under → level ≡ s.value → tiny ≡ t *ℤ pos s.under → MatchOrdering o (tiny <ℤ s.tiny) (tiny ≡ s.tiny) (s.tiny <ℤ tiny)
    → IsOrderOfDeltas o (record { value = over_of v 1; tiny = over_of t 1 }) (delta_of s)
order_tiny v t s level tiny o is even tiny_is ranks = at o ranks
  where
    same : v *ℤ pos s.under ≡ s.value *ℤ pos 1
    same = sym is ∙ even ∙ sym (times_one s.value)

    at : (o : Ordering) → MatchOrdering o (tiny <ℤ s.tiny) (tiny ≡ s.tiny) (s.tiny <ℤ tiny) → IsOrderOfDeltas o (record { value = over_of v 1; tiny = over_of t 1 }) (delta_of s)
    at Less less = inr (same, subst (λ z. (t *ℤ pos s.under) <ℤ z) (sym (times_one s.tiny)) (subst (λ z. z <ℤ s.tiny) tiny_is less))
    at Equal level_too = (same, sym tiny_is ∙ level_too ∙ sym (times_one s.tiny))
    at Greater more = inr (sym same, subst (λ z. z <ℤ (t *ℤ pos s.under)) (sym (times_one s.tiny)) (subst (λ z. s.tiny <ℤ z) tiny_is more))

-- the position of a row breaks as its line does
pub break_fails : (t : TableauParts) → All IsRow t.rows → (position : ℕ) (row : RowParts) (negated : Bool) (terms : Terms) (told : Bool) → bound_row t position ≡ Some row
    → slot_at t.slots position ≡ Some (signed_terms negated terms) → IsLine terms → IsBreak row negated (standing (resting t) 0 (Some terms)) told → (IsTrue told ↔ Fails t position)
break_fails t rows position row negated terms told here slot line (point, same, is) =
    let both = fails_told t position row (signed_point negated point) (signed_terms negated terms, slot) here (line_place t rows position negated terms point slot line same) in
    (λ h. both.0 (is.0 h), λ f. is.1 (both.1 f))

-- the position of a row breaks as another position rests
pub like_fails : (t : TableauParts) → All IsRow t.rows → (position : ℕ) (row : RowParts) (other : ℕ) (negated : Bool) (d : Delta) (told : Bool) → bound_row t position ≡ Some row
    → slot_at t.slots position ≡ Some (signed_terms negated ((other, one) ∷ [])) → other < 2 ^ 64 - 1 → d ≡ resting t other → (IsTrue told ↔ Breaks row (signed_point negated d)) → (IsTrue told ↔ Fails t position)
like_fails t rows position row other negated d told here slot within rests is =
    let both = fails_told t position row (signed_point negated d) (signed_terms negated ((other, one) ∷ []), slot) here (like_place t rows position other negated d slot within rests) in
    (λ h. both.0 (is.0 h), λ f. is.1 (both.1 f))
