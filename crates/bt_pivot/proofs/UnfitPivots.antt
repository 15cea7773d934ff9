-- Where the lines after a pivot don't fit, and where they do.
use Rattle.std.proofs.Math.IntN.{*ℤ_comm}
use Rattle.std.proofs.Common.{◌≡◌, ◌≢◌, ◌+◌, ◌*◌, ◌<◌, arith, suc, pos, neg_ℤ, ◌*ℤ◌, true, false, if◌then◌else◌, ◌==◌, ◌&&◌, ◌∷◌, length, set, length-set, Option, Some, None, ap, sym, ◌∙◌, refl, subst, inl, inr, ℕ, ℤ, []}
use Rattle.std.proofs.lemmas.Int.{ints}
use Rattle.std.proofs.lemmas.Bool.Decides.{nat_tests}
use Rattle.std.proofs.lemmas.List.{get_or-set_same, get_or-set_other}
use Rattle.bt_frac.specs.Ratio.{Ratio, IsLowest, negated}
use Rattle.bt_frac.specs.Products.{IsProduct, IsDivision}
use Rattle.bt_frac.specs.Values.{nothing, times}
use Rattle.bt_frac.proofs.Euclid.{lowest_same}
use Rattle.bt_frac.proofs.Ring.{neg_mul}
use Rattle.bt_farkas.specs.WeightedRows.{coefficient_at}
use Rattle.bt_linear_forms.specs.Lines.{one, Terms, HasNumber, IsLine, total}
use Rattle.bt_pivot.specs.SolvedForms.{Slots, slot_at, basis_from}
use Rattle.bt_linear_forms.specs.Unfits.{IsNone, IsUnfitStep, IsUnfit, IsUnfitShare, IsUnfitZero}
use Rattle.bt_pivot.specs.Entries.{number_or_zero, number_in, entry_at, pivot_entry, IsShare, IsEntryStep}
use Rattle.bt_pivot.specs.declared.basis.Pivot.{Pivot}
use Rattle.bt_linear_forms.specs.declared.unfit.Operation.{Operation}
use Rattle.bt_linear_forms.specs.declared.unfit.Operation.TheVariants.{Add, Mul, Div}
use Rattle.bt_linear_forms.specs.declared.unfit.Unfit.{Unfit}
use Rattle.bt_pivot.specs.declared.causes.Cause.{Cause}
use Rattle.bt_pivot.specs.inner.UnfitPivots.{AreAlike, HaveSameBasis, IsUnfitSlot, IsUnfitLine, IsUnfitPart, seen_right, entry_cause}
use Rattle.bt_pivot.specs.PivotedSlots.{IsUnfitPivot}
use Rattle.bt_linear_forms.specs.Substituting.{IsZeroLine}
use Rattle.bt_linear_forms.proofs.Indicators.{decide, indicator, indicator_some, here_is, other_is, lacking_total, total_at, none_lacks, number_has, times_one}
use Rattle.bt_linear_forms.proofs.Numbers.{Positive, nothing_some, Alike, itself, back, next, both_plus, both_times, swap_plus, swap_times, group_times, drop_zero, times_positive, times_zero, negated_times, zero_alike}
use Rattle.bt_linear_forms.proofs.Shares.{negated_twice, negated_low}
use Rattle.bt_linear_forms.proofs.Zeros.{one_lowest, negated_alike, share_is}
use Rattle.bt_linear_forms.proofs.Zeros as zeros

-- a product with the second number negated
flipped : (left right f : Ratio) → IsProduct left (negated right) f → IsProduct left right (negated f)
flipped left right f e = numbers f.over (pos (left.under * right.under)) left.over right.over (pos f.under) e
  where
    moved : (l r : ℤ) → l *ℤ neg_ℤ r ≡ neg_ℤ (l *ℤ r)
    moved l r = *ℤ_comm l (neg_ℤ r) ∙ neg_mul r l ∙ ap neg_ℤ (*ℤ_comm r l)

    twice : (z : ℤ) → neg_ℤ (neg_ℤ z) ≡ z
    twice z = omega (arith, ints)

    numbers : (f p l r u : ℤ) → f *ℤ p ≡ l *ℤ neg_ℤ r *ℤ u → neg_ℤ f *ℤ p ≡ l *ℤ r *ℤ u
    numbers f p l r u e =
        neg_mul f p ∙ ap neg_ℤ (e ∙ ap (λ t. t *ℤ u) (moved l r) ∙ neg_mul (l *ℤ r) u) ∙ twice (l *ℤ r *ℤ u)

flipped_back : (left right f : Ratio) → IsProduct left right f → IsProduct left (negated right) (negated f)
flipped_back left right f e = flipped left (negated right) f (subst (λ r. IsProduct left r f) (sym (negated_twice right)) e)

-- what the zero line has at a position is the leaving line's number there over that at the entering one, negated
module _ (leaves enters : ℕ) (terms : Terms) (number : Ratio) (zero : Terms) (is_zero : IsZeroLine leaves terms number zero) (apart : leaves ≢ enters) (line : IsLine terms)
    (is_number : coefficient_at enters terms ≡ Some number) (lacks : coefficient_at leaves terms ≡ None) where
  share_some : Positive is_zero.share
  share_some = is_zero.share_lowest.positive

  some : HasNumber (enters, number)
  some = number_has enters terms (Some number) line.numbers (sym is_number)

  number_there : (q : ℕ) (o : Option Ratio) → coefficient_at q terms ≡ o → Alike (total (indicator q) terms) (number_or_zero o)
  number_there q None e = lacking_total q terms line.numbers (none_lacks q terms e)
  number_there q (Some n) e = total_at q 0 terms n line e

  -- a share of a number times the divisor is the number
  share_times : (a : Ratio) → Positive a → Alike (times (times is_zero.share a) number) a
  share_times a a_some =
      next (both_times (swap_times is_zero.share a share_some a_some) (itself number some.0.positive))
      (next (group_times a is_zero.share number a_some share_some some.0.positive)
      (next (both_times (itself a a_some) (share_is number is_zero.share some.0.positive share_some is_zero.is_share)) (times_one a a_some)))

  pub own : ℕ → Ratio
  own q = if (leaves == leaves) && (q == leaves) then negated one else number_in q (Some terms)

  own_here : (q : ℕ) → q ≡ leaves → own q ≡ negated one
  unfolding own
  own_here q e =
      let test : ((leaves == leaves) && (q == leaves)) ≡ true = grind (arith, nat_tests) in
      ap (λ b. if b then negated one else number_in q (Some terms)) test

  own_other : (q : ℕ) → q ≢ leaves → own q ≡ number_in q (Some terms)
  unfolding own
  own_other q h =
      let test : ((leaves == leaves) && (q == leaves)) ≡ false = grind (arith, nat_tests) in
      ap (λ b. if b then negated one else number_in q (Some terms)) test

  -- the negated number, times the divisor
  zero_times : (q : ℕ) → Alike (times (negated (total (indicator q) zero)) number) (own q)
  zero_times q = elim (decide q leaves) [
    | inl same ↦
        let sum = zeros.zero_parts leaves enters terms number zero is_zero apart line is_number (indicator q) (indicator_some q) in
        let first : Alike (times is_zero.share (indicator q leaves)) is_zero.share =
        subst (λ r. Alike (times is_zero.share r) is_zero.share) (sym (here_is q leaves (sym same))) (times_one is_zero.share share_some) in
        let none : coefficient_at q terms ≡ None = ap (λ p. coefficient_at p terms) same ∙ lacks in
        let there = number_there q None none in
        let t = there.left in
        let product = both_times (itself is_zero.share share_some) there in
        let zero_product : (times is_zero.share (total (indicator q) terms)).over ≡ pos 0 = over_of product in
        let second : Alike (negated (times is_zero.share (total (indicator q) terms))) nothing =
        negated_alike (zero_alike (times is_zero.share (total (indicator q) terms)) product.left zero_product) in
        let z : Alike (total (indicator q) zero) is_zero.share =
        next sum (next (both_plus first second) (next (swap_plus is_zero.share nothing share_some nothing_some) (drop_zero nothing is_zero.share nothing_some share_some refl))) in
        subst (λ r. Alike (times (negated (total (indicator q) zero)) number) r) (sym (own_here q same))
        (next (both_times (negated_alike z) (itself number some.0.positive))
        (subst (λ r. Alike r (negated one)) (sym (negated_times is_zero.share number)) (negated_alike (share_is number is_zero.share some.0.positive share_some is_zero.is_share))))
    | inr other ↦
        let sum = zeros.zero_parts leaves enters terms number zero is_zero apart line is_number (indicator q) (indicator_some q) in
        let lone : (indicator q leaves).over ≡ pos 0 = ap (λ r. r.over) (other_is q leaves (λ e. other (sym e))) in
        let there = number_there q (coefficient_at q terms) refl in
        let product = both_times (itself is_zero.share share_some) there in
        let minus = negated_alike product in
        let first = times_positive is_zero.share (indicator q leaves) share_some (indicator_some q leaves) in
        let z : Alike (total (indicator q) zero) (negated (times is_zero.share (number_in q (Some terms)))) =
        next sum (next (drop_zero (times is_zero.share (indicator q leaves)) (negated (times is_zero.share (total (indicator q) terms))) first minus.left (times_zero is_zero.share (indicator q leaves) lone)) minus) in
        subst (λ r. Alike (times (negated (total (indicator q) zero)) number) r) (sym (own_other q other))
        (next (both_times (subst (λ r. Alike (negated (total (indicator q) zero)) r) (negated_twice (times is_zero.share (number_in q (Some terms)))) (negated_alike z)) (itself number some.0.positive))
        (share_times (number_in q (Some terms)) there.right))
  ]
    where
      over_of : {a : Ratio} → Alike a (times is_zero.share nothing) → a.over ≡ pos 0
      over_of {a} h = zeros.zero_of a (next h (zero_alike (times is_zero.share nothing) h.right (times_zero is_zero.share nothing refl)))

  -- so it is a share
  pub zero_share : (q : ℕ) (z : Ratio) → coefficient_at q zero ≡ Some z → IsDivision (own q) number (negated z)
  zero_share q z named =
      let here = total_at q 0 zero z is_zero.line named in
      sym (next (both_times (negated_alike (back here)) (itself number some.0.positive)) (zero_times q)).same

  -- and -1 at the entering position
  pub zero_named : coefficient_at enters zero ≡ Some (negated one)
  zero_named = at (coefficient_at enters zero) refl
    where
      minus : Alike (total (indicator enters) zero) (negated one)
      minus = zeros.zero_at leaves enters terms number zero is_zero apart line is_number

      at : (o : Option Ratio) → coefficient_at enters zero ≡ o → coefficient_at enters zero ≡ Some (negated one)
      at None e =
          let none = zeros.zero_of (negated one) (next (back minus) (lacking_total enters zero is_zero.line.numbers (none_lacks enters zero e))) in
          absurd (grind (arith, ints))
      at (Some z) e =
          let low : IsLowest z = (number_has enters zero (Some z) is_zero.line.numbers (sym e)).0 in
          e ∙ ap (λ r. Some r) (lowest_same z (negated one) low (negated_low one one_lowest) (next (back (total_at enters 0 zero z is_zero.line e)) minus).same)

  pub own_is : (slots : Slots) → slot_at slots leaves ≡ Some terms → (q : ℕ) → pivot_entry slots leaves leaves q ≡ own q
  unfolding own
  own_is slots leaving q = ap (λ o. if (leaves == leaves) && (q == leaves) then negated one else number_in q o) leaving

-- an operation of a slot's new line is one of the pivot
pub slot_unfit : (slots : Slots) (leaves enters : ℕ) (terms : Terms) (number : Ratio) (zero : Terms) (row : ℕ) (row_terms : Terms) (row_number : Ratio) (unfit : Unfit)
    → slot_at slots leaves ≡ Some terms → coefficient_at enters terms ≡ Some number → IsZeroLine leaves terms number zero → leaves ≢ enters → IsLine terms → coefficient_at leaves terms ≡ None
    → row ≢ leaves → slot_at slots row ≡ Some row_terms → coefficient_at enters row_terms ≡ Some row_number → IsUnfit row_terms row_number zero unfit
    → IsNone unfit.operation unfit.left (seen_right unfit.operation unfit.right)
    × IsEntryStep slots (record { leaves = leaves; enters = enters }) row unfit.column unfit.operation unfit.left (seen_right unfit.operation unfit.right)
slot_unfit slots leaves enters terms number zero row row_terms row_number unfit leaving is_number is_zero apart line lacks other row_line row_named (by, named, (column, none, step)) =
    at unfit.operation none step
  where
    pivot : Pivot
    pivot = record { leaves = leaves; enters = enters }

    low : IsLowest by
    low = (number_has unfit.column zero (Some by) is_zero.line.numbers (sym named)).0

    share : IsShare slots (record { leaves = leaves; enters = enters }) unfit.column (negated by)
    share = (
      negated_low by low,
      subst (λ a. IsDivision a (entry_at slots leaves enters) (negated by)) (sym (own_is leaves enters terms number zero is_zero apart line is_number lacks slots leaving unfit.column))
          (subst (λ b. IsDivision (own leaves enters terms number zero is_zero apart line is_number lacks unfit.column) b (negated by))
          (sym (ap (λ o. number_in enters o) leaving ∙ ap number_or_zero is_number))
          (zero_share leaves enters terms number zero is_zero apart line is_number lacks unfit.column by named)),
    )

    row_entry : entry_at slots row enters ≡ row_number
    row_entry = ap (λ o. number_in enters o) row_line ∙ ap number_or_zero row_named

    at : (operation : Operation) → IsNone operation unfit.left unfit.right → IsUnfitStep (coefficient_at unfit.column row_terms) row_number by operation unfit.left unfit.right
        → IsNone operation unfit.left (seen_right operation unfit.right)
        × IsEntryStep slots (record { leaves = leaves; enters = enters }) row unfit.column operation unfit.left (seen_right operation unfit.right)
    at Add none step = (
      none,
      (
        sym
            (ap (λ b. if b then negated one else entry_at slots row unfit.column) (not_own row other)
            ∙ ap (λ o. number_in unfit.column o) row_line ∙ ap number_or_zero step.0),
        (
          negated by,
          share,
          (
            negated unfit.right,
            negated_low unfit.right step.1,
            subst (λ a. IsProduct a (negated by) (negated unfit.right)) (sym row_entry) (flipped_back row_number by unfit.right step.2),
            sym (negated_twice unfit.right),
          ),
        ),
      ),
    )
      where
        not_own : (row : ℕ) → row ≢ leaves → ((row == leaves) && (unfit.column == leaves)) ≡ false
        not_own row h = grind (arith, nat_tests)
    at Mul none step = (
      λ result result_low product. none (negated result) (negated_low result result_low) (flipped unfit.left unfit.right result product),
      (step.0 ∙ sym row_entry, subst (λ r. IsShare slots (record { leaves = leaves; enters = enters }) unfit.column (negated r)) (sym step.1) share),
    )
    at Div none step = absurd step

-- a quotient of the leaving line is one of the pivot
pub part_unfit : (slots : Slots) (leaves enters : ℕ) (unfit : Unfit) → IsUnfitPart (slot_at slots leaves) leaves enters unfit
    → IsUnfitPivot slots leaves enters slots (entry_cause leaves unfit)
part_unfit slots leaves enters unfit part = at part.is_unfit
  where
    entry : entry_at slots leaves enters ≡ part.number
    entry = ap (λ o. number_in enters o) part.slot_is ∙ ap number_or_zero part.named

    made : (column : ℕ) (left : Ratio) → IsUnfitShare column left part.number unfit → left ≡ pivot_entry slots leaves leaves column → IsUnfitPivot slots leaves enters slots (entry_cause leaves unfit)
    made column left share own =
        subst (λ u. IsUnfitPivot slots leaves enters slots (entry_cause leaves u)) (sym share.0)
        (record { same_basis = refl; place = refl; none = share.1; step = (refl, own, sym entry) })

    at : IsUnfitZero leaves part.terms part.number unfit → IsUnfitPivot slots leaves enters slots (entry_cause leaves unfit)
    at (inl (number, named, share)) =
        made unfit.column number share
        (sym (ap (λ b. if b then negated one else entry_at slots leaves unfit.column) (other unfit.column apart) ∙ ap (λ o. number_in unfit.column o) part.slot_is ∙ ap number_or_zero named))
      where
        other : (column : ℕ) → column ≢ leaves → ((leaves == leaves) && (column == leaves)) ≡ false
        other column h = grind (arith, nat_tests)

        apart : unfit.column ≢ leaves
        apart e = let both : Some number ≡ None = sym named ∙ ap (λ p. coefficient_at p part.terms) e ∙ part.lacks in cc
    at (inr share) = made leaves (negated one) share (sym (ap (λ b. if b then negated one else entry_at slots leaves leaves) own))
      where
        own : ((leaves == leaves) && (leaves == leaves)) ≡ true
        own = grind (arith, nat_tests)

-- slots with lines at the same positions have the same basis
pub basis_same : (k : ℕ) (xs ys : Slots) → HaveSameBasis xs ys → basis_from k xs ≡ basis_from k ys
basis_same k [] [] same = refl
basis_same k [] (y ∷ ys) same = absurd (let e = same.same_length in omega arith)
basis_same k (x ∷ xs) [] same = absurd (let e = same.same_length in omega arith)
basis_same k (x ∷ xs) (y ∷ ys) same = first x y (same.alike 0) (basis_same (k + 1) xs ys (record { same_length = (let e = same.same_length in omega arith); alike = λ p. same.alike (suc p) }))
  where
    first : (x y : Option Terms) → AreAlike x y → basis_from (k + 1) xs ≡ basis_from (k + 1) ys → basis_from k (x ∷ xs) ≡ basis_from k (y ∷ ys)
    first None None h e = e
    first None (Some t) h e = absurd h
    first (Some t) None h e = absurd h
    first (Some t) (Some u) h e = ap (λ l. k ∷ l) e

alike_itself : (slot : Option Terms) → AreAlike slot slot
alike_itself None = tt
alike_itself (Some terms) = tt

-- put back in place, the line of the class makes the lines whole
pub put_back : (enters : ℕ) (zero : Terms) (lines : Slots) (left : ℕ) (old : Option Terms) (lines' : Slots) (cause : Cause) → left < length lines → old ≡ slot_at lines left
    → IsUnfitSlot enters zero (set lines left None) lines' cause → IsUnfitLine left enters zero lines (set lines' left old) cause
put_back enters zero lines left old lines' cause within is unfit = record {
  same_basis = record { same_length = length_is; alike = λ p. alike_at p };
  apart = other;
  terms = unfit.terms;
  line = sym (get_or-set_other lines left cause.row None None other) ∙ unfit.line;
  number = unfit.number;
  named = unfit.named;
  unfit = unfit.unfit;
  is_unfit = unfit.is_unfit;
  cause_is = unfit.cause_is;
}
  where
    other : cause.row ≢ left
    other same =
        let none : slot_at (set lines left None) cause.row ≡ None = ap (λ n. slot_at (set lines left None) n) same ∙ get_or-set_same lines left None None within in
        let both : None ≡ Some unfit.terms = sym none ∙ unfit.line in
        cc

    length_mid : length lines' ≡ length lines
    length_mid = unfit.same_basis.same_length ∙ length-set lines left None

    length_is : length (set lines' left old) ≡ length lines
    length_is = length-set lines' left old ∙ length_mid

    inside : left < length lines'
    inside = subst (λ n. left < n) (sym length_mid) within

    alike_at : (p : ℕ) → AreAlike (slot_at (set lines' left old) p) (slot_at lines p)
    alike_at p = elim (decide p left) [
      | inl same ↦
          subst (λ n. AreAlike (slot_at (set lines' left old) n) (slot_at lines n)) (sym same)
          (subst (λ o. AreAlike o (slot_at lines left)) (sym (get_or-set_same lines' left old None inside)) (subst (λ o. AreAlike o (slot_at lines left)) (sym is) (alike_itself (slot_at lines left))))
      | inr away ↦
          subst (λ o. AreAlike o (slot_at lines p)) (sym (get_or-set_other lines' left p old None away))
          (subst (λ o. AreAlike (slot_at lines' p) o) (get_or-set_other lines left p None None away) (unfit.same_basis.alike p))
    ]
