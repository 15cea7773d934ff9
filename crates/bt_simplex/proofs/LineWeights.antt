-- The weights of the failing line are those of the basis.
use Rattle.std.proofs.Common.{◌≡◌, ◌≢◌, ◌↔◌, ◌+◌, ◌-◌, ◌==◌, ◌≤◌, ◌*◌, arith, pos, ◌*ℤ◌, Bool, true, false, IsTrue, if◌then◌else◌, map, List, ◌∷◌, Some, None, ap, sym, ◌∙◌, refl, subst, inl, inr, ℕ, ℤ, []}
use Rattle.std.specs.List.{All}
use Rattle.std.proofs.lemmas.Int.{ints}
use Rattle.std.proofs.lemmas.Bool.Decides.{nat_tests}
use Rattle.std.proofs.lemmas.List.Elements.{All-head, All-tail}
use Rattle.bt_frac.specs.Ratio.{Ratio, negated}
use Rattle.bt_frac.specs.Values.{times}
use Rattle.bt_farkas.specs.WeightedRows.{coefficient_at}
use Rattle.bt_linear_forms.specs.Lines.{one, Terms}
use Rattle.bt_pivot.specs.Points.{bound_row}
use Rattle.bt_pivot.specs.Tableaus.{TableauParts, IsTableau}
use Rattle.bt_simplex.specs.Pivots.{IsStuckAt}
use Rattle.bt_simplex.specs.Weights.{StandsAbove, IsSign, IsWeight, AreWeights}
use Rattle.bt_simplex.specs.inner.Lemmas.{signed, weight_of, AreLineWeights}
use Rattle.bt_linear_forms.proofs.Numbers.{negated_times}
use Rattle.bt_simplex.proofs.Refutations.{entry_is, own_named, theirs_named, line_bound, line_over, weights_ascend}
use Rattle.bt_linear_forms.proofs.Shares.{negated_twice}

-- a weight is the signed number at its row's position, and back
named_weight : (columns : ℕ) (above : Bool) (line : Terms) (row : ℕ) (weight : Ratio) → All (λ u. columns ≤ u.0) line
    → (coefficient_at row (map (weight_of columns above) line) ≡ Some weight) → (z : Ratio) × (coefficient_at (columns + row) line ≡ Some z) × (weight ≡ signed above z)
named_weight columns above [] row weight over e = absurd cc
named_weight columns above (u ∷ line) row weight over e = at (u.0 - columns == row) refl e (named_weight columns above line row weight (All-tail (λ x. columns ≤ x.0) u line over))
  where
    low : columns ≤ u.0
    low = All-head (λ x. columns ≤ x.0) u line over

    at : (b : Bool) → (u.0 - columns == row) ≡ b → (if b then Some (signed above u.1) else coefficient_at row (map (weight_of columns above) line)) ≡ Some weight
        → (coefficient_at row (map (weight_of columns above) line) ≡ Some weight → (z : Ratio) × (coefficient_at (columns + row) line ≡ Some z) × (weight ≡ signed above z))
        → (z : Ratio) × (coefficient_at (columns + row) (u ∷ line) ≡ Some z) × (weight ≡ signed above z)
    at true test h later =
        let under : columns ≤ u.0 = low in
        let here : (u.0 == columns + row) ≡ true = grind (arith, nat_tests) in
        (u.1, ap (λ b. if b then Some u.1 else coefficient_at (columns + row) line) here, (let same : weight ≡ signed above u.1 = cc in same))
    at false test h later =
        let under : columns ≤ u.0 = low in
        let here : (u.0 == columns + row) ≡ false = grind (arith, nat_tests) in
        let rest = later h in
        (rest.0, ap (λ b. if b then Some u.1 else coefficient_at (columns + row) line) here ∙ rest.1, rest.2)

weight_named : (columns : ℕ) (above : Bool) (line : Terms) (row : ℕ) (z : Ratio) → All (λ u. columns ≤ u.0) line
    → coefficient_at (columns + row) line ≡ Some z → coefficient_at row (map (weight_of columns above) line) ≡ Some (signed above z)
weight_named columns above [] row z over e = absurd cc
weight_named columns above (u ∷ line) row z over e = at (u.0 == columns + row) refl e (weight_named columns above line row z (All-tail (λ x. columns ≤ x.0) u line over))
  where
    low : columns ≤ u.0
    low = All-head (λ x. columns ≤ x.0) u line over

    at : (b : Bool) → (u.0 == columns + row) ≡ b → (if b then Some u.1 else coefficient_at (columns + row) line) ≡ Some z
        → (coefficient_at (columns + row) line ≡ Some z → coefficient_at row (map (weight_of columns above) line) ≡ Some (signed above z))
        → coefficient_at row (map (weight_of columns above) (u ∷ line)) ≡ Some (signed above z)
    at true test h later =
        let under : columns ≤ u.0 = low in
        let here : (u.0 - columns == row) ≡ true = grind (arith, nat_tests) in
        let same : u.1 ≡ z = cc in
        ap (λ b. if b then Some (signed above u.1) else coefficient_at row (map (weight_of columns above) line)) here ∙ ap (λ r. Some (signed above r)) same
    at false test h later =
        let under : columns ≤ u.0 = low in
        let here : (u.0 - columns == row) ≡ false = grind (arith, nat_tests) in
        ap (λ b. if b then Some (signed above u.1) else coefficient_at row (map (weight_of columns above) line)) here
        ∙ later h

-- the weight of the failing position
abbrev weight_sign : Bool → Ratio
weight_sign above = if above then negated one else one

own_weight : (above : Bool) → signed above (negated one) ≡ weight_sign above
own_weight true = refl
own_weight false = negated_twice one

one_times_is : (z : Ratio) → times one z ≡ z
one_times_is z = ap (λ x. make x (1 * z.under)) (over_is z.over) ∙ ap (λ n. make z.over n) (under_is z.under)
  where
    make : ℤ → ℕ → Ratio
    make x n = record { over = x; under = n }

    over_is : (x : ℤ) → pos 1 *ℤ x ≡ x
    over_is x = omega (arith, ints)

    under_is : (n : ℕ) → 1 * n ≡ n
    under_is n = omega arith

their_weight : (above : Bool) (z : Ratio) → signed above z ≡ negated (times (weight_sign above) z)
their_weight true z = sym (ap negated (negated_times one z ∙ ap negated (one_times_is z)) ∙ negated_twice z)
their_weight false z = ap negated (sym (one_times_is z))

sign_is : (t : TableauParts) (p : ℕ) (above : Bool) → IsTrue above ↔ StandsAbove t p → IsSign t p (weight_sign above)
sign_is t p true told = inl (told.0 refl, refl)
sign_is t p false told = inr ((λ stands. let yes : false ≡ true = told.1 stands in absurd cc), refl)

-- the weights read off the line less the failing position are those of the basis
pub are_weights : (t : TableauParts) (p : ℕ) (weights : List (ℕ × Ratio)) → IsTableau t → IsStuckAt t p → AreLineWeights t p weights → AreWeights t p weights
are_weights t p weights tableau stuck are =
    subst (λ ws. AreWeights t p ws) (sym are.weights_are)
    (record {
      ascend = weights_ascend t p are.terms are.line are.above tableau stuck are.slot are.is_line are.combination are.is_above;
      sign = weight_sign are.above;
      is_sign = sign_is t p are.above are.is_above;
      each = λ row weight. (there row weight, here row weight);
    })
  where
    over : All (λ u. t.columns ≤ u.0) are.line
    over = line_over t p are.terms are.line are.above tableau stuck are.slot are.is_line are.combination are.is_above

    bound_at : (q : ℕ) (z : Ratio) → coefficient_at q are.line ≡ Some z → bound_row t q ≢ None
    bound_at q z named none =
        let found = line_bound t p are.terms are.line are.above tableau stuck are.slot are.is_line are.combination are.is_above q z named in
        let both : None ≡ Some found.0 = sym none ∙ found.1 in
        absurd cc

    there : (row : ℕ) (weight : Ratio) → coefficient_at row (map (weight_of t.columns are.above) are.line) ≡ Some weight → IsWeight t p (weight_sign are.above) (t.columns + row) weight
    there row weight e =
        let named = named_weight t.columns are.above are.line row weight over e in
        elim (entry_is t p are.terms are.line tableau are.slot are.is_line are.combination (t.columns + row) named.0 named.1) [
          | inl own ↦ inl (own.0, named.2 ∙ ap (signed are.above) own.1 ∙ own_weight are.above)
          | inr theirs ↦ inr (bound_at (t.columns + row) named.0 named.1, (are.terms, are.slot, (named.0, theirs, named.2 ∙ their_weight are.above named.0)))
        ]

    here : (row : ℕ) (weight : Ratio) → IsWeight t p (weight_sign are.above) (t.columns + row) weight → coefficient_at row (map (weight_of t.columns are.above) are.line) ≡ Some weight
    here row weight (inl (own, is)) =
        weight_named t.columns are.above are.line row (negated one) over
        (ap (λ n. coefficient_at n are.line) own ∙ own_named t p are.terms are.line tableau are.slot are.is_line are.combination)
        ∙ ap (λ r. Some r) (own_weight are.above ∙ sym is)
    here row weight (inr (bound, (terms, slot, (number, named, is)))) =
        let some : Some terms ≡ Some are.terms = sym slot ∙ are.slot in
        let same : terms ≡ are.terms = cc in
        weight_named t.columns are.above are.line row number over
        (theirs_named t p are.terms are.line tableau are.slot are.is_line are.combination (t.columns + row) number (subst (λ ts. coefficient_at (t.columns + row) ts ≡ Some number) same named))
        ∙ ap (λ r. Some r) (their_weight are.above number ∙ sym is)
