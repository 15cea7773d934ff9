-- Rows have one solved form at a basis.
use Rattle.std.proofs.Common.{◌≡◌, ◌≢◌, suc, ◌+◌, ◌<◌, arith, List, ◌∷◌, length, Option, Some, None, ap, sym, ◌∙◌, refl, subst, inl, inr, ◌↔◌, ℕ, []}
use Rattle.std.specs.List.{All}
use Rattle.std.proofs.lemmas.Bool.{cases_lt}
use Rattle.std.proofs.lemmas.List.Elements.{All-head, All-tail}
use Rattle.bt_frac.specs.Ratio.{Ratio}
use Rattle.bt_frac.specs.Rows.{RowParts, IsRow}
use Rattle.bt_frac.specs.Values.{nothing, times}
use Rattle.bt_frac.proofs.Euclid.{lowest_same}
use Rattle.bt_linear_forms.specs.Lines.{Terms, HasNumber, IsLineFrom, total}
use Rattle.bt_pivot.specs.SolvedForms.{Slots, slot_at, at_position, IsOutside, IsSolvedForm, InBasis}
use Rattle.bt_linear_forms.proofs.Indicators.{LacksPosition, decide, indicator, indicator_some, lacking_total, having_total, later_lacks, over_zero_of, other_is}
use Rattle.bt_linear_forms.proofs.Numbers.{Alike, alike, back, next, drop_zero, times_positive, times_zero}
use Rattle.bt_pivot.proofs.Denominators.{stands_some}
use Rattle.bt_linear_forms.proofs.Totals.{total_positive, rest_line}
use Rattle.bt_linear_forms.proofs.Zeros.{named_or_lacks, all_from, total_along}

-- the first number is seen, where the other line lacks its position
seen_first : (t : ℕ × Ratio) (terms others : Terms) (least : ℕ) → IsLineFrom least (t ∷ terms) → All HasNumber others → LacksPosition t.0 others
    → Alike (total (indicator t.0) (t ∷ terms)) (total (indicator t.0) others) → ⊥
seen_first t terms others least line all lacks same =
    let number = All-head HasNumber t terms line.numbers in
    number.1 (over_zero_of t.1 nothing (next (back (having_total t terms number (rest_line least t terms line))) (next same (lacking_total t.0 others all lacks))) refl)

-- the rest where another position is seen
rest_seen : (q : ℕ) (t : ℕ × Ratio) (terms : Terms) (least : ℕ) → IsLineFrom least (t ∷ terms) → t.0 ≢ q → Alike (total (indicator q) (t ∷ terms)) (total (indicator q) terms)
rest_seen q t terms least line other =
    let number = All-head HasNumber t terms line.numbers in
    drop_zero (times t.1 (indicator q t.0)) (total (indicator q) terms) (times_positive t.1 (indicator q t.0) number.0.positive (indicator_some q t.0))
    (total_positive (indicator q) (indicator_some q) terms (All-tail HasNumber t terms line.numbers)) (times_zero t.1 (indicator q t.0) (ap (λ r. r.over) (other_is q t.0 other)))

-- lines that have the same number at each position are the same
lines_same : (least : ℕ) (terms others : Terms) → IsLineFrom least terms → IsLineFrom least others → ((q : ℕ) → Alike (total (indicator q) terms) (total (indicator q) others)) → terms ≡ others
lines_same least [] [] line line' same = refl
lines_same least [] (u ∷ others) line line' same = absurd (seen_first u others [] least line' line.numbers (later_lacks u.0 (u.0 + 1) [] (omega arith) (record { ascends = tt; numbers = line.numbers })) (back (same u.0)))
lines_same least (t ∷ terms) [] line line' same = absurd (seen_first t terms [] least line line'.numbers (later_lacks t.0 (t.0 + 1) [] (omega arith) (record { ascends = tt; numbers = line'.numbers })) (same t.0))
lines_same least (t ∷ terms) (u ∷ others) line line' same =
    elim (cases_lt t.0 u.0) [
      | inl before ↦
          let after : IsLineFrom (t.0 + 1) (u ∷ others) = record { ascends = (omega arith, line'.ascends.1, line'.ascends.2); numbers = line'.numbers } in
          absurd (seen_first t terms (u ∷ others) least line line'.numbers (later_lacks t.0 (t.0 + 1) (u ∷ others) (omega arith) after) (same t.0))
      | inr not_before ↦ elim (cases_lt u.0 t.0) [
        | inl before ↦
            let after : IsLineFrom (u.0 + 1) (t ∷ terms) = record { ascends = (omega arith, line.ascends.1, line.ascends.2); numbers = line.numbers } in
            absurd (seen_first u others (t ∷ terms) least line' line.numbers (later_lacks u.0 (u.0 + 1) (t ∷ terms) (omega arith) after) (back (same u.0)))
        | inr not_after ↦
            let place : t.0 ≡ u.0 = omega arith in
            let number = All-head HasNumber t terms line.numbers in
            let number' = All-head HasNumber u others line'.numbers in
            let tail = rest_line least t terms line in
            let tail' = subst (λ n. IsLineFrom (n + 1) others) (sym place) (rest_line least u others line') in
            let numbers : Alike t.1 u.1 =
            next (back (having_total t terms number tail))
            (next (same t.0) (subst (λ n. Alike (total (indicator n) (u ∷ others)) u.1) (sym place) (having_total u others number' (rest_line least u others line')))) in
            let ratio : t.1 ≡ u.1 = lowest_same t.1 u.1 number.0 number'.0 numbers.same in
            let rest = lines_same (t.0 + 1) terms others tail tail'
            (λ q. elim (decide t.0 q) [
              | inl here ↦
                  let lacks = lacking_total t.0 terms tail.numbers (later_lacks t.0 (t.0 + 1) terms (omega arith) tail) in
                  let lacks' = lacking_total t.0 others tail'.numbers (later_lacks t.0 (t.0 + 1) others (omega arith) tail') in
                  subst (λ n. Alike (total (indicator n) terms) (total (indicator n) others)) here (next lacks (back lacks'))
              | inr other ↦
                  next (back (rest_seen q t terms least line other)) (next (same q) (rest_seen q u others least line' (λ e. other (place ∙ e))))
            ]) in
            ap (λ n. (n, t.1) ∷ terms) place ∙ ap (λ r. (u.0, r) ∷ terms) ratio ∙ ap (λ l. u ∷ l) rest
      ]
    ]

slots_same : (xs ys : Slots) → length xs ≡ length ys → ((p : ℕ) → slot_at xs p ≡ slot_at ys p) → xs ≡ ys
slots_same [] [] e h = refl
slots_same [] (y ∷ ys) e h = absurd (omega arith)
slots_same (x ∷ xs) [] e h = absurd (omega arith)
slots_same (x ∷ xs) (y ∷ ys) e h = let first : x ≡ y = h 0 in let rest = slots_same xs ys (omega arith) (λ p. h (suc p)) in cc

module _ (rows : List RowParts) (columns : ℕ) (slots slots' : Slots) (are : All IsRow rows) (form : IsSolvedForm rows columns slots) (form' : IsSolvedForm rows columns slots')
    (basis : (p : ℕ) → InBasis slots p ↔ InBasis slots' p) where
  outside_too : (p : ℕ) → IsOutside slots' p → IsOutside slots p
  outside_too p o = record {
    within = subst (λ n. p < n) (form'.positions ∙ sym form.positions) o.within;
    outside = none (slot_at slots p) refl;
  }
    where
      none : (slot : Option Terms) → slot_at slots p ≡ slot → slot_at slots p ≡ None
      none None e = e
      none (Some terms) e = let has = (basis p).0 (terms, e) in let some = has.1 in let out = o.outside in absurd cc

  -- the numbers at a position outside the basis are seen where it alone stands at 1
  seen_at : (p : ℕ) (terms terms' : Terms) → slot_at slots p ≡ Some terms → slot_at slots' p ≡ Some terms' → (q : ℕ) → IsOutside slots q
      → Alike (total (indicator q) terms) (total (indicator q) terms')
  seen_at p terms terms' e e' q out =
      let found = form.free (indicator q) (indicator_some q) in
      let at : ℕ → Ratio = at_position rows columns found.0 in
      let some = stands_some rows columns are found.0 found.1 in
      let lines = form.lines p terms e in
      let lines' = form'.lines p terms' e' in
      let along = total_along at (indicator q) some (indicator_some q) terms lines.0.numbers
      (all_from (λ j. Alike (at j) (indicator q j)) terms (λ j. elim (named_or_lacks (λ n. IsOutside slots n) j terms lines.1) [
        | inl o ↦ inl (alike (at j) (indicator q j) (some j) (indicator_some q j) (found.2 j o))
        | inr lacks ↦ inr lacks
      ])) in
      let along' = total_along at (indicator q) some (indicator_some q) terms' lines'.0.numbers
      (all_from (λ j. Alike (at j) (indicator q j)) terms' (λ j. elim (named_or_lacks (λ n. IsOutside slots' n) j terms' lines'.1) [
        | inl o ↦ inl (alike (at j) (indicator q j) (some j) (indicator_some q j) (found.2 j (outside_too j o)))
        | inr lacks ↦ inr lacks
      ])) in
      let held = alike (at p) (total at terms) (some p) along.left (form.holds found.0 found.1 p terms e) in
      let held' = alike (at p) (total at terms') (some p) along'.left (form'.holds found.0 found.1 p terms' e') in
      next (back along) (next (back held) (next held' along'))

  line_same : (p : ℕ) (terms terms' : Terms) → slot_at slots p ≡ Some terms → slot_at slots' p ≡ Some terms' → terms ≡ terms'
  line_same p terms terms' e e' =
      let lines = form.lines p terms e in
      let lines' = form'.lines p terms' e' in
      lines_same 0 terms terms' lines.0 lines'.0
      (λ q. elim (named_or_lacks (λ n. IsOutside slots n) q terms lines.1) [
        | inl o ↦ seen_at p terms terms' e e' q o
        | inr lacks ↦ elim (named_or_lacks (λ n. IsOutside slots' n) q terms' lines'.1) [
          | inl o ↦ seen_at p terms terms' e e' q (outside_too q o)
          | inr lacks' ↦ next (lacking_total q terms lines.0.numbers lacks) (back (lacking_total q terms' lines'.0.numbers lacks'))
        ]
      ])

  slot_same : (p : ℕ) (slot slot' : Option Terms) → slot_at slots p ≡ slot → slot_at slots' p ≡ slot' → slot ≡ slot'
  slot_same p None None e e' = refl
  slot_same p None (Some terms') e e' = let has = (basis p).1 (terms', e') in let some = has.1 in absurd cc
  slot_same p (Some terms) None e e' = let has = (basis p).0 (terms, e) in let some = has.1 in absurd cc
  slot_same p (Some terms) (Some terms') e e' = ap (λ l. Some l) (line_same p terms terms' e e')

  pub forms_same : slots ≡ slots'
  forms_same = slots_same slots slots' (form.positions ∙ sym form'.positions) (λ p. slot_same p (slot_at slots p) (slot_at slots' p) refl refl)

pub one_solved_form : (rows : List RowParts) (columns : ℕ) (slots slots' : Slots) → All IsRow rows → IsSolvedForm rows columns slots → IsSolvedForm rows columns slots'
    → ((p : ℕ) → InBasis slots p ↔ InBasis slots' p) → slots ≡ slots'
one_solved_form rows columns slots slots' are form form' basis = forms_same rows columns slots slots' are form form' basis
