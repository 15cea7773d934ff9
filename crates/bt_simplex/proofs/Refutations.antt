-- The weights of a basis at which a position fails and none can enter refute its bound rows.
use Rattle.std.proofs.Common.{◌≡◌, ◌≢◌, ◌⊎◌, ◌↔◌, ◌+◌, ◌-◌, ◌<◌, ◌≤◌, arith, suc, zero, pos, negsuc, neg_ℤ, ◌<ℤ◌, ◌≤ℤ◌, ◌*ℤ◌, nat_lt, Bool, true, false, IsTrue, if◌then◌else◌, get_or, map, List, ◌∷◌, length, Option, Some, None, Ok, ap, sym, ◌∙◌, refl, subst, inl, inr, ℕ, ℤ, []}
use Rattle.std.specs.List.{All, Any, cons_option}
use Rattle.std.specs.Option.{option_map}
use Rattle.std.proofs.lemmas.Int.{ints}
use Rattle.std.proofs.lemmas.Bool.Decides.{nat_tests}
use Rattle.std.proofs.lemmas.List.Elements.{All-head, All-tail, All-cons, All-nil, All-map}
use Rattle.bt_frac.proofs.Euclid.{lowest_same}
use Rattle.bt_frac.specs.Ratio.{Ratio, SameRatio, IsLowest, IsLess, negated}
use Rattle.bt_frac.specs.Columns.{AreColumnsFrom}
use Rattle.bt_frac.specs.Rows.{RowParts, columns_of}
use Rattle.bt_frac.specs.Values.{AreValues, nothing, plus, times, sum_of_products}
use Rattle.bt_frac.specs.Deltas.{IsLessDelta}
use Rattle.bt_frac.specs.declared.delta.Delta.{Delta}
use Rattle.bt_frac.specs.declared.relation.Relation.{Relation}
use Rattle.bt_frac.specs.declared.relation.Relation.TheVariants.{AtLeast, Above, Equal}
use Rattle.bt_farkas.specs.FalseSums.{MayHave, MayWeigh, MakesStrict, IsStrict, IsFalseBound, Cancels, IsFalseSum}
use Rattle.bt_farkas.specs.WeightedRows.{empty_row, coefficient_at, part_of, pairs_at}
use Rattle.bt_farkas.specs.declared.places.Place.{Place}
use Rattle.bt_farkas.specs.declared.places.Place.TheVariants.{Column, Bound}
use Rattle.bt_linear_forms.specs.Lines.{one, Terms, HasNumber, IsLine, IsCombination, total}
use Rattle.bt_pivot.specs.SolvedForms.{slot_at, at_position, IsOutside}
use Rattle.bt_pivot.specs.Tableaus.{TableauParts, IsTableau}
use Rattle.bt_pivot.specs.Points.{tiny_of, bound_value, bound_row, value_or_zero, resting, standing, point_at, Breaks, Fails, IsSamePoint}
use Rattle.bt_simplex.specs.Pivots.{MovesTowards, CanEnter, IsStuckAt}
use Rattle.bt_farkas.specs.Farkas.{IsFarkas}
use Rattle.bt_simplex.specs.Checks.{IsBound, RefutesBoundRows}
use Rattle.bt_pivot.specs.Entries.{number_or_zero}
use Rattle.bt_simplex.specs.Weights.{StandsAbove, weighted_rows}
use Rattle.bt_simplex.specs.inner.Lemmas.{signed, weight_of, AreLineWeights}
use Rattle.bt_linear_forms.proofs.NamedTerms.{number_at_place, number_here, number_later}
use Rattle.bt_pivot.proofs.Failing.{row_is, less_delta_right, point_is, same_back}
use Rattle.bt_linear_forms.proofs.Indicators.{over_zero_of, decide, indicator, indicator_some, here_is, other_is, lacking_total, total_at, none_lacks, number_has, times_one}
use Rattle.bt_linear_forms.proofs.Numbers.{negated_plus, Positive, nothing_some, Alike, itself, back, next, both_plus, both_times, swap_plus, group_times, spread, drop_zero, zero_alike, plus_positive, times_positive, times_zero, negated_times, differ_none}
use Rattle.bt_pivot.proofs.Resting.{bound_some_of, point_some, rest_value, rest_tiny, bound_some, tiny_some, bound_within}
use Rattle.bt_linear_forms.proofs.Shares.{negated_low, negated_twice}
use Rattle.bt_simplex.proofs.Signs.{IsAbove, IsNotBelow, of_less, above_by, not_below_by, not_below_plus}
use Rattle.bt_pivot.proofs.Denominators.{stands_some}
use Rattle.bt_linear_forms.proofs.Totals.{total_positive}
use Rattle.bt_linear_forms.proofs.Zeros.{one_some, one_lowest, one_times, combined_alike, negated_alike, zero_of, named_has, total_along}

-- a bound row is past the columns, and is that of its place
bound_place : (t : TableauParts) (q : ℕ) (row : RowParts) → bound_row t q ≡ Some row → (t.columns ≤ q) × (get_or t.rows (q - t.columns) empty_row ≡ row)
bound_place t q row e = first (nat_lt q t.columns) refl e
  where
    second : (b : Bool) → (if b then Some (get_or t.rows (q - t.columns) empty_row) else None) ≡ Some row → get_or t.rows (q - t.columns) empty_row ≡ row
    second true h = cc
    second false h = absurd cc

    first : (b : Bool) → nat_lt q t.columns ≡ b → (if b then None else if get_or t.bound (q - t.columns) false then Some (get_or t.rows (q - t.columns) empty_row) else None) ≡ Some row
        → (t.columns ≤ q) × (get_or t.rows (q - t.columns) empty_row ≡ row)
    first true test h = absurd cc
    first false test h = (grind (arith, nat_tests), second (get_or t.bound (q - t.columns) false) h)

-- a bound row's place is marked
bound_marked : (t : TableauParts) (q : ℕ) (row : RowParts) → bound_row t q ≡ Some row → get_or t.bound (q - t.columns) false ≡ true
bound_marked t q row e = first (nat_lt q t.columns) e
  where
    second : (b : Bool) → (if b then Some (get_or t.rows (q - t.columns) empty_row) else None) ≡ Some row → b ≡ true
    second true h = refl
    second false h = absurd cc

    first : (b : Bool) → (if b then None else if get_or t.bound (q - t.columns) false then Some (get_or t.rows (q - t.columns) empty_row) else None) ≡ Some row → get_or t.bound (q - t.columns) false ≡ true
    first true h = absurd cc
    first false h = second (get_or t.bound (q - t.columns) false) h

-- positions less the columns ascend too
rows_ascend : (columns k : ℕ) (above : Bool) (line : Terms) → AreColumnsFrom (columns + k) (columns_of line) → AreColumnsFrom k (columns_of (map (weight_of columns above) line))
rows_ascend columns k above [] ascend = tt
rows_ascend columns k above (u ∷ line) ascend =
    let low = ascend.0 in
    let high = ascend.1 in
    let place : u.0 + 1 ≡ columns + (u.0 - columns + 1) = omega arith in
    (omega arith, omega arith, rows_ascend columns (u.0 - columns + 1) above line (subst (λ n. AreColumnsFrom n (columns_of line)) place ascend.2))

raised : (columns : ℕ) (line : Terms) → AreColumnsFrom 0 (columns_of line) → All (λ u. columns ≤ u.0) line → AreColumnsFrom (columns + 0) (columns_of line)
raised columns [] ascend over = tt
raised columns (u ∷ line) ascend over = let here = All-head (λ x. columns ≤ x.0) u line over in (omega arith, ascend.1, ascend.2)

-- a sign
abbrev pub sign_of : Bool → Ratio
sign_of above = if above then one else negated one

sign_some : (above : Bool) → Positive (sign_of above)
sign_some true = one_some
sign_some false = one_some

signed_alike : (above : Bool) (z : Ratio) → Positive z → Alike (signed above z) (times (sign_of above) z)
signed_alike true z some = back (one_times z some)
signed_alike false z some = back (subst (λ r. Alike r (negated z)) (sym (negated_times one z)) (negated_alike (one_times z some)))

-- what stands in a row at a place, or 0
abbrev part_or_zero : Place → RowParts → Ratio
part_or_zero place row = number_or_zero (part_of place row)

-- a weighted sum over a line, where this stands at its positions
pairs_total : (rows : List RowParts) (columns : ℕ) (above : Bool) (place : Place) (at : ℕ → Ratio) → AreValues at → (line : Terms) → All HasNumber line
    → All (λ t. Alike (part_or_zero place (get_or rows (t.0 - columns) empty_row)) (at t.0)) line
    → Alike (sum_of_products (pairs_at place (weighted_rows rows (map (weight_of columns above) line)))) (times (sign_of above) (total at line))
pairs_total rows columns above place at values [] all same =
    let product = times_positive (sign_of above) nothing (sign_some above) nothing_some in
    back (zero_alike (times (sign_of above) nothing) product (times_zero (sign_of above) nothing refl))
pairs_total rows columns above place at values (t ∷ line) all same =
    first (pairs_total rows columns above place at values line (All-tail HasNumber t line all) (All-tail (λ u. Alike (part_or_zero place (get_or rows (u.0 - columns) empty_row)) (at u.0)) t line same))
    (part_of place (get_or rows (t.0 - columns) empty_row)) (All-head (λ u. Alike (part_or_zero place (get_or rows (u.0 - columns) empty_row)) (at u.0)) t line same)
  where
    here : HasNumber t
    here = All-head HasNumber t line all

    more : All HasNumber line
    more = All-tail HasNumber t line all

    ta : Positive (times t.1 (at t.0))
    ta = times_positive t.1 (at t.0) here.0.positive (values t.0)

    tl : Positive (total at line)
    tl = total_positive at values line more

    parted : Alike (times (sign_of above) (plus (times t.1 (at t.0)) (total at line))) (plus (times (sign_of above) (times t.1 (at t.0))) (times (sign_of above) (total at line)))
    parted = spread (sign_of above) (times t.1 (at t.0)) (total at line) (sign_some above) ta tl

    first : Alike (sum_of_products (pairs_at place (weighted_rows rows (map (weight_of columns above) line)))) (times (sign_of above) (total at line)) → (o : Option Ratio) → Alike (number_or_zero o) (at t.0)
        → Alike (sum_of_products (cons_option (option_map (λ part. (signed above t.1, part)) o) (pairs_at place (weighted_rows rows (map (weight_of columns above) line)))))
        (times (sign_of above) (plus (times t.1 (at t.0)) (total at line)))
    first rest None stands =
        let zero : (at t.0).over ≡ pos 0 = zero_of (at t.0) (back stands) in
        let none = times_zero t.1 (at t.0) zero in
        let product = times_positive (sign_of above) (times t.1 (at t.0)) (sign_some above) ta in
        next rest
        (back (next parted (drop_zero (times (sign_of above) (times t.1 (at t.0))) (times (sign_of above) (total at line)) product rest.right (times_zero (sign_of above) (times t.1 (at t.0)) none))))
    first rest (Some part) stands =
        let weight = signed_alike above t.1 here.0.positive in
        next (both_plus (next (both_times weight stands) (group_times (sign_of above) t.1 (at t.0) (sign_some above) here.0.positive (values t.0))) rest) (back parted)

-- a sum of a row's terms where 1 stands at one column
row_total : (c least : ℕ) (terms : Terms) → AreColumnsFrom least (columns_of terms) → All (λ t. IsLowest t.1) terms → Alike (total (indicator c) terms) (number_or_zero (coefficient_at c terms))
row_total c least [] ascend low = itself nothing nothing_some
row_total c least (t ∷ terms) ascend low = elim (decide t.0 c) [
  | inl same ↦
      let value : Alike (times t.1 (indicator c t.0)) t.1 = subst (λ r. Alike (times t.1 r) t.1) (sym (here_is c t.0 same)) (times_one t.1 here.positive) in
      subst (λ o. Alike (plus (times t.1 (indicator c t.0)) (total (indicator c) terms)) (number_or_zero o)) (sym (number_here t terms c same))
      (next (both_plus value (later_none c (t.0 + 1) terms (omega arith) ascend.2 more)) (next (swap_plus t.1 nothing here.positive nothing_some) (drop_zero nothing t.1 nothing_some here.positive refl)))
  | inr apart ↦
      let rest = row_total c (t.0 + 1) terms ascend.2 more in
      let none : (indicator c t.0).over ≡ pos 0 = ap (λ r. r.over) (other_is c t.0 apart) in
      subst (λ o. Alike (plus (times t.1 (indicator c t.0)) (total (indicator c) terms)) (number_or_zero o)) (sym (number_later t terms c apart))
      (next (drop_zero (times t.1 (indicator c t.0)) (total (indicator c) terms) (times_positive t.1 (indicator c t.0) here.positive (indicator_some c t.0)) rest.left (times_zero t.1 (indicator c t.0) none)) rest)
]
  where
    here : IsLowest t.1
    here = All-head (λ u. IsLowest u.1) t terms low

    more : All (λ u. IsLowest u.1) terms
    more = All-tail (λ u. IsLowest u.1) t terms low

    later_none : (c least : ℕ) (terms : Terms) → c < least → AreColumnsFrom least (columns_of terms) → All (λ t. IsLowest t.1) terms → Alike (total (indicator c) terms) nothing
    later_none c least [] h ascend low = itself nothing nothing_some
    later_none c least (u ∷ terms) h ascend low =
        let first = All-head (λ x. IsLowest x.1) u terms low in
        let high = ascend.0 in
        let away : u.0 ≢ c = λ e. omega arith in
        let rest = later_none c (u.0 + 1) terms (omega arith) ascend.2 (All-tail (λ x. IsLowest x.1) u terms low) in
        let none : (indicator c u.0).over ≡ pos 0 = ap (λ r. r.over) (other_is c u.0 away) in
        next (drop_zero (times u.1 (indicator c u.0)) (total (indicator c) terms) (times_positive u.1 (indicator c u.0) first.positive (indicator_some c u.0)) rest.left (times_zero u.1 (indicator c u.0) none)) rest

-- a line lacks its position
pub own_lacks : (t : TableauParts) (p : ℕ) (terms : Terms) → IsTableau t → slot_at t.slots p ≡ Some terms → coefficient_at p terms ≡ None
own_lacks t p terms tableau slot = at (coefficient_at p terms) refl
  where
    at : (o : Option Ratio) → coefficient_at p terms ≡ o → coefficient_at p terms ≡ None
    at None e = e
    at (Some number) e =
        let out = named_has (λ q. IsOutside t.slots q) p terms number (tableau.solved.lines p terms slot).1 e in
        let none : None ≡ Some terms = sym out.outside ∙ slot in
        absurd cc

-- a line less its position
module _ (t : TableauParts) (p : ℕ) (terms line : Terms) (tableau : IsTableau t) (slot : slot_at t.slots p ≡ Some terms) (is_line : IsLine line)
    (combination : IsCombination ((p, negated one) ∷ []) one terms line) where
  of_terms : IsLine terms × All (λ u. IsOutside t.slots u.0) terms
  of_terms = tableau.solved.lines p terms slot

  lacks : coefficient_at p terms ≡ None
  lacks = own_lacks t p terms tableau slot

  alone : All HasNumber ((p, negated one) ∷ [])
  alone = All-cons HasNumber (p, negated one) [] (negated_low one one_lowest, λ e. grind (arith, ints)) (All-nil HasNumber)

  -- where these stand at the positions
  pub line_total : (at : ℕ → Ratio) → AreValues at → Alike (total at line) (plus (negated (at p)) (total at terms))
  line_total at values =
      let first = times_positive (negated one) (at p) one_some (values p) in
      let rest = total_positive at values terms of_terms.0.numbers in
      next (combined_alike at values ((p, negated one) ∷ []) one terms line one_some alone of_terms.0.numbers is_line combination)
      (both_plus
      (next (swap_plus (times (negated one) (at p)) nothing first nothing_some)
      (next (drop_zero nothing (times (negated one) (at p)) nothing_some first refl)
      (subst (λ r. Alike r (negated (at p))) (sym (negated_times one (at p))) (negated_alike (one_times (at p) (values p))))))
      (one_times (total at terms) rest))

  -- a number of the line is -1 at its position, and else that of the terms
  pub entry_is : (q : ℕ) (z : Ratio) → coefficient_at q line ≡ Some z → ((q ≡ p) × (z ≡ negated one)) ⊎ (coefficient_at q terms ≡ Some z)
  entry_is q z named = elim (decide q p) [
    | inl same ↦
        let none = lacking_total q terms of_terms.0.numbers (none_lacks q terms (ap (λ n. coefficient_at n terms) same ∙ lacks)) in
        let first : Alike (negated (indicator q p)) (negated one) = subst (λ r. Alike (negated r) (negated one)) (sym (here_is q p (sym same))) (itself (negated one) one_some) in
        let sum = next (line_total (indicator q) (indicator_some q)) (next (both_plus first none) (next (swap_plus (negated one) nothing one_some nothing_some) (drop_zero nothing (negated one) nothing_some one_some refl))) in
        inl (same, lowest_same z (negated one) low (negated_low one one_lowest) (next (back here) sum).same)
    | inr apart ↦
        let zero : (negated (indicator q p)).over ≡ pos 0 = ap (λ r. (negated r).over) (other_is q p (λ e. apart (sym e))) in
        let sum = next (line_total (indicator q) (indicator_some q))
        (drop_zero (negated (indicator q p)) (total (indicator q) terms) (indicator_some q p) (total_positive (indicator q) (indicator_some q) terms of_terms.0.numbers) zero) in
        inr (by sum (coefficient_at q terms) refl)
  ]
    where
      low : IsLowest z
      low = (number_has q line (Some z) is_line.numbers (sym named)).0

      here : Alike (total (indicator q) line) z
      here = total_at q 0 line z is_line named

      by : Alike (total (indicator q) line) (total (indicator q) terms) → (o : Option Ratio) → coefficient_at q terms ≡ o → coefficient_at q terms ≡ Some z
      by sum None e =
          let none = lacking_total q terms of_terms.0.numbers (none_lacks q terms e) in
          absurd ((number_has q line (Some z) is_line.numbers (sym named)).1 (zero_of z (next (back here) (next sum none))))
      by sum (Some n) e =
          let number = (number_has q terms (Some n) of_terms.0.numbers (sym e)).0 in
          e ∙ ap (λ r. Some r) (lowest_same n z number low (next (back (total_at q 0 terms n of_terms.0 e)) (next (back sum) here)).same)

  -- the line has -1 at its position
  pub own_named : coefficient_at p line ≡ Some (negated one)
  own_named = by (coefficient_at p line) refl
    where
      by : (o : Option Ratio) → coefficient_at p line ≡ o → coefficient_at p line ≡ Some (negated one)
      by None e =
          let none = lacking_total p line is_line.numbers (none_lacks p line e) in
          let rest = lacking_total p terms of_terms.0.numbers (none_lacks p terms lacks) in
          let first : Alike (negated (indicator p p)) (negated one) = subst (λ r. Alike (negated r) (negated one)) (sym (here_is p p refl)) (itself (negated one) one_some) in
          let sum = next (line_total (indicator p) (indicator_some p)) (next (both_plus first rest) (next (swap_plus (negated one) nothing one_some nothing_some) (drop_zero nothing (negated one) nothing_some one_some refl))) in
          let zero : (negated one).over ≡ pos 0 = zero_of (negated one) (next (back sum) none) in
          absurd (omega (arith, ints, zero))
      by (Some z) e = elim (entry_is p z e) [
        | inl own ↦ e ∙ ap (λ r. Some r) own.1
        | inr theirs ↦ let both : None ≡ Some z = sym lacks ∙ theirs in absurd cc
      ]

  -- and every number of the terms
  pub theirs_named : (q : ℕ) (n : Ratio) → coefficient_at q terms ≡ Some n → coefficient_at q line ≡ Some n
  theirs_named q n named = by (coefficient_at q line) refl
    where
      apart : p ≢ q
      apart same = let both : None ≡ Some n = sym lacks ∙ ap (λ m. coefficient_at m terms) same ∙ named in absurd cc

      by : (o : Option Ratio) → coefficient_at q line ≡ o → coefficient_at q line ≡ Some n
      by None e =
          let none = lacking_total q line is_line.numbers (none_lacks q line e) in
          let zero : (negated (indicator q p)).over ≡ pos 0 = ap (λ r. (negated r).over) (other_is q p apart) in
          let sum = next (line_total (indicator q) (indicator_some q))
          (drop_zero (negated (indicator q p)) (total (indicator q) terms) (indicator_some q p) (total_positive (indicator q) (indicator_some q) terms of_terms.0.numbers) zero) in
          absurd ((number_has q terms (Some n) of_terms.0.numbers (sym named)).1 (zero_of n (next (back (next sum (total_at q 0 terms n of_terms.0 named))) none)))
      by (Some z) e = elim (entry_is q z e) [
        | inl own ↦ absurd (apart (sym own.0))
        | inr theirs ↦ e ∙ sym theirs ∙ named
      ]

-- what holds of each number of a line
pub line_all : (P : ℕ × Ratio → Type 0) (line : Terms) → IsLine line → ((q : ℕ) (z : Ratio) → coefficient_at q line ≡ Some z → P (q, z)) → All P line
line_all P line is_line h i d inside = h (get_or line i d).0 (get_or line i d).1 (number_at_place 0 line i d is_line inside)

-- a test at the point of a position's line tells whether it stands above
pub stands_told : (t : TableauParts) (p : ℕ) (terms : Terms) (row : RowParts) (point : Delta) (above : Bool) → slot_at t.slots p ≡ Some terms → bound_row t p ≡ Some row
    → IsSamePoint point (standing (resting t) 0 (Some terms)) → IsTrue above ↔ IsLessDelta (bound_value row) point → IsTrue above ↔ StandsAbove t p
stands_told t p terms row point above slot is_bound same told =
    let here = point_is t p terms point slot same in (
      λ yes. record { row = row; is_bound = is_bound; above = less_delta_right point (point_at t p) (bound_value row) here (told.0 yes) },
      λ stands.
          told.1
          (less_delta_right (point_at t p) point (bound_value row) (same_back point (point_at t p) here)
          (subst (λ r. IsLessDelta (bound_value r) (point_at t p)) (row_is stands.row row (bound_row t p) stands.is_bound is_bound) stands.above)),
    )

-- two points aren't each less than the other
pub never_both : (a b : Delta) → IsLessDelta a b → IsLessDelta b a → ⊥
never_both a b (inl h) (inl k) = never (a.value.over *ℤ pos b.value.under) (b.value.over *ℤ pos a.value.under) h k
  where
    never : (x y : ℤ) → x <ℤ y → y <ℤ x → ⊥
    never x y h k = omega (arith, ints)
never_both a b (inl h) (inr (e, k)) = never (a.value.over *ℤ pos b.value.under) (b.value.over *ℤ pos a.value.under) h e
  where
    never : (x y : ℤ) → x <ℤ y → y ≡ x → ⊥
    never x y h k = omega (arith, ints)
never_both a b (inr (e, h)) (inl k) = never (a.value.over *ℤ pos b.value.under) (b.value.over *ℤ pos a.value.under) e k
  where
    never : (x y : ℤ) → x ≡ y → y <ℤ x → ⊥
    never x y h k = omega (arith, ints)
never_both a b (inr (e, h)) (inr (f, k)) = never (a.tiny.over *ℤ pos b.tiny.under) (b.tiny.over *ℤ pos a.tiny.under) h k
  where
    never : (x y : ℤ) → x <ℤ y → y <ℤ x → ⊥
    never x y h k = omega (arith, ints)

-- less by a difference above 0
less_above : (a b : Ratio) → Positive a → Positive b → IsLess a b → IsAbove (plus (negated a) b)
less_above a b p q h = above_by (swap_plus b (negated a) q p) (of_less a b h)

-- a difference with its sign
up_above : (x y : Ratio) → Positive x → Positive y → IsLess x y → IsAbove (times (sign_of true) (plus (negated x) y))
up_above x y p q h = above_by (back (one_times (plus (negated x) y) (plus_positive (negated x) y p q))) (less_above x y p q h)

down_above : (x y : Ratio) → Positive x → Positive y → IsLess y x → IsAbove (times (sign_of false) (plus (negated x) y))
down_above x y p q h =
    let d : Ratio = plus (negated x) y in
    let some : Positive d = plus_positive (negated x) y p q in
    let pivoted : negated d ≡ plus x (negated y) = negated_plus (negated x) y ∙ ap (λ r. plus r (negated y)) (negated_twice x) in
    above_by (back (subst (λ r. Alike r (negated d)) (sym (negated_times one d)) (negated_alike (one_times d some)))) (subst IsAbove (sym pivoted) (of_less y x h))

level_none : (above : Bool) (x y : Ratio) → Positive x → Positive y → SameRatio x y → (times (sign_of above) (plus (negated x) y)).over ≡ pos 0
level_none above x y p q same =
    let some : Positive (plus (negated x) y) = plus_positive (negated x) y p q in
    times_zero (sign_of above) (plus (negated x) y)
    (zero_of (plus (negated x) y) (next (swap_plus (negated x) y p q) (zero_alike (plus y (negated x)) (plus_positive y (negated x) q p) (differ_none y x (sym same)))))

-- whether a row is strict and has a positive weight
strict_here : (relation : Relation) (weight : Ratio) → MakesStrict relation weight ⊎ IsNotBelow (negated (times weight (tiny_of relation)))
strict_here AtLeast weight = inr (none (times_zero weight nothing refl))
  where
    none : (times weight nothing).over ≡ pos 0 → IsNotBelow (negated (times weight nothing))
    none e = subst (λ z. pos 0 ≤ℤ neg_ℤ z) (sym e) (omega (arith, ints))
strict_here Equal weight = inr (none (times_zero weight nothing refl))
  where
    none : (times weight nothing).over ≡ pos 0 → IsNotBelow (negated (times weight nothing))
    none e = subst (λ z. pos 0 ≤ℤ neg_ℤ z) (sym e) (omega (arith, ints))
strict_here Above weight = by weight.over refl
  where
    by : (z : ℤ) → weight.over ≡ z → MakesStrict Above weight ⊎ IsNotBelow (negated (times weight one))
    by (pos (suc n)) e = inl (refl, subst (λ z. pos 0 <ℤ z) (sym e) (omega (arith, ints)))
    by (pos zero) e = inr (subst (λ z. pos 0 ≤ℤ neg_ℤ (z *ℤ pos 1)) (sym e) (omega (arith, ints)))
    by (negsuc n) e = inr (subst (λ z. pos 0 ≤ℤ neg_ℤ (z *ℤ pos 1)) (sym e) (omega (arith, ints)))

-- the rest of each row's bound value, at its position
abbrev tiny_at : List RowParts → ℕ → ℕ → Ratio
tiny_at rows columns q = tiny_of (get_or rows (q - columns) empty_row).relation

-- some row is strict with a positive weight, or the weighted sum of the rests isn't above 0
strict_or : (rows : List RowParts) (columns : ℕ) (above : Bool) (line : Terms) → All HasNumber line
    → Any IsStrict (weighted_rows rows (map (weight_of columns above) line)) ⊎ IsNotBelow (negated (times (sign_of above) (total (tiny_at rows columns) line)))
strict_or rows columns above [] all = inr (none (times_zero (sign_of above) nothing refl))
  where
    none : (times (sign_of above) nothing).over ≡ pos 0 → IsNotBelow (negated (times (sign_of above) nothing))
    none e = subst (λ z. pos 0 ≤ℤ neg_ℤ z) (sym e) (omega (arith, ints))
strict_or rows columns above (t ∷ line) all = with_rest (strict_or rows columns above line (All-tail HasNumber t line all)) (strict_here (get_or rows (t.0 - columns) empty_row).relation (signed above t.1))
  where
    here : HasNumber t
    here = All-head HasNumber t line all

    tiny : Ratio
    tiny = tiny_at rows columns t.0

    with_rest : Any IsStrict (weighted_rows rows (map (weight_of columns above) line)) ⊎ IsNotBelow (negated (times (sign_of above) (total (tiny_at rows columns) line)))
        → MakesStrict (get_or rows (t.0 - columns) empty_row).relation (signed above t.1) ⊎ IsNotBelow (negated (times (signed above t.1) (tiny_at rows columns t.0)))
        → Any IsStrict ((get_or rows (t.0 - columns) empty_row, signed above t.1) ∷ weighted_rows rows (map (weight_of columns above) line))
        ⊎ IsNotBelow (negated (times (sign_of above) (plus (times t.1 (tiny_at rows columns t.0)) (total (tiny_at rows columns) line))))
    with_rest rest (inl strict) = inl (0, (get_or rows (t.0 - columns) empty_row, signed above t.1), omega arith, refl, strict)
    with_rest (inl (k, x, inside, is, strict)) (inr low) = inl (suc k, x, omega arith, is, strict)
    with_rest (inr low') (inr low) =
        let tinies : AreValues (tiny_at rows columns) = λ q. tiny_some (get_or rows (q - columns) empty_row).relation in
        let u : Positive (tiny_at rows columns t.0) = tinies t.0 in
        let tu = times_positive t.1 (tiny_at rows columns t.0) here.0.positive u in
        let tl = total_positive (tiny_at rows columns) tinies line (All-tail HasNumber t line all) in
        let first = next (both_times (signed_alike above t.1 here.0.positive) (itself (tiny_at rows columns t.0) u)) (group_times (sign_of above) t.1 (tiny_at rows columns t.0) (sign_some above) here.0.positive u) in
        let rest : Positive (times (sign_of above) (total (tiny_at rows columns) line)) = times_positive (sign_of above) (total (tiny_at rows columns) line) (sign_some above) tl in
        let sum = not_below_plus (negated (times (signed above t.1) (tiny_at rows columns t.0))) (negated (times (sign_of above) (total (tiny_at rows columns) line))) first.left rest low low' in
        let whole : Alike (plus (times (signed above t.1) (tiny_at rows columns t.0)) (times (sign_of above) (total (tiny_at rows columns) line)))
        (times (sign_of above) (plus (times t.1 (tiny_at rows columns t.0)) (total (tiny_at rows columns) line))) =
        next (both_plus first (itself (times (sign_of above) (total (tiny_at rows columns) line)) rest)) (back (spread (sign_of above) (times t.1 (tiny_at rows columns t.0)) (total (tiny_at rows columns) line) (sign_some above) tu tl)) in
        inr (not_below_by (negated_alike whole)
        (subst IsNotBelow (sym (negated_plus (times (signed above t.1) (tiny_at rows columns t.0)) (times (sign_of above) (total (tiny_at rows columns) line)))) sum))

module _ (t : TableauParts) (p : ℕ) (terms line : Terms) (above : Bool) (tableau : IsTableau t) (stuck : IsStuckAt t p) (slot : slot_at t.slots p ≡ Some terms) (is_line : IsLine line)
    (combination : IsCombination ((p, negated one) ∷ []) one terms line) (is_above : IsTrue above ↔ StandsAbove t p) where
  fails : Fails t p
  fails = stuck.least.0

  abbrev row : RowParts
  row = stuck.least.0.row

  -- the failing row is an equation above its bound value, or it is below
  side : ((above ≡ true) × IsLessDelta (bound_value stuck.least.0.row) (point_at t p) × (stuck.least.0.row.relation ≡ Equal)) ⊎ ((above ≡ false) × IsLessDelta (point_at t p) (bound_value stuck.least.0.row))
  side = by above refl
    where
      by : (b : Bool) → above ≡ b → ((above ≡ true) × IsLessDelta (bound_value stuck.least.0.row) (point_at t p) × (stuck.least.0.row.relation ≡ Equal)) ⊎ ((above ≡ false) × IsLessDelta (point_at t p) (bound_value stuck.least.0.row))
      by true e =
          let stands = is_above.0 e in
          let more = subst (λ r. IsLessDelta (bound_value r) (point_at t p)) (row_is stands.row stuck.least.0.row (bound_row t p) stands.is_bound stuck.least.0.is_bound) stands.above in
          inl (e, more, equal more stuck.least.0.breaks)
        where
          equal : IsLessDelta (bound_value stuck.least.0.row) (point_at t p) → Breaks stuck.least.0.row (point_at t p) → stuck.least.0.row.relation ≡ Equal
          equal more (inl less) = absurd (never_both (bound_value stuck.least.0.row) (point_at t p) more less)
          equal more (inr (is, less)) = is
      by false e = inr (e, below stuck.least.0.breaks)
        where
          below : Breaks stuck.least.0.row (point_at t p) → IsLessDelta (point_at t p) (bound_value stuck.least.0.row)
          below (inl less) = less
          below (inr (equal, more)) =
              let yes : above ≡ true = is_above.1 (record { row = stuck.least.0.row; is_bound = stuck.least.0.is_bound; above = more }) in
              absurd cc

  -- each position of the failing line is a bound row, which is an equation or moves the wrong way
  bound_there : (q : ℕ) (n : Ratio) → coefficient_at q terms ≡ Some n → (other : RowParts) × (bound_row t q ≡ Some other) × ((other.relation ≡ Equal) ⊎ (MovesTowards stuck.least.0.row (point_at t p) n → ⊥))
  bound_there q n named = by (bound_row t q) refl
    where
      can : CanEnter t p q → ⊥
      can = stuck.none q

      which : (r : Relation) (other : RowParts) → other.relation ≡ r → bound_row t q ≡ Some other → (other.relation ≡ Equal) ⊎ (MovesTowards stuck.least.0.row (point_at t p) n → ⊥)
      which Equal other e is = inl e
      which AtLeast other e is = inr (λ moves. can (record {
        terms = terms;
        line = slot;
        number = n;
        names = named;
        may_move = inr (other, is, (λ f. let both : AtLeast ≡ Equal = sym e ∙ f in cc), (stuck.least.0.row, stuck.least.0.is_bound, moves));
      }))
      which Above other e is = inr (λ moves. can (record {
        terms = terms;
        line = slot;
        number = n;
        names = named;
        may_move = inr (other, is, (λ f. let both : Above ≡ Equal = sym e ∙ f in cc), (stuck.least.0.row, stuck.least.0.is_bound, moves));
      }))

      by : (o : Option RowParts) → bound_row t q ≡ o → (other : RowParts) × (bound_row t q ≡ Some other) × ((other.relation ≡ Equal) ⊎ (MovesTowards stuck.least.0.row (point_at t p) n → ⊥))
      by None e = absurd (can (record { terms = terms; line = slot; number = n; names = named; may_move = inl e }))
      by (Some other) e = (other, e, which other.relation other refl e)

  pub line_bound : (q : ℕ) (z : Ratio) → coefficient_at q line ≡ Some z → (other : RowParts) × (bound_row t q ≡ Some other)
  line_bound q z named = elim (entry_is t p terms line tableau slot is_line combination q z named) [
    | inl own ↦ (stuck.least.0.row, ap (λ n. bound_row t n) own.0 ∙ stuck.least.0.is_bound)
    | inr theirs ↦ let there = bound_there q z theirs in (there.0, there.1)
  ]

  pub line_over : All (λ u. t.columns ≤ u.0) line
  line_over = line_all (λ u. t.columns ≤ u.0) line is_line (λ q z named. let there = line_bound q z named in (bound_place t q there.0 there.1).0)

  -- no row but an equation has a negative weight
  may_weigh : (q : ℕ) (z : Ratio) → coefficient_at q line ≡ Some z → MayHave (get_or t.rows (q - t.columns) empty_row).relation (signed above z)
  may_weigh q z named = elim (entry_is t p terms line tableau slot is_line combination q z named) [
    | inl own ↦
        let is = (bound_place t q stuck.least.0.row (ap (λ n. bound_row t n) own.0 ∙ stuck.least.0.is_bound)).1 in
        elim side [
          | inl up ↦ inl (ap (λ (r : RowParts). r.relation) is ∙ up.2)
          | inr down ↦
              inr (subst (λ b. pos 0 ≤ℤ (signed b z).over) (sym down.0) (subst (λ r. pos 0 ≤ℤ (negated r).over) (sym own.1) (omega (arith, ints))))
        ]
    | inr theirs ↦
        let there = bound_there q z theirs in
        let is = (bound_place t q there.0 there.1).1 in
        elim there.2 [
          | inl equal ↦ inl (ap (λ (r : RowParts). r.relation) is ∙ equal)
          | inr still ↦ elim side [
            | inl up ↦ inr (subst (λ b. pos 0 ≤ℤ (signed b z).over) (sym up.0) (not_down z.over (λ low. still (inr (up.1, low)))))
            | inr down ↦ inr (subst (λ b. pos 0 ≤ℤ (signed b z).over) (sym down.0) (not_up z.over (λ high. still (inl (down.1, high)))))
          ]
        ]
  ]
    where
      not_down : (x : ℤ) → (x <ℤ pos 0 → ⊥) → pos 0 ≤ℤ x
      not_down (pos n) h = omega (arith, ints)
      not_down (negsuc n) h = absurd (h (omega (arith, ints)))

      not_up : (x : ℤ) → (pos 0 <ℤ x → ⊥) → pos 0 ≤ℤ neg_ℤ x
      not_up (pos zero) h = omega (arith, ints)
      not_up (pos (suc n)) h = absurd (h (omega (arith, ints)))
      not_up (negsuc n) h = omega (arith, ints)

  -- the columns cancel
  cancels : (c : ℕ) → Cancels (weighted_rows t.rows (map (weight_of t.columns above) line)) c
  cancels c =
      let at : ℕ → Ratio = at_position t.rows t.columns (indicator c) in
      let values = stands_some t.rows t.columns tableau.rows (indicator c) (indicator_some c) in
      let pairs = pairs_total t.rows t.columns above (Column c) at values line is_line.numbers (line_all (λ u. Alike (part_or_zero (Column c) (get_or t.rows (u.0 - t.columns) empty_row)) (at u.0)) line is_line (row_part c)) in
      let same = tableau.solved.holds (indicator c) (indicator_some c) p terms slot in
      let of = (tableau.solved.lines p terms slot).0 in
      let none : (plus (negated (at p)) (total at terms)).over ≡ pos 0 =
      zero_of (plus (negated (at p)) (total at terms))
      (next (swap_plus (negated (at p)) (total at terms) (values p) (total_positive at values terms of.numbers))
      (zero_alike (plus (total at terms) (negated (at p))) (plus_positive (total at terms) (negated (at p)) (total_positive at values terms of.numbers) (values p)) (differ_none (total at terms) (at p) (sym same)))) in
      let sum = line_total t p terms line tableau slot is_line combination at values in
      zero_of (sum_of_products (pairs_at (Column c) (weighted_rows t.rows (map (weight_of t.columns above) line))))
      (next pairs (zero_alike (times (sign_of above) (total at line)) pairs.right (times_zero (sign_of above) (total at line) (zero_of (total at line) (next sum (zero_alike (plus (negated (at p)) (total at terms)) sum.right none))))))
    where
      row_part : (c q : ℕ) (z : Ratio) → coefficient_at q line ≡ Some z → Alike (part_or_zero (Column c) (get_or t.rows (q - t.columns) empty_row)) (at_position t.rows t.columns (indicator c) q)
      row_part c q z named =
          let there = line_bound q z named in
          let place = bound_place t q there.0 there.1 in
          let within = bound_within t tableau q there.0 there.1 in
          let count = tableau.solved.positions in
          let over = place.0 in
          let inside : q - t.columns < length t.rows = omega arith in
          let is_row = tableau.rows (q - t.columns) empty_row inside in
          let below : nat_lt q t.columns ≡ false = grind (arith, nat_tests) in
          subst (λ b. Alike (part_or_zero (Column c) (get_or t.rows (q - t.columns) empty_row)) (if b then indicator c q else total (indicator c) (get_or t.rows (q - t.columns) empty_row).terms)) (sym below)
          (back (row_total c 0 (get_or t.rows (q - t.columns) empty_row).terms is_row.columns is_row.coefficients))

  bound_at : ℕ → Ratio
  bound_at q = (get_or t.rows (q - t.columns) empty_row).bound

  bounds : AreValues bound_at
  unfolding bound_at
  bounds q = bound_some t.rows (q - t.columns) tableau.rows

  of_line : IsLine terms × All (λ u. IsOutside t.slots u.0) terms
  of_line = tableau.solved.lines p terms slot

  own_row : get_or t.rows (p - t.columns) empty_row ≡ stuck.least.0.row
  own_row = (bound_place t p stuck.least.0.row stuck.least.0.is_bound).1

  -- the bounds of the line's rows add up to where the position stands
  value_is : Alike (total bound_at terms) (point_at t p).value
  unfolding bound_at
  value_is =
      subst (λ o. Alike (total bound_at terms) (standing (resting t) p o).value) (sym slot)
      (total_along bound_at (λ q. (resting t q).value) bounds (rest_value t tableau.rows) terms of_line.0.numbers (line_all (λ u. Alike (bound_at u.0) (resting t u.0).value) terms of_line.0 at))
    where
      at : (q : ℕ) (n : Ratio) → coefficient_at q terms ≡ Some n → Alike (bound_at q) (resting t q).value
      at q n named =
          let there = bound_there q n named in
          let same : bound_at q ≡ (resting t q).value = ap (λ (r : RowParts). r.bound) (bound_place t q there.0 there.1).1 ∙ sym (ap (λ o. (value_or_zero o).value) there.1) in
          subst (λ r. Alike (bound_at q) r) same (itself (bound_at q) (bounds q))

  tiny_is : Alike (total (tiny_at t.rows t.columns) terms) (point_at t p).tiny
  tiny_is =
      subst (λ o. Alike (total (tiny_at t.rows t.columns) terms) (standing (resting t) p o).tiny) (sym slot)
      (total_along (tiny_at t.rows t.columns) (λ q. (resting t q).tiny) tinies (rest_tiny t) terms of_line.0.numbers (line_all (λ u. Alike (tiny_at t.rows t.columns u.0) (resting t u.0).tiny) terms of_line.0 at))
    where
      tinies : AreValues (tiny_at t.rows t.columns)
      tinies q = tiny_some (get_or t.rows (q - t.columns) empty_row).relation

      at : (q : ℕ) (n : Ratio) → coefficient_at q terms ≡ Some n → Alike (tiny_at t.rows t.columns q) (resting t q).tiny
      at q n named =
          let there = bound_there q n named in
          let same : tiny_at t.rows t.columns q ≡ (resting t q).tiny = ap (λ (r : RowParts). tiny_of r.relation) (bound_place t q there.0 there.1).1 ∙ sym (ap (λ o. (value_or_zero o).tiny) there.1) in
          subst (λ r. Alike (tiny_at t.rows t.columns q) r) same (itself (tiny_at t.rows t.columns q) (tinies q))

  b_some : Positive stuck.least.0.row.bound
  b_some = bound_some_of t tableau.rows p stuck.least.0.row stuck.least.0.is_bound

  v_some : Positive (point_at t p).value
  v_some = (point_some t tableau p).0

  u_some : Positive (point_at t p).tiny
  u_some = (point_some t tableau p).1

  sum_bound : Alike (sum_of_products (pairs_at Bound (weighted_rows t.rows (map (weight_of t.columns above) line)))) (times (sign_of above) (plus (negated stuck.least.0.row.bound) (point_at t p).value))
  unfolding bound_at
  sum_bound =
      let own : Alike (negated (bound_at p)) (negated stuck.least.0.row.bound) = subst (λ (r : RowParts). Alike (negated (bound_at p)) (negated r.bound)) own_row (itself (negated (bound_at p)) (bounds p)) in
      next (pairs_total t.rows t.columns above Bound bound_at bounds line is_line.numbers (line_all (λ u. Alike (part_or_zero Bound (get_or t.rows (u.0 - t.columns) empty_row)) (bound_at u.0)) line is_line (λ q z named. itself (bound_at q) (bounds q))))
      (both_times (itself (sign_of above) (sign_some above)) (next (line_total t p terms line tableau slot is_line combination bound_at bounds) (both_plus own value_is)))

  sum_tiny : Alike (times (sign_of above) (total (tiny_at t.rows t.columns) line)) (times (sign_of above) (plus (negated (tiny_of stuck.least.0.row.relation)) (point_at t p).tiny))
  sum_tiny =
      let tinies : AreValues (tiny_at t.rows t.columns) = λ q. tiny_some (get_or t.rows (q - t.columns) empty_row).relation in
      let own : Alike (negated (tiny_at t.rows t.columns p)) (negated (tiny_of stuck.least.0.row.relation)) =
      subst (λ (r : RowParts). Alike (negated (tiny_at t.rows t.columns p)) (negated (tiny_of r.relation))) own_row (itself (negated (tiny_at t.rows t.columns p)) (tinies p)) in
      both_times (itself (sign_of above) (sign_some above)) (next (line_total t p terms line tableau slot is_line combination (tiny_at t.rows t.columns) tinies) (both_plus own tiny_is))

  strict : IsAbove (times (sign_of above) (plus (negated (tiny_of stuck.least.0.row.relation)) (point_at t p).tiny)) → Any IsStrict (weighted_rows t.rows (map (weight_of t.columns above) line))
  strict high = elim (strict_or t.rows t.columns above line is_line.numbers) [
    | inl any ↦ any
    | inr low ↦ absurd (never (times (sign_of above) (total (tiny_at t.rows t.columns) line)).over low (above_by (back sum_tiny) high))
  ]
    where
      never : (z : ℤ) → pos 0 ≤ℤ neg_ℤ z → pos 0 <ℤ z → ⊥
      never z h k = omega (arith, ints)

  level : SameRatio stuck.least.0.row.bound (point_at t p).value → (sum_of_products (pairs_at Bound (weighted_rows t.rows (map (weight_of t.columns above) line)))).over ≡ pos 0
  level same =
      over_zero_of (sum_of_products (pairs_at Bound (weighted_rows t.rows (map (weight_of t.columns above) line)))) (times (sign_of above) (plus (negated stuck.least.0.row.bound) (point_at t p).value)) sum_bound
      (level_none above stuck.least.0.row.bound (point_at t p).value b_some v_some same)

  false_bound : IsFalseBound (sum_of_products (pairs_at Bound (weighted_rows t.rows (map (weight_of t.columns above) line)))) (Any IsStrict (weighted_rows t.rows (map (weight_of t.columns above) line)))
  false_bound = elim side [
    | inl up ↦ rising up.0 up.1
    | inr down ↦ falling down.0 down.1
  ]
    where
      rising : above ≡ true → IsLessDelta (bound_value stuck.least.0.row) (point_at t p)
          → IsFalseBound (sum_of_products (pairs_at Bound (weighted_rows t.rows (map (weight_of t.columns above) line)))) (Any IsStrict (weighted_rows t.rows (map (weight_of t.columns above) line)))
      rising e (inl less) =
          inl (above_by (back sum_bound)
          (subst (λ b. IsAbove (times (sign_of b) (plus (negated stuck.least.0.row.bound) (point_at t p).value))) (sym e) (up_above stuck.least.0.row.bound (point_at t p).value b_some v_some less)))
      rising e (inr (same, less)) =
          inr (
            level same,
            strict (subst (λ b. IsAbove (times (sign_of b) (plus (negated (tiny_of stuck.least.0.row.relation)) (point_at t p).tiny))) (sym e)
                (up_above (tiny_of stuck.least.0.row.relation) (point_at t p).tiny (tiny_some stuck.least.0.row.relation) u_some less)),
          )

      falling : above ≡ false → IsLessDelta (point_at t p) (bound_value stuck.least.0.row)
          → IsFalseBound (sum_of_products (pairs_at Bound (weighted_rows t.rows (map (weight_of t.columns above) line)))) (Any IsStrict (weighted_rows t.rows (map (weight_of t.columns above) line)))
      falling e (inl less) =
          inl (above_by (back sum_bound)
          (subst (λ b. IsAbove (times (sign_of b) (plus (negated stuck.least.0.row.bound) (point_at t p).value))) (sym e) (down_above stuck.least.0.row.bound (point_at t p).value b_some v_some less)))
      falling e (inr (same, less)) =
          inr (
            level (sym same),
            strict (subst (λ b. IsAbove (times (sign_of b) (plus (negated (tiny_of stuck.least.0.row.relation)) (point_at t p).tiny))) (sym e)
                (down_above (tiny_of stuck.least.0.row.relation) (point_at t p).tiny (tiny_some stuck.least.0.row.relation) u_some less)),
          )

  -- no values meet the sum of the weighted rows
  pub false_sum : IsFalseSum (weighted_rows t.rows (map (weight_of t.columns above) line))
  false_sum = record { weights = may line is_line.numbers (line_all (λ u. MayHave (get_or t.rows (u.0 - t.columns) empty_row).relation (signed above u.1)) line is_line may_weigh); columns = cancels; bounds = false_bound }
    where
      may : (rest : Terms) → All HasNumber rest → All (λ u. MayHave (get_or t.rows (u.0 - t.columns) empty_row).relation (signed above u.1)) rest → All MayWeigh (weighted_rows t.rows (map (weight_of t.columns above) rest))
      may [] all has = All-nil MayWeigh
      may (u ∷ rest) all has =
          All-cons MayWeigh (get_or t.rows (u.0 - t.columns) empty_row, signed above u.1) (weighted_rows t.rows (map (weight_of t.columns above) rest))
          (All-head (λ u. MayHave (get_or t.rows (u.0 - t.columns) empty_row).relation (signed above u.1)) u rest has)
          (may rest (All-tail HasNumber u rest all) (All-tail (λ u. MayHave (get_or t.rows (u.0 - t.columns) empty_row).relation (signed above u.1)) u rest has))

  pub weights_ascend : AreColumnsFrom 0 (columns_of (map (weight_of t.columns above) line))
  weights_ascend = rows_ascend t.columns 0 above line (raised t.columns line is_line.ascends line_over)

  pub weights_bound : All (λ w. IsBound t w.0) (map (weight_of t.columns above) line)
  weights_bound =
      All-map (λ w. IsBound t w.0) (weight_of t.columns above) line
      (line_all (λ u. IsBound t (u.0 - t.columns)) line is_line (λ q z named. let there = line_bound q z named in bound_marked t q there.0 there.1))

  pub weights_within : All (λ w. w.0 < length t.rows) (map (weight_of t.columns above) line)
  weights_within = All-map (λ w. w.0 < length t.rows) (weight_of t.columns above) line (line_all (λ u. u.0 - t.columns < length t.rows) line is_line inside)
    where
      inside : (q : ℕ) (z : Ratio) → coefficient_at q line ≡ Some z → q - t.columns < length t.rows
      inside q z named =
          let there = line_bound q z named in
          let place = (bound_place t q there.0 there.1).0 in
          let within = bound_within t tableau q there.0 there.1 in
          let count = tableau.solved.positions in
          omega arith

-- the rows of the weights are rows
pub rows_within : (t : TableauParts) (p : ℕ) (weights : List (ℕ × Ratio)) → IsTableau t → IsStuckAt t p → AreLineWeights t p weights → All (λ w. w.0 < length t.rows) weights
rows_within t p weights tableau stuck are =
    subst (λ ws. All (λ (w : ℕ × Ratio). w.0 < length t.rows) ws) (sym are.weights_are)
    (weights_within t p are.terms are.line are.above tableau stuck are.slot are.is_line are.combination are.is_above)

pub picks_within : (t : TableauParts) (p : ℕ) (weights : List (ℕ × Ratio)) → IsTableau t → IsStuckAt t p → AreLineWeights t p weights → All (λ pick. pick < length t.rows) (map (λ w. w.0) weights)
picks_within t p weights tableau stuck are = All-map (λ pick. pick < length t.rows) (λ (w : ℕ × Ratio). w.0) weights (rows_within t p weights tableau stuck are)

-- weights that `farkas` finds no wide place for refute the bound rows
pub refutes : (t : TableauParts) (p : ℕ) (weights : List (ℕ × Ratio)) (answer : Bool) → IsTableau t → IsStuckAt t p → AreLineWeights t p weights → IsFarkas (weighted_rows t.rows weights) (Ok answer) → RefutesBoundRows t weights
refutes t p weights answer tableau stuck are told = record {
  ascend =
      subst (λ ws. AreColumnsFrom 0 (columns_of ws)) (sym are.weights_are)
      (weights_ascend t p are.terms are.line are.above tableau stuck are.slot are.is_line are.combination are.is_above);
  bound =
      subst (λ ws. All (λ w. IsBound t w.0) ws) (sym are.weights_are)
      (weights_bound t p are.terms are.line are.above tableau stuck are.slot are.is_line are.combination are.is_above);
  accepted = subst (λ a. IsFarkas (weighted_rows t.rows weights) (Ok a)) yes told;
}
  where
    yes : answer ≡ true
    yes =
        told.1.1
        (subst (λ ws. IsFalseSum (weighted_rows t.rows ws)) (sym are.weights_are)
        (false_sum t p are.terms are.line are.above tableau stuck are.slot are.is_line are.combination are.is_above))
