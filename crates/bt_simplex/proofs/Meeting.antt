-- Settled values meet every bound row.
use Rattle.std.proofs.Math.IntN.{zero-*ℤ, *ℤ_comm, pos-*ℤ-pos}
use Rattle.std.proofs.Common.{◌≡◌, ◌⊎◌, ◌+◌, ◌-◌, ◌<◌, ◌*◌, arith, pos, negsuc, neg_ℤ, ◌<ℤ◌, ◌≤ℤ◌, ◌*ℤ◌, nat_lt, true, false, if◌then◌else◌, get_or, List, ◌∷◌, ◌++◌, below_more, length, Option, Some, None, ap, sym, ◌∙◌, refl, subst, inl, inr, ℕ, ℤ, []}
use Rattle.std.specs.List.{All}
use Rattle.std.proofs.lemmas.Int.{ints}
use Rattle.bt_frac.proofs.Ring.{mul_neg}
use Rattle.std.proofs.lemmas.Bool.{cases_lt}
use Rattle.std.proofs.lemmas.Bool.Decides.{nat_tests}
use Rattle.std.proofs.lemmas.List.{get_or_past, get_or_append_left, get_or_push}
use Rattle.std.proofs.lemmas.List.Elements.{All-head, All-tail}
use Rattle.bt_frac.specs.Ratio.{Ratio, SameRatio, IsLowest, IsLess, negated}
use Rattle.bt_frac.specs.Rows.{RowParts}
use Rattle.bt_frac.specs.Values.{AreValues, nothing, plus, times, value_in, Stands, RowHolds}
use Rattle.bt_frac.specs.Deltas.{IsLessDelta}
use Rattle.bt_frac.specs.declared.delta.Delta.{Delta}
use Rattle.bt_frac.specs.declared.relation.Relation.{Relation}
use Rattle.bt_frac.specs.declared.relation.Relation.TheVariants.{AtLeast, Above, Equal}
use Rattle.bt_farkas.specs.WeightedRows.{empty_row}
use Rattle.bt_farkas.proofs.SameNumbers.{stands_same}
use Rattle.bt_linear_forms.specs.Lines.{one, Terms, HasNumber, total}
use Rattle.bt_pivot.specs.SolvedForms.{slot_at, at_position, IsOutside}
use Rattle.bt_pivot.specs.Tableaus.{TableauParts, IsTableau}
use Rattle.bt_pivot.specs.Points.{tiny_of, bound_value, bound_row, value_or_zero, resting, standing, point_at, Breaks}
use Rattle.bt_simplex.specs.Pivots.{IsMet}
use Rattle.bt_simplex.specs.Causes.{IsFalling, IsHalfRoom, IsEpsilon, gap}
use Rattle.bt_simplex.specs.Checks.{IsBound, MeetsBoundRows}
use Rattle.bt_simplex.specs.inner.Settling.{IsSettled}
use Rattle.bt_linear_forms.proofs.Numbers.{negated_plus, Positive, nothing_some, Alike, alike, itself, back, next, both_plus, both_times, swap_plus, swap_times, group_plus, group_times, spread, spread_right, pair_plus, drop_zero, zero_alike, plus_positive, times_positive, times_zero, negated_times, differ_none, none_differ}
use Rattle.bt_simplex.proofs.Epsilons.{fall_above, twice_fall, twice_some, twice_above, gap_some}
use Rattle.bt_linear_forms.proofs.Indicators.{times_one}
use Rattle.bt_pivot.proofs.Resting.{rest_value, rest_tiny, point_some, bound_some_of, bound_within}
use Rattle.bt_simplex.proofs.Signs.{IsAbove, IsNotBelow, above_plus, above_times, not_below_times, above_factor, above_by, not_below_by, less_of, of_less, at_most_of, of_at_most, compared, less_at_most}
use Rattle.bt_pivot.proofs.Denominators.{stands_some}
use Rattle.bt_linear_forms.proofs.Totals.{total_positive}
use Rattle.bt_linear_forms.proofs.Zeros.{one_some, one_times, total_along, all_from, named_or_lacks, negated_alike, zero_of}

-- a point with a number in place of the infinitesimal
abbrev pub shifted : Ratio → Delta → Ratio
shifted epsilon point = plus point.value (times epsilon point.tiny)

shifted_some : (epsilon : Ratio) (point : Delta) → Positive epsilon → Positive point.value → Positive point.tiny → Positive (shifted epsilon point)
shifted_some epsilon point some v t = plus_positive point.value (times epsilon point.tiny) v (times_positive epsilon point.tiny some t)

-- a sum where each position is shifted is the sum of the values, and the number times the sum of the rest
total_shifted : (rest : ℕ → Delta) (epsilon : Ratio) → Positive epsilon → AreValues (λ q. (rest q).value) → AreValues (λ q. (rest q).tiny) → (terms : Terms) → All HasNumber terms
    → Alike (total (λ q. shifted epsilon (rest q)) terms) (plus (total (λ q. (rest q).value) terms) (times epsilon (total (λ q. (rest q).tiny) terms)))
total_shifted rest epsilon some values tinies [] all =
    let zero = times_positive epsilon nothing some nothing_some in
    back (next (drop_zero nothing (times epsilon nothing) nothing_some zero refl) (zero_alike (times epsilon nothing) zero (times_zero epsilon nothing refl)))
total_shifted rest epsilon some values tinies (t ∷ terms) all =
    let here = (All-head HasNumber t terms all).0.positive in
    let more = All-tail HasNumber t terms all in
    let v : Ratio = (rest t.0).value in
    let u : Ratio = (rest t.0).tiny in
    let v_some : Positive v = values t.0 in
    let u_some : Positive u = tinies t.0 in
    let eu = times_positive epsilon u some u_some in
    let nv = times_positive t.1 v here v_some in
    let nu = times_positive t.1 u here u_some in
    let sv = total_positive (λ q. (rest q).value) values terms more in
    let su = total_positive (λ q. (rest q).tiny) tinies terms more in
    let first : Alike (times t.1 (plus v (times epsilon u))) (plus (times t.1 v) (times epsilon (times t.1 u))) =
    next (spread t.1 v (times epsilon u) here v_some eu)
    (both_plus (itself (times t.1 v) nv)
    (next (back (group_times t.1 epsilon u here some u_some))
    (next (both_times (swap_times t.1 epsilon here some) (itself u u_some)) (group_times epsilon t.1 u some here u_some)))) in
    next (both_plus first (total_shifted rest epsilon some values tinies terms more))
    (next (pair_plus (times t.1 v) (times epsilon (times t.1 u)) (total (λ q. (rest q).value) terms) (times epsilon (total (λ q. (rest q).tiny) terms)) nv (times_positive epsilon (times t.1 u) some nu) sv
    (times_positive epsilon (total (λ q. (rest q).tiny) terms) some su))
    (both_plus (itself (plus (times t.1 v) (total (λ q. (rest q).value) terms)) (plus_positive (times t.1 v) (total (λ q. (rest q).value) terms) nv sv))
    (back (spread epsilon (times t.1 u) (total (λ q. (rest q).tiny) terms) some nu su))))

-- values at which each position outside the basis stands shifted
module _ (t : TableauParts) (epsilon : Ratio) (tableau : IsTableau t) (some : Positive epsilon) where
  numbers : ℕ → Ratio
  numbers q = shifted epsilon (resting t q)

  numbers_some : AreValues numbers
  unfolding numbers
  numbers_some q = shifted_some epsilon (resting t q) some (rest_value t tableau.rows q) (rest_tiny t q)

  found : (values : ℕ → Ratio) × AreValues values × ((position : ℕ) → IsOutside t.slots position → SameRatio (at_position t.rows t.columns values position) (numbers position))
  found = tableau.solved.free numbers numbers_some

  pub chosen : ℕ → Ratio
  chosen = found.0

  pub chosen_some : AreValues chosen
  unfolding chosen
  chosen_some = found.1

  at : ℕ → Ratio
  at = at_position t.rows t.columns chosen

  at_some : AreValues at
  unfolding at
  at_some = stands_some t.rows t.columns tableau.rows chosen chosen_some

  -- so that every position stands at its point, shifted
  pub stands_shifted : (p : ℕ) → p < length t.slots → Alike (at_position t.rows t.columns chosen p) (shifted epsilon (point_at t p))
  unfolding at chosen numbers
  stands_shifted p within = by (slot_at t.slots p) refl
    where
      by : (o : Option Terms) → slot_at t.slots p ≡ o → Alike (at_position t.rows t.columns chosen p) (shifted epsilon (standing (resting t) p o))
      by None e = alike (at p) (numbers p) (at_some p) (numbers_some p) (found.2 p (record { within = within; outside = e }))
      by (Some terms) e =
          let lines = tableau.solved.lines p terms e in
          let along =
          total_along at numbers at_some numbers_some terms lines.0.numbers
          (all_from (λ j. Alike (at j) (numbers j)) terms (λ j. elim (named_or_lacks (λ n. IsOutside t.slots n) j terms lines.1) [
            | inl o ↦ inl (alike (at j) (numbers j) (at_some j) (numbers_some j) (found.2 j o))
            | inr lacks ↦ inr lacks
          ])) in
          next (alike (at p) (total at terms) (at_some p) along.left (tableau.solved.holds chosen chosen_some p terms e))
          (next along (total_shifted (resting t) epsilon some (rest_value t tableau.rows) (rest_tiny t) terms lines.0.numbers))

-- epsilon is above 0
epsilon_above : (t : TableauParts) (epsilon : Ratio) → IsTableau t → IsEpsilon t epsilon → IsAbove epsilon
epsilon_above t epsilon tableau is = by is.is
  where
    by : (epsilon ≡ one) ⊎ ((position : ℕ) × IsHalfRoom t position epsilon) → IsAbove epsilon
    by (inl e) = subst IsAbove (sym e) (omega (arith, ints))
    by (inr (position, (falls, half))) =
        let k = twice_fall t position in
        above_factor epsilon (twice_fall t position)
        (above_by (back (alike (times epsilon (twice_fall t position)) (gap falls) (times_positive epsilon (twice_fall t position) is.lowest.positive (twice_some t position tableau)) (gap_some t position tableau falls) half))
        (of_less falls.row.bound (point_at t position).value falls.above))
        (twice_above t position falls)

-- a number less another, and the other added to it again
regained : (a b w : Ratio) → Positive a → Positive b → Positive w → Alike (plus (plus a w) (negated b)) (plus (plus a (negated b)) w)
regained a b w p q r =
    next (group_plus a w (negated b) p r q) (next (both_plus (itself a p) (swap_plus w (negated b) r q)) (back (group_plus a (negated b) w p q r)))

not_below_of : (u : Ratio) → IsAbove u → IsNotBelow u
not_below_of u h = weaker u.over h
  where
    weaker : (z : ℤ) → pos 0 <ℤ z → pos 0 ≤ℤ z
    weaker z h = omega (arith, ints)

above_zero : (u : Ratio) → IsLess nothing u → IsAbove u
above_zero u h = moved u.over (subst (λ z. z <ℤ (u.over *ℤ pos 1)) (zero-*ℤ (pos u.under)) h)
  where
    moved : (z : ℤ) → pos 0 <ℤ (z *ℤ pos 1) → pos 0 <ℤ z
    moved z h = omega (arith, ints)

above_one : (u : Ratio) → IsLess one u → IsAbove u
above_one u h = moved u.over u.under (subst (λ z. z <ℤ (u.over *ℤ pos 1)) (pos-*ℤ-pos 1 u.under) h)
  where
    moved : (z : ℤ) (n : ℕ) → pos (1 * n) <ℤ (z *ℤ pos 1) → pos 0 <ℤ z
    moved z n h = omega (arith, ints)

-- 1 over a number above 0
inverse_of : (k : Ratio) → Positive k → IsAbove k → (inverse : Ratio) × Positive inverse × Alike (times inverse k) one
inverse_of k some above = at k.over k.under some above
  where
    at : (z : ℤ) (u : ℕ) → 0 < u → pos 0 <ℤ z → (inverse : Ratio) × Positive inverse × Alike (times inverse (record { over = z; under = u })) one
    at (pos m) u some above =
        let m_some : 0 < m = omega (arith, ints) in (
          record { over = pos u; under = m },
          m_some,
          alike (times (record { over = pos u; under = m }) (record { over = pos m; under = u })) one
              (times_positive (record { over = pos u; under = m }) (record { over = pos m; under = u }) m_some some) one_some (same u m),
        )
      where
        same : (u m : ℕ) → pos u *ℤ pos m *ℤ pos 1 ≡ pos 1 *ℤ pos (m * u)
        same u m = ap (λ z. z *ℤ pos 1) (*ℤ_comm (pos u) (pos m) ∙ pos-*ℤ-pos m u) ∙ *ℤ_comm (pos (m * u)) (pos 1)
    at (negsuc n) u some above = absurd (omega (arith, ints))

-- a number less itself twice, and added again
regained_once : (g q : Ratio) → Positive g → Positive q → Alike (plus (plus g (negated (plus q q))) q) (plus g (negated q))
regained_once g q g_some q_some =
    let minus : Positive (negated q) = q_some in
    let both = plus_positive (negated q) (negated q) minus minus in
    subst (λ r. Alike (plus (plus g r) q) (plus g (negated q))) (sym (negated_plus q q))
    (next (group_plus g (plus (negated q) (negated q)) q g_some both q_some)
    (both_plus (itself g g_some)
    (next (group_plus (negated q) (negated q) q minus minus q_some)
    (next (both_plus (itself (negated q) minus) (swap_plus (negated q) q minus q_some))
    (next (swap_plus (negated q) (plus q (negated q)) minus (plus_positive q (negated q) q_some minus))
    (drop_zero (plus q (negated q)) (negated q) (plus_positive q (negated q) q_some minus) minus (differ_none q q refl)))))))

-- a product with a negated number
times_negated : (a b : Ratio) → negated (times a (negated b)) ≡ times a b
times_negated a b = ap (λ z. make z (a.under * b.under)) (ap neg_ℤ (mul_neg a.over b.over) ∙ twice (a.over *ℤ b.over))
  where
    make : ℤ → ℕ → Ratio
    make z n = record { over = z; under = n }

    twice : (z : ℤ) → neg_ℤ (neg_ℤ z) ≡ z
    twice z = omega (arith, ints)

-- a row that stands above its bound, and falls no further than it may
module _ (t : TableauParts) (position : ℕ) (epsilon : Ratio) (row : RowParts) (tableau : IsTableau t) (is : IsEpsilon t epsilon) (is_bound : bound_row t position ≡ Some row) where
  v : Ratio
  v = (point_at t position).value

  u : Ratio
  u = (point_at t position).tiny

  v_some : Positive (point_at t position).value
  v_some = (point_some t tableau position).0

  u_some : Positive (point_at t position).tiny
  u_some = (point_some t tableau position).1

  b_some : Positive row.bound
  b_some = bound_some_of t tableau.rows position row is_bound

  e_some : Positive epsilon
  e_some = is.lowest.positive

  difference : Alike (plus (shifted epsilon (point_at t position)) (negated row.bound)) (plus (plus (point_at t position).value (negated row.bound)) (times epsilon (point_at t position).tiny))
  difference = regained (point_at t position).value row.bound (times epsilon (point_at t position).tiny) v_some b_some (times_positive epsilon (point_at t position).tiny e_some u_some)

  rising : IsLess row.bound (point_at t position).value → IsNotBelow (point_at t position).tiny → IsLess row.bound (shifted epsilon (point_at t position))
  rising above up =
      less_of row.bound (shifted epsilon (point_at t position))
      (above_by (back difference)
      (above_plus (plus (point_at t position).value (negated row.bound)) (times epsilon (point_at t position).tiny) (plus_positive (point_at t position).value (negated row.bound) v_some b_some)
      (times_positive epsilon (point_at t position).tiny e_some u_some) (of_less row.bound (point_at t position).value above)
      (not_below_times epsilon (point_at t position).tiny (epsilon_above t epsilon tableau is) up)))

  -- the gap is 2 halves of the fall, and epsilon at most one of them
  falling : IsLess row.bound (point_at t position).value → (point_at t position).tiny.over <ℤ pos 0 → IsLess row.bound (shifted epsilon (point_at t position))
  falling above down =
      let falls : IsFalling t position = record { row = row; is_bound = is_bound; above = above; below = down } in
      let g : Ratio = plus (point_at t position).value (negated row.bound) in
      let g_some : Positive g = plus_positive (point_at t position).value (negated row.bound) v_some b_some in
      let n : Ratio = negated (point_at t position).tiny in
      let n_some : Positive n = u_some in
      let k : Ratio = twice_fall t position in
      let k_some : Positive k = twice_some t position tableau in
      let k_above : IsAbove k = twice_above t position falls in
      let inverse = inverse_of k k_some k_above in
      let half : Ratio = times g inverse.0 in
      let half_some : Positive half = times_positive g inverse.0 g_some inverse.1 in
      let whole : Alike (times half k) g =
      next (group_times g inverse.0 k g_some inverse.1 k_some) (next (both_times (itself g g_some) inverse.2) (times_one g g_some)) in
      let lesser = of_at_most epsilon half (is.least position half half_some (falls, whole.same)) in
      let d_some : Positive (plus half (negated epsilon)) = plus_positive half (negated epsilon) half_some e_some in
      let q : Ratio = times epsilon n in
      let q_some : Positive q = times_positive epsilon n e_some n_some in
      let doubled : Alike (times epsilon k) (plus q q) =
      next (both_times (itself epsilon e_some) (next (spread_right one one n one_some one_some n_some) (both_plus (one_times n n_some) (one_times n n_some)))) (spread epsilon n n e_some n_some n_some) in
      let scaled : Alike (times k (plus half (negated epsilon))) (plus g (negated (plus q q))) =
      next (swap_times k (plus half (negated epsilon)) k_some d_some)
      (next (spread_right half (negated epsilon) k half_some e_some k_some)
      (both_plus whole (subst (λ r. Alike r (negated (plus q q))) (sym (negated_times epsilon k)) (negated_alike doubled)))) in
      let rest : IsNotBelow (plus g (negated (plus q q))) = not_below_by scaled (not_below_times k (plus half (negated epsilon)) k_above lesser) in
      let q_above : IsAbove q = above_times epsilon n (epsilon_above t epsilon tableau is) (fall_above t position falls) in
      let sum : IsAbove (plus q (plus g (negated (plus q q)))) = above_plus q (plus g (negated (plus q q))) q_some scaled.right q_above rest in
      let there : Alike (plus q (plus g (negated (plus q q)))) (plus g (times epsilon (point_at t position).tiny)) =
      next (swap_plus q (plus g (negated (plus q q))) q_some scaled.right)
      (subst (λ r. Alike (plus (plus g (negated (plus q q))) q) (plus g r)) (times_negated epsilon (point_at t position).tiny) (regained_once g q g_some q_some)) in
      less_of row.bound (shifted epsilon (point_at t position)) (above_by (back difference) (above_by there sum))

  sign : (point_at t position).tiny.over <ℤ pos 0 ⊎ IsNotBelow (point_at t position).tiny
  sign = by (point_at t position).tiny.over
    where
      by : (z : ℤ) → (z <ℤ pos 0) ⊎ (pos 0 ≤ℤ z)
      by (pos n) = inr (omega (arith, ints))
      by (negsuc n) = inl (omega (arith, ints))

  higher : IsLess row.bound (point_at t position).value → IsLess row.bound (shifted epsilon (point_at t position))
  higher above = elim sign [ inl down ↦ falling above down | inr up ↦ rising above up ]

  -- where the value is the bound, the rest decides
  even : SameRatio (point_at t position).value row.bound → Alike (plus (shifted epsilon (point_at t position)) (negated row.bound)) (times epsilon (point_at t position).tiny)
  even same =
      next difference
      (drop_zero (plus (point_at t position).value (negated row.bound)) (times epsilon (point_at t position).tiny) (plus_positive (point_at t position).value (negated row.bound) v_some b_some)
      (times_positive epsilon (point_at t position).tiny e_some u_some) (differ_none (point_at t position).value row.bound same))

  -- a row that doesn't break stands to its bound where the number takes the infinitesimal's place
  pub stands : (Breaks row (point_at t position) → ⊥) → (r : Relation) → row.relation ≡ r → Stands r (shifted epsilon (point_at t position)) row.bound
  stands holds r e = elim (compared (point_at t position).value row.bound) [
    | inl less ↦ absurd (holds (inl (inl less)))
    | inr (inl same) ↦ level r e same (elim (compared (point_at t position).tiny (tiny_of r)) [
      | inl less ↦ absurd (holds (inl (inr (same, subst (λ x. IsLess (point_at t position).tiny (tiny_of x)) (sym e) less))))
      | inr rest ↦ rest
    ])
    | inr (inr above) ↦ over r e above
  ]
    where
      level : (r : Relation) → row.relation ≡ r → SameRatio (point_at t position).value row.bound → SameRatio (point_at t position).tiny (tiny_of r) ⊎ IsLess (tiny_of r) (point_at t position).tiny
          → Stands r (shifted epsilon (point_at t position)) row.bound
      level AtLeast e same tiny =
          at_most_of row.bound (shifted epsilon (point_at t position))
          (not_below_by (back (even same)) (not_below_times epsilon (point_at t position).tiny (epsilon_above t epsilon tableau is) (elim tiny [
            | inl none ↦ not_below_by (back (alike (point_at t position).tiny nothing u_some nothing_some none)) (omega (arith, ints))
            | inr above ↦ not_below_of (point_at t position).tiny (above_zero (point_at t position).tiny above)
          ])))
      level Above e same tiny =
          less_of row.bound (shifted epsilon (point_at t position))
          (above_by (back (even same)) (above_times epsilon (point_at t position).tiny (epsilon_above t epsilon tableau is) (elim tiny [
            | inl whole ↦ above_by (back (alike (point_at t position).tiny one u_some one_some whole)) (omega (arith, ints))
            | inr above ↦ above_one (point_at t position).tiny above
          ])))
      level Equal e same tiny =
          none_differ (shifted epsilon (point_at t position)) row.bound
          (zero_of (plus (shifted epsilon (point_at t position)) (negated row.bound))
          (next (even same) (elim tiny [
            | inl none ↦
                let product = both_times (itself epsilon e_some) (alike (point_at t position).tiny nothing u_some nothing_some none) in
                next product (zero_alike (times epsilon nothing) product.right (times_zero epsilon nothing refl))
            | inr above ↦ absurd (holds (inr (e, inr (sym same, subst (λ x. IsLess (tiny_of x) (point_at t position).tiny) (sym e) above))))
          ])))

      over : (r : Relation) → row.relation ≡ r → IsLess row.bound (point_at t position).value → Stands r (shifted epsilon (point_at t position)) row.bound
      over AtLeast e above = less_at_most row.bound (shifted epsilon (point_at t position)) (higher above)
      over Above e above = higher above
      over Equal e above = absurd (holds (inr (e, inl above)))

-- a sum of a row's terms over columns at which two values are the same
total_same : (values values' : ℕ → Ratio) → AreValues values → AreValues values' → (columns : ℕ) → ((j : ℕ) → j < columns → Alike (values j) (values' j)) → (terms : Terms) → All (λ t. IsLowest t.1) terms
    → All (λ t. t.0 < columns) terms → Alike (total values terms) (total values' terms)
total_same values values' some some' columns same [] low over = itself nothing nothing_some
total_same values values' some some' columns same (t ∷ terms) low over =
    both_plus (both_times (itself t.1 (All-head (λ u. IsLowest u.1) t terms low).positive) (same t.0 (All-head (λ u. u.0 < columns) t terms over)))
    (total_same values values' some some' columns same terms (All-tail (λ u. IsLowest u.1) t terms low) (All-tail (λ u. u.0 < columns) t terms over))

-- a bound row of a tableau
bound_row_is : (t : TableauParts) (i : ℕ) → IsBound t i → bound_row t (t.columns + i) ≡ Some (get_or t.rows i empty_row)
bound_row_is t i is =
    let below : nat_lt (t.columns + i) t.columns ≡ false = grind (arith, nat_tests) in
    let place : t.columns + i - t.columns ≡ i = omega arith in
    ap (λ b. if b then None else if get_or t.bound (t.columns + i - t.columns) false then Some (get_or t.rows (t.columns + i - t.columns) empty_row) else None) below
    ∙ ap (λ n. if get_or t.bound n false then Some (get_or t.rows n empty_row) else None) place ∙ ap (λ b. if b then Some (get_or t.rows i empty_row) else None) is

row_at : (t : TableauParts) (values : ℕ → Ratio) (i : ℕ) → at_position t.rows t.columns values (t.columns + i) ≡ total values (get_or t.rows i empty_row).terms
row_at t values i =
    let below : nat_lt (t.columns + i) t.columns ≡ false = grind (arith, nat_tests) in
    let place : t.columns + i - t.columns ≡ i = omega arith in
    ap (λ b. if b then values (t.columns + i) else total values (get_or t.rows (t.columns + i - t.columns) empty_row).terms) below ∙ ap (λ n. total values (get_or t.rows n empty_row).terms) place

column_at : (t : TableauParts) (values : ℕ → Ratio) (j : ℕ) → j < t.columns → at_position t.rows t.columns values j ≡ values j
column_at t values j h =
    let below : nat_lt j t.columns ≡ true = grind (arith, nat_tests) in
    ap (λ b. if b then values j else total values (get_or t.rows (j - t.columns) empty_row).terms) below

-- settled values meet every bound row
pub settled_meet : (t : TableauParts) (epsilon : Ratio) (values : List Ratio) → IsTableau t → IsMet t → IsEpsilon t epsilon → length values ≡ t.columns
    → ((j : ℕ) → j < t.columns → IsSettled t epsilon j (value_in values j)) → MeetsBoundRows t values
settled_meet t epsilon values tableau met is count settled = record { columns = count; holds = row_holds }
  where
    e_some : Positive epsilon
    e_some = is.lowest.positive

    value_some : AreValues (value_in values)
    value_some j = elim (cases_lt j t.columns) [
      | inl within ↦ (settled j within).lowest.positive
      | inr past ↦ subst Positive (sym (get_or_past values j nothing (omega arith))) nothing_some
    ]

    slots_are : length t.slots ≡ t.columns + length t.rows
    slots_are = tableau.solved.positions

    same : (j : ℕ) → j < t.columns → Alike (value_in values j) (chosen t epsilon tableau e_some j)
    same j within =
        let points = point_some t tableau j in
        let stands = subst (λ r. Alike r (shifted epsilon (point_at t j))) (column_at t (chosen t epsilon tableau e_some) j within) (stands_shifted t epsilon tableau e_some j (omega arith)) in
        next (alike (value_in values j) (shifted epsilon (point_at t j)) (value_some j) (shifted_some epsilon (point_at t j) e_some points.0 points.1) (settled j within).same) (back stands)

    row_holds : (i : ℕ) → IsBound t i → RowHolds (get_or t.rows i empty_row) (value_in values)
    row_holds i is_bound =
        let row : RowParts = get_or t.rows i empty_row in
        let row_is = bound_row_is t i is_bound in
        let within = bound_within t tableau (t.columns + i) (get_or t.rows i empty_row) row_is in
        let inside : i < length t.rows = omega arith in
        let low = tableau.rows i empty_row inside in
        let over = tableau.over i empty_row inside in
        let sums = total_same (value_in values) (chosen t epsilon tableau e_some) value_some (chosen_some t epsilon tableau e_some) t.columns same (get_or t.rows i empty_row).terms low.coefficients over in
        let point = stands_shifted t epsilon tableau e_some (t.columns + i) within in
        let whole = next sums (subst (λ r. Alike r (shifted epsilon (point_at t (t.columns + i)))) (row_at t (chosen t epsilon tableau e_some) i) point) in
        (stands_same (get_or t.rows i empty_row).relation (get_or t.rows i empty_row).bound (shifted epsilon (point_at t (t.columns + i))) (total (value_in values) (get_or t.rows i empty_row).terms) whole.right whole.left
        (back whole).same).0
        (stands t (t.columns + i) epsilon (get_or t.rows i empty_row) tableau is row_is (unbroken i (get_or t.rows i empty_row) row_is) (get_or t.rows i empty_row).relation refl)
      where
        less_itself : (a : Ratio) → IsLess a a → ⊥
        less_itself a h = never (a.over *ℤ pos a.under) h
          where
            never : (z : ℤ) → z <ℤ z → ⊥
            never z h = omega (arith, ints)

        less_none : (d : Delta) → IsLessDelta d d → ⊥
        less_none d (inl h) = less_itself d.value h
        less_none d (inr (e, h)) = less_itself d.tiny h

        rests : (row : RowParts) → Breaks row (bound_value row) → ⊥
        rests row (inl h) = less_none (bound_value row) h
        rests row (inr (e, h)) = less_none (bound_value row) h

        unbroken : (i : ℕ) (row : RowParts) → bound_row t (t.columns + i) ≡ Some row → Breaks row (point_at t (t.columns + i)) → ⊥
        unbroken i row row_is breaks = by (slot_at t.slots (t.columns + i)) refl
          where
            by : (o : Option Terms) → slot_at t.slots (t.columns + i) ≡ o → ⊥
            by (Some terms) e = met (t.columns + i) (record { basic = (terms, e); row = row; is_bound = row_is; breaks = breaks })
            by None e =
                let outside : point_at t (t.columns + i) ≡ bound_value row = ap (λ o. standing (resting t) (t.columns + i) o) e ∙ ap value_or_zero row_is in
                rests row (subst (λ d. Breaks row d) outside breaks)

-- one more settled value
pub settled_more : (P : ℕ → Ratio → Type 0) (values : List Ratio) (value : Ratio) (i : ℕ) → length values ≡ i → ((j : ℕ) → j < i → P j (value_in values j)) → P i value
    → (j : ℕ) → j < i + 1 → P j (value_in (values ++ value ∷ []) j)
settled_more P values value i count so_far here =
    below_more (λ j. P j (value_in (values ++ value ∷ []) j)) i
    (λ j h. subst (λ v. P j v) (sym (get_or_append_left values (value ∷ []) nothing j (omega arith))) (so_far j h))
    (subst (λ v. P i v) (sym (get_or_push values value nothing i count)) here)
