-- A line of one basis, at the point of another basis of the same rows.
use Rattle.std.proofs.Common.{◌≡◌, ◌<◌, length, Option, Some, None, ap, sym, ◌∙◌, refl, subst, inl, inr, ℕ}
use Rattle.std.specs.List.{All}
use Rattle.bt_frac.specs.Deltas.{IsLessDelta}
use Rattle.bt_frac.specs.Ratio.{Ratio, SameRatio}
use Rattle.bt_frac.specs.Values.{AreValues, times}
use Rattle.bt_linear_forms.specs.Lines.{Terms, HasNumber, total}
use Rattle.bt_pivot.specs.Points.{resting, standing, point_at}
use Rattle.bt_pivot.specs.SolvedForms.{Slots, slot_at, at_position, IsOutside}
use Rattle.bt_pivot.specs.Tableaus.{TableauParts, IsTableau, with_slots}
use Rattle.bt_simplex.proofs.Lexical.{IsUp, less, less_some, total_less, up_total, up_by, not_less_of}
use Rattle.bt_linear_forms.proofs.Numbers.{Alike, alike, itself, back, next, both_plus}
use Rattle.bt_pivot.proofs.Resting.{rest_value, rest_tiny, point_some}
use Rattle.bt_pivot.proofs.Denominators.{stands_some}
use Rattle.bt_linear_forms.proofs.Totals.{total_positive}
use Rattle.bt_linear_forms.proofs.Zeros.{total_along, all_from, named_or_lacks, negated_alike}

-- one part of where a position stands: as its line says, or where it rests
abbrev pub spot : (ℕ → Ratio) → ℕ → Option Terms → Ratio
spot rest position (Some terms) = total rest terms
spot rest position None = rest position

-- values of the columns at which each position stands there
module _ (t : TableauParts) (tableau : IsTableau t) (rest : ℕ → Ratio) (some : AreValues rest) where
  found : (values : ℕ → Ratio) × AreValues values × ((position : ℕ) → IsOutside t.slots position → SameRatio (at_position t.rows t.columns values position) (rest position))
  found = tableau.solved.free rest some

  pub chosen : ℕ → Ratio
  chosen = found.0

  pub chosen_some : AreValues chosen
  unfolding chosen
  chosen_some = found.1

  at : ℕ → Ratio
  at = at_position t.rows t.columns found.0

  at_some : AreValues at
  unfolding at
  at_some = stands_some t.rows t.columns tableau.rows found.0 found.1

  pub stands : (p : ℕ) → p < length t.slots → Alike (at_position t.rows t.columns chosen p) (spot rest p (slot_at t.slots p))
  unfolding chosen at
  stands p within = by (slot_at t.slots p) refl
    where
      by : (o : Option Terms) → slot_at t.slots p ≡ o → Alike (at_position t.rows t.columns found.0 p) (spot rest p o)
      by None e = alike (at p) (rest p) (at_some p) (some p) (found.2 p (record { within = within; outside = e }))
      by (Some terms) e =
          let lines = tableau.solved.lines p terms e in
          let along =
          total_along at rest at_some some terms lines.0.numbers
          (all_from (λ j. Alike (at j) (rest j)) terms (λ j. elim (named_or_lacks (λ n. IsOutside t.slots n) j terms lines.1) [
            | inl o ↦ inl (alike (at j) (rest j) (at_some j) (some j) (found.2 j o))
            | inr lacks ↦ inr lacks
          ])) in
          next (alike (at p) (total at terms) (at_some p) along.left (tableau.solved.holds found.0 found.1 p terms e)) along

-- a line of the first basis holds at the point of the second
module _ (t : TableauParts) (slots : Slots) (tableau : IsTableau t) (other : IsTableau (with_slots t slots)) (p : ℕ) (terms : Terms) (line : slot_at t.slots p ≡ Some terms) (within : p < length t.slots) where
  many : length t.slots ≡ length slots
  many = tableau.solved.positions ∙ sym other.solved.positions

  part_holds : (rest here : ℕ → Ratio) → AreValues rest → AreValues here → ((q : ℕ) → spot rest q (slot_at slots q) ≡ here q) → Alike (here p) (total here terms)
  part_holds rest here some here_some same =
      let values = chosen (with_slots t slots) other rest some in
      let values_some = chosen_some (with_slots t slots) other rest some in
      let at_some = stands_some t.rows t.columns tableau.rows values values_some in
      let lines = tableau.solved.lines p terms line in
      let there : (j : ℕ) → j < length t.slots → Alike (at_position t.rows t.columns values j) (here j) =
      (λ j inside. subst (λ r. Alike (at_position t.rows t.columns values j) r) (same j) (stands (with_slots t slots) other rest some j (subst (λ n. j < n) many inside))) in
      let along =
      total_along (at_position t.rows t.columns values) here at_some here_some terms lines.0.numbers
      (all_from (λ j. Alike (at_position t.rows t.columns values j) (here j)) terms (λ j. elim (named_or_lacks (λ n. IsOutside t.slots n) j terms lines.1) [
        | inl o ↦ inl (there j o.within)
        | inr lacks ↦ inr lacks
      ])) in
      next (back (there p within))
      (next (alike (at_position t.rows t.columns values p) (total (at_position t.rows t.columns values) terms) (at_some p) along.left (tableau.solved.holds values values_some p terms line)) along)

  -- both parts of a point
  value_spot : (q : ℕ) (o : Option Terms) → spot (λ j. (resting t j).value) q o ≡ (standing (resting t) q o).value
  value_spot q None = refl
  value_spot q (Some terms) = refl

  tiny_spot : (q : ℕ) (o : Option Terms) → spot (λ j. (resting t j).tiny) q o ≡ (standing (resting t) q o).tiny
  tiny_spot q None = refl
  tiny_spot q (Some terms) = refl

  -- where no term of the line adds to the point of the second basis, the position isn't higher there
  pub not_higher : All (λ u. IsUp (times u.1 (less (resting t u.0).value (point_at (with_slots t slots) u.0).value)) (times u.1 (less (resting t u.0).tiny (point_at (with_slots t slots) u.0).tiny))) terms
      → IsLessDelta (point_at t p) (point_at (with_slots t slots) p) → ⊥
  not_higher each = not_less_of (point_at t p) (point_at (with_slots t slots) p) up
    where
      numbers : All HasNumber terms
      numbers = (tableau.solved.lines p terms line).0.numbers

      values : AreValues (λ q. (resting t q).value)
      values = rest_value t tableau.rows

      tinies : AreValues (λ q. (resting t q).tiny)
      tinies = rest_tiny t

      there_value : AreValues (λ q. (point_at (with_slots t slots) q).value)
      there_value q = (point_some (with_slots t slots) other q).0

      there_tiny : AreValues (λ q. (point_at (with_slots t slots) q).tiny)
      there_tiny q = (point_some (with_slots t slots) other q).1

      value_is : Alike (point_at (with_slots t slots) p).value (total (λ q. (point_at (with_slots t slots) q).value) terms)
      value_is = part_holds (λ q. (resting t q).value) (λ q. (point_at (with_slots t slots) q).value) values there_value (λ q. value_spot q (slot_at slots q))

      tiny_is : Alike (point_at (with_slots t slots) p).tiny (total (λ q. (point_at (with_slots t slots) q).tiny) terms)
      tiny_is = part_holds (λ q. (resting t q).tiny) (λ q. (point_at (with_slots t slots) q).tiny) tinies there_tiny (λ q. tiny_spot q (slot_at slots q))

      here_value : (point_at t p).value ≡ total (λ q. (resting t q).value) terms
      here_value = ap (λ o. (standing (resting t) p o).value) line

      here_tiny : (point_at t p).tiny ≡ total (λ q. (resting t q).tiny) terms
      here_tiny = ap (λ o. (standing (resting t) p o).tiny) line

      sums : IsUp (total (λ q. less (resting t q).value (point_at (with_slots t slots) q).value) terms) (total (λ q. less (resting t q).tiny (point_at (with_slots t slots) q).tiny) terms)
      sums =
          up_total (λ q. less (resting t q).value (point_at (with_slots t slots) q).value) (λ q. less (resting t q).tiny (point_at (with_slots t slots) q).tiny)
          (λ q. less_some (resting t q).value (point_at (with_slots t slots) q).value (values q) (there_value q)) (λ q. less_some (resting t q).tiny (point_at (with_slots t slots) q).tiny (tinies q) (there_tiny q)) terms numbers each

      value_less : Alike (total (λ q. less (resting t q).value (point_at (with_slots t slots) q).value) terms) (less (point_at t p).value (point_at (with_slots t slots) p).value)
      value_less =
          next (total_less (λ q. (resting t q).value) (λ q. (point_at (with_slots t slots) q).value) values there_value terms numbers)
          (subst (λ r. Alike (less (total (λ q. (resting t q).value) terms) (total (λ q. (point_at (with_slots t slots) q).value) terms)) (less r (point_at (with_slots t slots) p).value)) (sym here_value)
          (both_plus (itself (total (λ q. (resting t q).value) terms) (total_positive (λ q. (resting t q).value) values terms numbers)) (negated_alike (back value_is))))

      tiny_less : Alike (total (λ q. less (resting t q).tiny (point_at (with_slots t slots) q).tiny) terms) (less (point_at t p).tiny (point_at (with_slots t slots) p).tiny)
      tiny_less =
          next (total_less (λ q. (resting t q).tiny) (λ q. (point_at (with_slots t slots) q).tiny) tinies there_tiny terms numbers)
          (subst (λ r. Alike (less (total (λ q. (resting t q).tiny) terms) (total (λ q. (point_at (with_slots t slots) q).tiny) terms)) (less r (point_at (with_slots t slots) p).tiny)) (sym here_tiny)
          (both_plus (itself (total (λ q. (resting t q).tiny) terms) (total_positive (λ q. (resting t q).tiny) tinies terms numbers)) (negated_alike (back tiny_is))))

      up : IsUp (less (point_at t p).value (point_at (with_slots t slots) p).value) (less (point_at t p).tiny (point_at (with_slots t slots) p).tiny)
      up = up_by value_less tiny_less sums
