-- Where positions stand by the line of their class, and what can enter for them.
use Rattle.std.proofs.Common.{◌≡◌, ◌-◌, ◌^◌, ◌<◌, Bool, true, false, ◌∷◌, Some, sym, subst, ℕ, []}
use Rattle.std.specs.List.{All}
use Rattle.bt_frac.specs.Rows.{IsRow}
use Rattle.bt_frac.specs.Values.{AreValues}
use Rattle.bt_frac.specs.declared.delta.Delta.{Delta}
use Rattle.bt_linear_forms.specs.Lines.{one, Terms, HasNumber, IsLine, total, signed_terms}
use Rattle.bt_pivot.specs.SolvedForms.{slot_at}
use Rattle.bt_pivot.specs.Tableaus.{TableauParts}
use Rattle.bt_pivot.specs.Points.{resting, standing, point_at, IsSamePoint, signed_point}
use Rattle.bt_pivot.proofs.Failing.{point_is}
use Rattle.bt_linear_forms.proofs.Numbers.{alike, back, next}
use Rattle.bt_pivot.proofs.Resting.{rest_value, rest_tiny}
use Rattle.bt_linear_forms.proofs.SignedLines.{negated_total, alone_line}
use Rattle.bt_linear_forms.proofs.Zeros.{one_some, one_term, one_times, negated_alike}

-- a line with the other sign adds up to the point with the other sign
signed_same : (rest : ℕ → Delta) → AreValues (λ p. (rest p).value) → AreValues (λ p. (rest p).tiny) → (told : Bool) (d : Delta) (terms : Terms) → All HasNumber terms
    → IsSamePoint d (standing rest 0 (Some terms)) → IsSamePoint (signed_point told d) (standing rest 0 (Some (signed_terms told terms)))
signed_same rest values tinies false d terms all same = same
signed_same rest values tinies true d terms all same =
    let value = next (negated_alike (alike d.value (total (λ p. (rest p).value) terms) same.left_value same.right_value same.same.0)) (back (negated_total (λ p. (rest p).value) values terms all)) in
    let tiny = next (negated_alike (alike d.tiny (total (λ p. (rest p).tiny) terms) same.left_tiny same.right_tiny same.same.1)) (back (negated_total (λ p. (rest p).tiny) tinies terms all)) in
    record { left_value = value.left; left_tiny = tiny.left; right_value = value.right; right_tiny = tiny.right; same = (value.same, tiny.same) }

-- a position whose line is another's up to the sign
pub line_place : (t : TableauParts) → All IsRow t.rows → (position : ℕ) (told : Bool) (terms : Terms) (d : Delta) → slot_at t.slots position ≡ Some (signed_terms told terms) → IsLine terms
    → IsSamePoint d (standing (resting t) 0 (Some terms)) → IsSamePoint (signed_point told d) (point_at t position)
line_place t rows position told terms d slot line same =
    point_is t position (signed_terms told terms) (signed_point told d) slot (signed_same (resting t) (rest_value t rows) (rest_tiny t) told d terms line.numbers same)

-- a position whose line is another position alone, up to the sign
pub like_place : (t : TableauParts) → All IsRow t.rows → (position other : ℕ) (told : Bool) (d : Delta) → slot_at t.slots position ≡ Some (signed_terms told ((other, one) ∷ [])) → other < 2 ^ 64 - 1
    → d ≡ resting t other → IsSamePoint (signed_point told d) (point_at t position)
like_place t rows position other told d slot fits is =
    subst (λ e. IsSamePoint (signed_point told e) (point_at t position)) (sym is) (line_place t rows position told ((other, one) ∷ []) (resting t other) slot (alone_line other fits) alone)
  where
    alone : IsSamePoint (resting t other) (standing (resting t) 0 (Some ((other, one) ∷ [])))
    alone =
        let values = rest_value t rows in
        let tinies = rest_tiny t in
        let value = back (next (one_term (λ p. (resting t p).value) values other one one_some) (one_times (resting t other).value (values other))) in
        let tiny = back (next (one_term (λ p. (resting t p).tiny) tinies other one one_some) (one_times (resting t other).tiny (tinies other))) in
        record { left_value = value.left; left_tiny = tiny.left; right_value = value.right; right_tiny = tiny.right; same = (value.same, tiny.same) }
