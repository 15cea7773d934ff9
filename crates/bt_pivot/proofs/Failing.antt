-- The same point fails alike.
use Rattle.std.proofs.Common.{◌≡◌, ◌-◌, ◌<◌, ◌≤◌, arith, nat_lt, true, false, if◌then◌else◌, get_or, pos, ◌*ℤ◌, ◌<ℤ◌, ◌↔◌, length, Option, Some, None, ap, sym, ◌∙◌, subst, inl, inr, ℕ}
use Rattle.std.proofs.lemmas.Bool.Decides.{nat_tests}
use Rattle.std.proofs.lemmas.List.{get_or_past}
use Rattle.bt_frac.specs.Ratio.{Ratio, SameRatio, IsLess}
use Rattle.bt_frac.specs.Rows.{RowParts}
use Rattle.bt_frac.specs.Deltas.{IsLessDelta}
use Rattle.bt_frac.specs.declared.delta.Delta.{Delta}
use Rattle.bt_frac.specs.declared.relation.Relation.TheVariants.{Above}
use Rattle.bt_frac.proofs.Order.{mul_lt, lt_from_mul}
use Rattle.bt_frac.proofs.Ring.{turn_last}
use Rattle.bt_farkas.proofs.SameNumbers.{same_trans, stands_same}
use Rattle.bt_farkas.specs.WeightedRows.{empty_row}
use Rattle.bt_linear_forms.specs.Lines.{Terms}
use Rattle.bt_pivot.specs.SolvedForms.{slot_at, InBasis}
use Rattle.bt_pivot.specs.Tableaus.{TableauParts}
use Rattle.bt_pivot.specs.Points.{bound_row, bound_value, resting, standing, point_at, Breaks, Fails, IsSamePoint}
use Rattle.bt_linear_forms.proofs.Numbers.{Positive}

pub less_right : (a b x : Ratio) → Positive a → Positive b → SameRatio a b → IsLess x a → IsLess x b
less_right a b x p q e h = (stands_same Above x a b p q e).0 h

pub less_left : (a b x : Ratio) → Positive a → Positive b → SameRatio a b → IsLess a x → IsLess b x
less_left a b x p q e h =
    lt_from_mul (b.over *ℤ pos x.under) (x.over *ℤ pos b.under) a.under
    (subst (λ t. t <ℤ (x.over *ℤ pos b.under *ℤ pos a.under)) crossed
    (subst (λ t. (a.over *ℤ pos x.under *ℤ pos b.under) <ℤ t) (turn_last x.over (pos a.under) (pos b.under)) (mul_lt (a.over *ℤ pos x.under) (x.over *ℤ pos a.under) b.under q h)))
  where
    crossed : a.over *ℤ pos x.under *ℤ pos b.under ≡ b.over *ℤ pos x.under *ℤ pos a.under
    crossed = turn_last a.over (pos x.under) (pos b.under) ∙ ap (λ t. t *ℤ pos x.under) e ∙ turn_last b.over (pos a.under) (pos x.under)

pub less_delta_right : (a b x : Delta) → IsSamePoint a b → IsLessDelta x a → IsLessDelta x b
less_delta_right a b x s (inl less) = inl (less_right a.value b.value x.value s.left_value s.right_value s.same.0 less)
less_delta_right a b x s (inr (same, less)) =
    inr (same_trans x.value a.value b.value s.left_value same s.same.0, less_right a.tiny b.tiny x.tiny s.left_tiny s.right_tiny s.same.1 less)

pub less_delta_left : (a b x : Delta) → IsSamePoint a b → IsLessDelta a x → IsLessDelta b x
less_delta_left a b x s (inl less) = inl (less_left a.value b.value x.value s.left_value s.right_value s.same.0 less)
less_delta_left a b x s (inr (same, less)) =
    inr (same_trans b.value a.value x.value s.left_value (sym s.same.0) same, less_left a.tiny b.tiny x.tiny s.left_tiny s.right_tiny s.same.1 less)

pub same_back : (a b : Delta) → IsSamePoint a b → IsSamePoint b a
same_back a b s = record { left_value = s.right_value; left_tiny = s.right_tiny; right_value = s.left_value; right_tiny = s.left_tiny; same = (sym s.same.0, sym s.same.1) }

breaks_by : (row : RowParts) (a b : Delta) → IsSamePoint a b → Breaks row a → Breaks row b
breaks_by row a b s (inl less) = inl (less_delta_left a b (bound_value row) s less)
breaks_by row a b s (inr (equal, less)) = inr (equal, less_delta_right a b (bound_value row) s less)

-- the point of a line is that of its position
pub point_is : (t : TableauParts) (position : ℕ) (terms : Terms) (point : Delta) → slot_at t.slots position ≡ Some terms → IsSamePoint point (standing (resting t) 0 (Some terms))
    → IsSamePoint point (point_at t position)
point_is t position terms point line same = subst (λ o. IsSamePoint point (standing (resting t) position o)) (sym line) same

pub row_is : (a b : RowParts) (o : Option RowParts) → o ≡ Some a → o ≡ Some b → a ≡ b
row_is a b o p q = cc

-- what fails is told by its point and its row
pub fails_told : (t : TableauParts) (position : ℕ) (row : RowParts) (point : Delta) → InBasis t.slots position → bound_row t position ≡ Some row → IsSamePoint point (point_at t position)
    → Breaks row point ↔ Fails t position
fails_told t position row point basic is_bound here = (
  λ breaks. record { basic = basic; row = row; is_bound = is_bound; breaks = breaks_by row point (point_at t position) here breaks },
  λ fails.
      subst (λ r. Breaks r point) (row_is fails.row row (bound_row t position) fails.is_bound is_bound)
      (breaks_by fails.row (point_at t position) point (same_back point (point_at t position) here) fails.breaks),
)

-- a position without a line, or without a bound row, doesn't fail
no_line : (t : TableauParts) (position : ℕ) → slot_at t.slots position ≡ None → Fails t position → ⊥
no_line t position none fails = let both : None ≡ Some fails.basic.0 = sym none ∙ fails.basic.1 in cc

pub no_row : (t : TableauParts) (position : ℕ) → bound_row t position ≡ None → Fails t position → ⊥
no_row t position none fails = let both : None ≡ Some fails.row = sym none ∙ fails.is_bound in cc

pub no_column : (t : TableauParts) (position : ℕ) → position < t.columns → Fails t position → ⊥
no_column t position before fails =
    let test : nat_lt position t.columns ≡ true = grind (arith, nat_tests) in
    no_row t position
    (ap (λ b. if b then None else if get_or t.bound (position - t.columns) false then Some (get_or t.rows (position - t.columns) empty_row) else None) test) fails

pub no_slot : (t : TableauParts) (position : ℕ) → length t.slots ≤ position → Fails t position → ⊥
no_slot t position past fails = no_line t position (get_or_past t.slots position None past) fails
