-- What can enter is told by the failing line and its row.
use Rattle.std.proofs.Common.{◌≡◌, ◌<◌, ◌≤◌, arith, ◌↔◌, Option, Some, None, ap, sym, ◌∙◌, subst, inl, inr, ◌≢◌, ℕ}
use Rattle.bt_frac.specs.Ratio.{Ratio}
use Rattle.bt_frac.specs.Rows.{RowParts}
use Rattle.std.specs.declared.cmp.Ordering.{Ordering}
use Rattle.bt_frac.specs.Deltas.{IsOrderOfDeltas}
use Rattle.bt_frac.specs.declared.delta.Delta.{Delta}
use Rattle.bt_frac.specs.declared.relation.Relation.TheVariants.{Equal}
use Rattle.bt_farkas.specs.WeightedRows.{coefficient_at}
use Rattle.bt_linear_forms.specs.Lines.{Terms}
use Rattle.bt_pivot.specs.SolvedForms.{slot_at}
use Rattle.bt_pivot.specs.Tableaus.{TableauParts}
use Rattle.bt_pivot.specs.Points.{bound_row, bound_value, resting, standing, point_at, Fails, IsSamePoint, IsBoundOrder, relation_of}
use Rattle.bt_simplex.specs.Pivots.{MovesTowards, MayMove, CanEnter, IsLeast}
use Rattle.bt_simplex.specs.inner.Bases.{IsLeastOf, MayEnter, Names}
use Rattle.bt_frac.specs.declared.relation.Relation.{Relation}
use Rattle.bt_pivot.proofs.Failing.{same_back, row_is, point_is, less_delta_right, less_delta_left}
use Rattle.bt_pivot.proofs.BoundRests.{row_of}

moves_by : (row : RowParts) (a b : Delta) (number : Ratio) → IsSamePoint a b → MovesTowards row a number → MovesTowards row b number
moves_by row a b number s (inl (less, up)) = inl (less_delta_left a b (bound_value row) s less, up)
moves_by row a b number s (inr (less, down)) = inr (less_delta_right a b (bound_value row) s less, down)

-- what can enter is told by the failing line and its row
enters_told : (t : TableauParts) (fails enters : ℕ) (terms : Terms) (row : RowParts) (point : Delta) → slot_at t.slots fails ≡ Some terms → bound_row t fails ≡ Some row
    → IsSamePoint point (standing (resting t) 0 (Some terms)) → Names terms (MayEnter t row point) enters ↔ CanEnter t fails enters
enters_told t fails enters terms row point line is_bound same = (forth, from)
  where
    here : IsSamePoint point (point_at t fails)
    here = point_is t fails terms point line same

    may : (number : Ratio) → MayEnter t row point enters number → MayMove t fails enters number
    may number (inl none) = inl none
    may number (inr (other, is_other, unequal, moves)) = inr (other, is_other, unequal, (row, is_bound, moves_by row point (point_at t fails) number here moves))

    forth : Names terms (MayEnter t row point) enters → CanEnter t fails enters
    forth names = record { terms = terms; line = line; number = names.0; names = names.1; may_move = may names.0 names.2 }

    enter : (number : Ratio) → MayMove t fails enters number → MayEnter t row point enters number
    enter number (inl none) = inl none
    enter number (inr (other, is_other, unequal, (row', is_row, moves))) =
        inr (
          other,
          is_other,
          unequal,
          subst (λ r. MovesTowards r point number) (row_is row' row (bound_row t fails) is_row is_bound) (moves_by row' (point_at t fails) point number (same_back point (point_at t fails) here) moves),
        )

    line_is : (terms' : Terms) → slot_at t.slots fails ≡ Some terms' → terms' ≡ terms
    line_is terms' is = let both : Some terms' ≡ Some terms = sym is ∙ line in cc

    from : CanEnter t fails enters → Names terms (MayEnter t row point) enters
    from can = (can.number, subst (λ ts. coefficient_at enters ts ≡ Some can.number) (line_is can.terms can.line) can.names, enter can.number can.may_move)

-- the least of one property is that of the same property in other words
least_told : (P Q : ℕ → Type 0) → ((p : ℕ) → P p ↔ Q p) → (position : ℕ) → IsLeast P position → IsLeast Q position
least_told P Q same position least = ((same position).0 least.0, λ other has. least.1 other ((same other).1 has))

-- the same of a position whose row's bound value and point have this order
pub enters_by : (t : TableauParts) (leaves : ℕ) (terms : Terms) (order : Ordering) → Fails t leaves → IsBoundOrder t leaves order → slot_at t.slots leaves ≡ Some terms → (o : Option ℕ)
    → ((row : RowParts) (point : Delta) → IsOrderOfDeltas order (bound_value row) point → IsLeastOf (λ e. Names terms (MayEnter t row point) e) o) → IsLeastOf (λ e. CanEnter t leaves e) o
enters_by t leaves terms order fails bound slot o told = at o (told fails.row here.0 here.2)
  where
    here : (point : Delta) × IsSamePoint point (point_at t leaves) × IsOrderOfDeltas order (bound_value fails.row) point
    here = bound fails.row fails.is_bound

    same : IsSamePoint here.0 (standing (resting t) 0 (Some terms))
    same = subst (λ s. IsSamePoint here.0 (standing (resting t) leaves s)) slot here.1

    both : (e : ℕ) → Names terms (MayEnter t fails.row here.0) e ↔ CanEnter t leaves e
    both e = enters_told t leaves e terms fails.row here.0 slot fails.is_bound same

    at : (o : Option ℕ) → IsLeastOf (λ e. Names terms (MayEnter t fails.row here.0) e) o → IsLeastOf (λ e. CanEnter t leaves e) o
    at (Some e) least = least_told (λ e. Names terms (MayEnter t fails.row here.0) e) (λ e. CanEnter t leaves e) both e least
    at None none = λ e can. none e ((both e).1 can)

-- nothing enters for a position without a line
pub enters_line : (t : TableauParts) (fails enters : ℕ) → slot_at t.slots fails ≡ None → CanEnter t fails enters → ⊥
enters_line t fails enters none can = let both : None ≡ Some can.terms = sym none ∙ can.line in cc

-- what has the property where nothing before it has it is the least
pub least_here : (P : ℕ → Type 0) (position : ℕ) → ((p : ℕ) → p < position → P p → ⊥) → P position → IsLeast P position
least_here P position none has = (has, λ other there. low other (λ below. none other below there))
  where
    low : (other : ℕ) → (other < position → ⊥) → position ≤ other
    low other apart = omega arith

-- a bound row that is no equation enters where it moves the failing row
pub may_by : (t : TableauParts) (row : RowParts) (point : Delta) (enters : ℕ) (number : Ratio) (relation : Relation) → relation_of (bound_row t enters) ≡ Some relation → relation ≢ Equal
    → MovesTowards row point number ↔ MayEnter t row point enters number
may_by t row point enters number relation is unequal =
    let bound = row_of (bound_row t enters) relation is in
    (λ moves. inr (bound.0, bound.1, (λ e. unequal (sym bound.2 ∙ e)), moves), λ may. told may)
  where
    told : MayEnter t row point enters number → MovesTowards row point number
    told (inl none) = let both : None ≡ Some relation = sym (ap relation_of none) ∙ is in cc
    told (inr (other, is_other, apart, moves)) = moves
