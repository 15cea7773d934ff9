-- Pivots of a basis by Bland's rule: the least position that fails leaves, and the least that can enter does.
use Rattle.std.specs.Prelude.{◌≡◌, ◌≢◌, ◌⊎◌, ◌↔◌, ◌≤◌, pos, ◌<ℤ◌, List, ◌∷◌, Some, None, ℕ, []}
use Rattle.bt_frac.specs.Ratio.{Ratio}
use Rattle.bt_frac.specs.Rows.{RowParts}
use Rattle.bt_frac.specs.Deltas.{IsLessDelta}
use Rattle.bt_frac.specs.declared.delta.Delta.{Delta}
use Rattle.bt_frac.specs.declared.relation.Relation.TheVariants.{Equal}
use Rattle.bt_farkas.specs.WeightedRows.{coefficient_at}
use Rattle.bt_linear_forms.specs.Lines.{Terms}
use Rattle.bt_pivot.specs.SolvedForms.{slot_at, IsSolvedForm, InBasis}
use Rattle.bt_pivot.specs.Tableaus.{TableauParts}
use Rattle.bt_pivot.specs.Points.{bound_value, bound_row, point_at, Fails}
use Rattle.bt_pivot.specs.declared.basis.Pivot.{Pivot}

-- a position with this number in the row's line moves it towards its bound value where it is raised
abbrev pub MovesTowards : RowParts → Delta → Ratio → Type 0
MovesTowards row point number =
    (IsLessDelta point (bound_value row) × (pos 0 <ℤ number.over)) ⊎ (IsLessDelta (bound_value row) point × (number.over <ℤ pos 0))

-- the position may be moved: it is a column or a row that isn't bound, or a bound row that is no equation, and raising
-- it moves the failing row towards its bound value
abbrev pub MayMove : TableauParts → ℕ → ℕ → Ratio → Type 0
MayMove t fails enters number =
    (bound_row t enters ≡ None)
    ⊎ ((other : RowParts) × (bound_row t enters ≡ Some other) × (other.relation ≢ Equal)
    × ((row : RowParts) × (bound_row t fails ≡ Some row) × MovesTowards row (point_at t fails) number))

-- the failing position's line names the position, which may be moved
pub record CanEnter (t : TableauParts) (fails enters : ℕ) : Type 0 where
  pub terms : Terms
  pub line : slot_at t.slots fails ≡ Some terms
  pub number : Ratio
  pub names : coefficient_at enters terms ≡ Some number
  pub may_move : MayMove t fails enters number

-- the position has the property, and no lesser one has it
abbrev pub IsLeast : (ℕ → Type 0) → ℕ → Type 0
IsLeast P position = P position × ((other : ℕ) → P other → position ≤ other)

-- the pivot of Bland's rule
pub record IsBlandPivot (t : TableauParts) (pivot : Pivot) : Type 0 where
  pub leaves : IsLeast (λ p. Fails t p) pivot.leaves
  pub enters : IsLeast (λ e. CanEnter t pivot.leaves e) pivot.enters

-- no position fails
abbrev pub IsMet : TableauParts → Type 0
IsMet t = (position : ℕ) → Fails t position → ⊥

-- this position is the least that fails, and none can enter for it
pub record IsStuckAt (t : TableauParts) (position : ℕ) : Type 0 where
  pub least : IsLeast (λ p. Fails t p) position
  pub none : (enters : ℕ) → CanEnter t position enters → ⊥

-- no position fails, or none can enter for the least that does
abbrev pub IsFinal : TableauParts → Type 0
IsFinal t = ((position : ℕ) → Fails t position → ⊥) ⊎ ((position : ℕ) × IsLeast (λ p. Fails t p) position × ((enters : ℕ) → CanEnter t position enters → ⊥))

-- the same rows with the same ones bound, and a basis that one position has left and one has entered
pub record IsPivotedBy (pivot : Pivot) (t t' : TableauParts) : Type 0 where
  pub stays : t' ≡ record t { slots = t'.slots }
  pub solved : IsSolvedForm t.rows t.columns t'.slots
  pub basis : (position : ℕ) → InBasis t'.slots position ↔ ((position ≡ pivot.enters) ⊎ (InBasis t.slots position × (position ≢ pivot.leaves)))

-- pivots of Bland's rule, one after the other, lead from the first tableau to the second
abbrev pub Follows : TableauParts → List Pivot → TableauParts → Type 0
Follows t [] t' = t ≡ t'
Follows t (pivot ∷ steps) t' = (between : TableauParts) × IsBlandPivot t pivot × IsPivotedBy pivot t between × Follows between steps t'
