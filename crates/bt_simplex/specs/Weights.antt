-- The weights of a basis at which a position fails and none can enter for it.
use Rattle.std.specs.Prelude.{◌≡◌, ◌≢◌, ◌⊎◌, ◌↔◌, ◌+◌, List, map, Some, None, ℕ}
use Rattle.bt_frac.specs.Ratio.{Ratio, negated}
use Rattle.bt_frac.specs.Columns.{AreColumnsFrom}
use Rattle.bt_frac.specs.Rows.{RowParts, columns_of}
use Rattle.bt_frac.specs.Deltas.{IsLessDelta}
use Rattle.bt_frac.specs.Values.{times}
use Rattle.bt_farkas.specs.WeightedRows.{coefficient_at, weighted}
use Rattle.bt_linear_forms.specs.Lines.{one, Terms}
use Rattle.bt_pivot.specs.SolvedForms.{slot_at}
use Rattle.bt_pivot.specs.Tableaus.{TableauParts}
use Rattle.bt_pivot.specs.Points.{bound_value, bound_row, point_at}

-- the bound row at the position stands above its bound value
pub record StandsAbove (t : TableauParts) (position : ℕ) : Type 0 where
  pub row : RowParts
  pub is_bound : bound_row t position ≡ Some row
  pub above : IsLessDelta (bound_value row) (point_at t position)

-- the weight of the failing position: -1 where it is above its bound value, as an equation may be, and 1 otherwise
abbrev pub IsSign : TableauParts → ℕ → Ratio → Type 0
IsSign t fails sign = (StandsAbove t fails × (sign ≡ negated one)) ⊎ ((StandsAbove t fails → ⊥) × (sign ≡ one))

-- the row of a position with its weight: the failing one has the sign, and a bound one outside the basis has the sign
-- times its number in the failing line, negated
abbrev pub IsWeight : TableauParts → ℕ → Ratio → ℕ → Ratio → Type 0
IsWeight t fails sign position weight =
    ((position ≡ fails) × (weight ≡ sign))
    ⊎ ((bound_row t position ≢ None) × ((terms : Terms) × (slot_at t.slots fails ≡ Some terms) × ((number : Ratio) × (coefficient_at position terms ≡ Some number) × (weight ≡ negated (times sign number)))))

-- the rows of these weights ascend, and they are those of the failing position and of its line
pub record AreWeights (t : TableauParts) (fails : ℕ) (weights : List (ℕ × Ratio)) : Type 0 where
  pub ascend : AreColumnsFrom 0 (columns_of weights)
  pub sign : Ratio
  pub is_sign : IsSign t fails sign
  pub each : (row : ℕ) (weight : Ratio) → (coefficient_at row weights ≡ Some weight) ↔ IsWeight t fails sign (t.columns + row) weight

-- the sum of rows, each times its weight
abbrev pub weighted_rows : List RowParts → List (ℕ × Ratio) → List (RowParts × Ratio)
weighted_rows rows weights = weighted rows (map (λ w. w.0) weights) (map (λ w. w.1) weights)
