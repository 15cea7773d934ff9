-- Weights as they are read off the failing position's line.
use Rattle.std.specs.Prelude.{◌≡◌, ◌↔◌, ◌-◌, List, ◌∷◌, map, Bool, IsTrue, Some, if◌then◌else◌, ℕ, []}
use Rattle.bt_frac.specs.Ratio.{Ratio, negated}
use Rattle.bt_linear_forms.specs.Lines.{one, Terms, IsLine, IsCombination}
use Rattle.bt_pivot.specs.SolvedForms.{slot_at}
use Rattle.bt_pivot.specs.Tableaus.{TableauParts}
use Rattle.bt_simplex.specs.Weights.{StandsAbove}

-- the number, and with the other sign where the failing row is below its bound value
abbrev pub signed : Bool → Ratio → Ratio
signed above number = if above then number else negated number

-- the row of a position, and its weight
abbrev pub weight_of : ℕ → Bool → ℕ × Ratio → ℕ × Ratio
weight_of columns above t = (t.0 - columns, signed above t.1)

-- the weights are those of the line less the position
pub record AreLineWeights (t : TableauParts) (fails : ℕ) (weights : List (ℕ × Ratio)) : Type 0 where
  pub terms : Terms
  pub slot : slot_at t.slots fails ≡ Some terms
  pub above : Bool
  pub is_above : IsTrue above ↔ StandsAbove t fails
  pub line : Terms
  pub is_line : IsLine line
  pub combination : IsCombination ((fails, negated one) ∷ []) one terms line
  pub weights_are : weights ≡ map (weight_of t.columns above) line
