-- Runs of Bland's pivots from a basis on.
use Rattle.std.specs.Prelude.{◌≡◌, ◌≤◌, List, Some, length, ℕ}
use Rattle.bt_frac.specs.Ratio.{Ratio}
use Rattle.bt_farkas.specs.WeightedRows.{coefficient_at}
use Rattle.bt_linear_forms.specs.Lines.{Terms}
use Rattle.bt_pivot.specs.SolvedForms.{Slots, slot_at, basis_of}
use Rattle.bt_simplex.specs.Causes.{IsCause}
use Rattle.bt_pivot.specs.Tableaus.{TableauParts, IsTableau, with_slots}
use Rattle.bt_simplex.specs.Pivots.{IsMet, IsStuckAt, IsFinal, IsPivotedBy, Follows}
use Rattle.bt_pivot.specs.declared.basis.Pivot.{Pivot}
use Rattle.bt_simplex.specs.declared.running.End.{End}
use Rattle.bt_simplex.specs.declared.running.End.TheVariants.{Met, Stuck, Pivots, Wide}

-- the line of the first position names the second, which is outside the basis
abbrev pub CanPivot : Slots → Pivot → Type 0
CanPivot slots pivot = (terms : Terms) × (slot_at slots pivot.leaves ≡ Some terms) × ((number : Ratio) × (coefficient_at pivot.enters terms ≡ Some number))

-- the pivots lead from the tableau to the one with these slots
pub record IsAt (t : TableauParts) (steps : List Pivot) (slots : Slots) : Type 0 where
  pub tableau : IsTableau (with_slots t slots)
  pub follows : Follows t steps (with_slots t slots)

-- the pivot leads from the first slots to the second
pub record IsMade (t : TableauParts) (pivot : Pivot) (slots slots' : Slots) : Type 0 where
  pub tableau : IsTableau (with_slots t slots')
  pub pivoted : IsPivotedBy pivot (with_slots t slots) (with_slots t slots')

-- where the run ends: at this tableau's slots, which are those of a final basis, or whose basis has so many pivots
-- before it and isn't final, or at which an operation is None
abbrev pub IsEnd : ℕ → TableauParts → TableauParts → List Pivot → Slots → End → Type 0
IsEnd pivots t last steps slots Met = (last ≡ with_slots t slots) × IsTableau last × IsMet last
IsEnd pivots t last steps slots (Stuck position) = (last ≡ with_slots t slots) × IsTableau last × IsStuckAt last position
IsEnd pivots t last steps slots Pivots = (length steps ≡ pivots) × (IsFinal last → ⊥)
IsEnd pivots t last steps slots (Wide cause) = IsCause last cause

-- at most so many pivots of Bland's rule from a tableau on, to these slots, and where they end
pub record IsRun (pivots : ℕ) (t : TableauParts) (steps : List Pivot) (slots : Slots) (end : End) : Type 0 where
  pub few : length steps ≤ pivots
  pub last : TableauParts
  pub follows : Follows t steps last
  pub basis : basis_of slots ≡ basis_of last.slots
  pub ends : IsEnd pivots t last steps slots end
