-- Sums of the lines of a basis where their positions rest, and those that are kept from pivot to pivot.
use Rattle.std.specs.Prelude.{◌≡◌, ◌<◌, ◌^◌, Some, List, Option, None, IfSome, slice_index_or, ℕ}
use Rattle.bt_frac.specs.declared.delta.Delta.{Delta}
use Rattle.bt_pivot.specs.Points.{resting, standing, IsSamePoint}
use Rattle.bt_linear_forms.specs.Lines.{Terms}
use Rattle.bt_pivot.specs.SolvedForms.{Slots, slot_at}
use Rattle.bt_pivot.specs.Tableaus.{TableauParts}
use Rattle.bt_pivot.specs.declared.short_points.Sums.{Sums}
use Rattle.bt_pivot.specs.declared.short_points.ClassSums.{ClassSums}

-- the sums over their denominator
abbrev pub delta_of : Sums → Delta
delta_of sums = record { value = record { over = sums.value; under = sums.under }; tiny = record { over = sums.tiny; under = sums.under } }

-- the sums of what the first position of a class has for a line
pub record AreClassSums (t : TableauParts) (slots : Slots) (sums : ClassSums) : Type 0 where
  pub fits : sums.sums.under < 2 ^ 31
  pub same : (terms : Terms) → slot_at slots sums.first ≡ Some terms → IsSamePoint (delta_of sums.sums) (standing (resting t) 0 (Some terms))

-- for each class its sums, or none
abbrev pub SumsList : Type 0
SumsList = List (Option ClassSums)

-- the sums that are kept are those of the lines
abbrev pub AreKept : TableauParts → Slots → SumsList → Type 0
AreKept t slots kept = (class : ℕ) → IfSome (slice_index_or kept class None) (AreClassSums t slots)

-- where the sums that were kept were those of the lines, these are too
abbrev pub SlotsStay : TableauParts → Slots → Slots → SumsList → SumsList → Type 0
SlotsStay t slots slots' kept kept' = AreKept t slots kept → AreKept t slots' kept'
