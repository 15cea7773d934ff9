-- The slots of a pivot, of which the first are changed.
use Rattle.std.proofs.Common.{◌≡◌, ◌<◌, ◌≤◌, length, ℕ}
use Rattle.bt_linear_forms.specs.Lines.{Terms}
use Rattle.bt_pivot.specs.SolvedForms.{Slots, slot_at}
use Rattle.bt_linear_forms.specs.Substituting.{IsSubstituted}

-- the slots before this one are changed, and the others stand as they were
pub record ArePartlySubstituted (position : ℕ) (zero : Terms) (slots slots' : Slots) (done : ℕ) : Type 0 where
  pub same_length : length slots' ≡ length slots
  pub before : (other : ℕ) → other < done → IsSubstituted position zero (slot_at slots other) (slot_at slots' other)
  pub after : (other : ℕ) → done ≤ other → slot_at slots' other ≡ slot_at slots other
