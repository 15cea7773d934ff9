-- A pivot of a basis, slot by slot.
use Rattle.std.specs.Prelude.{◌≡◌, Bool, length, Some, slice_set, ◌==◌, if◌then◌else◌, ℕ}
use Rattle.bt_linear_forms.specs.Lines.{Terms, signed_terms}
use Rattle.bt_linear_forms.specs.Substituting.{IsSubstituted, IsEntering}
use Rattle.bt_pivot.specs.SolvedForms.{Slots, slot_at}

-- in every slot the line lacks the position, or its number there times the zero line is added to it
pub record AreSubstituted (position : ℕ) (zero : Terms) (slots slots' : Slots) : Type 0 where
  pub same_length : length slots' ≡ length slots
  pub each : (other : ℕ) → IsSubstituted position zero (slot_at slots other) (slot_at slots' other)

-- the lines with a class's one in place, but where the class is the one that is left
abbrev pub with_line : ℕ → ℕ → Terms → Slots → Slots
with_line left class line lines = if class == left then lines else slice_set lines class (Some line)

-- the line of the entering position, with the other sign where this is told
pub record IsSignedEntering (enters : ℕ) (negated : Bool) (zero line : Terms) : Type 0 where
  pub entering : Terms
  pub is_entering : IsEntering enters zero entering
  pub signed : line ≡ signed_terms negated entering
