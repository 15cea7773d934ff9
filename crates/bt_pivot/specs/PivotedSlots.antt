-- A pivot of a basis, slot by slot, and why one of its operations leaves 128 bits.
use Rattle.std.specs.Prelude.{◌≡◌, ◌≢◌, length, Some, None, Option, ℕ}
use Rattle.bt_frac.specs.Ratio.{Ratio}
use Rattle.bt_farkas.specs.WeightedRows.{coefficient_at}
use Rattle.bt_linear_forms.specs.Lines.{Terms, IsLine}
use Rattle.bt_linear_forms.specs.Substituting.{IsZeroLine, IsSubstituted, IsEntering}
use Rattle.bt_pivot.specs.SolvedForms.{Slots, slot_at, basis_of}
use Rattle.bt_linear_forms.specs.Unfits.{IsNone}
use Rattle.bt_pivot.specs.Entries.{IsEntryStep}
use Rattle.bt_pivot.specs.declared.causes.WidePlace.TheVariants.{Entry}
use Rattle.bt_pivot.specs.declared.causes.Cause.{Cause}

-- each slot with terms has a line
abbrev pub AreLines : Slots → Type 0
AreLines slots = (position : ℕ) (terms : Terms) → slot_at slots position ≡ Some terms → IsLine terms

-- a position leaves the basis and another enters it
pub record IsPivoted (slots : Slots) (leaves enters : ℕ) (slots' : Slots) : Type 0 where
  pub same_length : length slots' ≡ length slots
  pub terms : Terms
  pub leaving : slot_at slots leaves ≡ Some terms
  pub number : Ratio
  pub is_number : coefficient_at enters terms ≡ Some number
  pub zero : Terms
  pub is_zero : IsZeroLine leaves terms number zero
  pub others : (position : ℕ) → position ≢ leaves → position ≢ enters → IsSubstituted enters zero (slot_at slots position) (slot_at slots' position)
  pub left : slot_at slots' leaves ≡ None
  pub entering : Terms
  pub entered : slot_at slots' enters ≡ Some entering
  pub is_entering : IsEntering enters zero entering

-- the slot has a line, which names the entering position and not the leaving one
pub record CanPart (slot : Option Terms) (leaves enters : ℕ) : Type 0 where
  pub terms : Terms
  pub slot_is : slot ≡ Some terms
  pub number : Ratio
  pub named : coefficient_at enters terms ≡ Some number
  pub lacks : coefficient_at leaves terms ≡ None

-- the pivot asks for an operation that is None, and the slots still have the same basis
pub record IsUnfitPivot (slots : Slots) (leaves enters : ℕ) (slots' : Slots) (cause : Cause) : Type 0 where
  pub same_basis : basis_of slots' ≡ basis_of slots
  pub place : cause.place ≡ Entry
  pub none : IsNone cause.operation cause.left cause.right
  pub step : IsEntryStep slots (record { leaves = leaves; enters = enters }) cause.row cause.column cause.operation cause.left cause.right
