-- Operations of a pivot whose results leave 128 bits.
use Rattle.std.specs.Prelude.{◌≡◌, ◌≢◌, length, Option, Some, None, ℕ}
use Rattle.bt_frac.specs.Ratio.{Ratio, negated}
use Rattle.bt_farkas.specs.WeightedRows.{coefficient_at}
use Rattle.bt_linear_forms.specs.Lines.{Terms, IsLine}
use Rattle.bt_pivot.specs.SolvedForms.{Slots, slot_at}
use Rattle.bt_linear_forms.specs.Unfits.{IsUnfit, IsUnfitZero}
use Rattle.bt_linear_forms.specs.declared.unfit.Operation.{Operation}
use Rattle.bt_linear_forms.specs.declared.unfit.Operation.TheVariants.{Add, Mul, Div}
use Rattle.bt_pivot.specs.declared.causes.WidePlace.TheVariants.{Entry}
use Rattle.bt_linear_forms.specs.declared.unfit.Unfit.{Unfit}
use Rattle.bt_pivot.specs.declared.causes.Cause.{Cause}
use Rattle.bt_linear_forms.specs.Substituting.{IsZeroLine}

-- the cause, by the numbers of the solved form before the pivot
abbrev pub seen_right : Operation → Ratio → Ratio
seen_right Add right = right
seen_right Mul right = negated right
seen_right Div right = right

abbrev pub entry_cause : ℕ → Unfit → Cause
entry_cause row unfit =
    record { place = Entry; row = row; column = unfit.column; operation = unfit.operation; left = unfit.left; right = seen_right unfit.operation unfit.right }

-- both slots have a line, or neither has
abbrev pub AreAlike : Option Terms → Option Terms → Type 0
AreAlike None None = Unit {0}
AreAlike None (Some terms) = ⊥
AreAlike (Some terms) None = ⊥
AreAlike (Some terms) (Some terms') = Unit {0}

-- the same positions have lines
pub record HaveSameBasis (slots slots' : Slots) : Type 0 where
  pub same_length : length slots ≡ length slots'
  pub alike : (position : ℕ) → AreAlike (slot_at slots position) (slot_at slots' position)

-- in one slot a product or a sum doesn't fit, and the slots still have the same basis
pub record IsUnfitSlot (enters : ℕ) (zero : Terms) (slots slots' : Slots) (cause : Cause) : Type 0 where
  pub same_basis : HaveSameBasis slots' slots
  pub terms : Terms
  pub line : slot_at slots cause.row ≡ Some terms
  pub number : Ratio
  pub named : coefficient_at enters terms ≡ Some number
  pub unfit : Unfit
  pub is_unfit : IsUnfit terms number zero unfit
  pub cause_is : cause ≡ entry_cause cause.row unfit

-- in the line of a class other than this one a product or a sum doesn't fit, and the same classes still have lines
pub record IsUnfitLine (left enters : ℕ) (zero : Terms) (lines lines' : Slots) (cause : Cause) : Type 0 where
  pub same_basis : HaveSameBasis lines' lines
  pub apart : cause.row ≢ left
  pub terms : Terms
  pub line : slot_at lines cause.row ≡ Some terms
  pub number : Ratio
  pub named : coefficient_at enters terms ≡ Some number
  pub unfit : Unfit
  pub is_unfit : IsUnfit terms number zero unfit
  pub cause_is : cause ≡ entry_cause cause.row unfit

-- 1 over the entering position's number times the leaving position less its line
pub record IsSlotZero (slot : Option Terms) (leaves enters : ℕ) (zero : Terms) : Type 0 where
  pub terms : Terms
  pub slot_is : slot ≡ Some terms
  pub is_line : IsLine terms
  pub number : Ratio
  pub named : coefficient_at enters terms ≡ Some number
  pub lacks : coefficient_at leaves terms ≡ None
  pub is_zero : IsZeroLine leaves terms number zero

-- a quotient of the line doesn't fit
pub record IsUnfitPart (slot : Option Terms) (leaves enters : ℕ) (unfit : Unfit) : Type 0 where
  pub terms : Terms
  pub slot_is : slot ≡ Some terms
  pub number : Ratio
  pub named : coefficient_at enters terms ≡ Some number
  pub lacks : coefficient_at leaves terms ≡ None
  pub is_unfit : IsUnfitZero leaves terms number unfit
