-- Positions, a basis, and its solved form: what stands at each position of the basis, by what stands at those outside
-- it.
use Rattle.std.specs.Prelude.{◌≡◌, ◌+◌, ◌-◌, ◌<◌, nat_lt, List, ◌∷◌, length, Option, Some, None, slice_index_or, if◌then◌else◌, ℕ, []}
use Rattle.std.specs.List.{All}
use Rattle.bt_frac.specs.Ratio.{Ratio, SameRatio}
use Rattle.bt_frac.specs.Rows.{RowParts}
use Rattle.bt_frac.specs.Values.{AreValues}
use Rattle.bt_farkas.specs.WeightedRows.{empty_row}
use Rattle.bt_linear_forms.specs.Lines.{Terms, IsLine, total}

-- for each position its line, where the position is in the basis
abbrev pub Slots : Type 0
Slots = List (Option Terms)

-- the positions of a basis from this one on, in ascending order
abbrev pub basis_from : ℕ → Slots → List ℕ
basis_from position [] = []
basis_from position (None ∷ slots) = basis_from (position + 1) slots
basis_from position (Some terms ∷ slots) = position ∷ basis_from (position + 1) slots

-- the basis, in ascending order
abbrev pub basis_of : Slots → List ℕ
basis_of slots = basis_from 0 slots

-- the slot of a position
abbrev pub slot_at : Slots → ℕ → Option Terms
slot_at slots position = slice_index_or slots position None

-- what stands at a position for values of the columns: below the number of columns that column's value, and from there
-- on the sum of each row's terms
abbrev pub at_position : List RowParts → ℕ → (ℕ → Ratio) → ℕ → Ratio
at_position rows columns values position =
    if nat_lt position columns then values position else total values (slice_index_or rows (position - columns) empty_row).terms

-- the position is one of these many and isn't in the basis
pub record IsOutside (slots : Slots) (position : ℕ) : Type 0 where
  pub within : position < length slots
  pub outside : slot_at slots position ≡ None

-- the lines of a basis give what stands there for all values of the columns, by positions outside the basis, at which
-- any numbers can stand
pub record IsSolvedForm (rows : List RowParts) (columns : ℕ) (slots : Slots) : Type 0 where
  pub positions : length slots ≡ columns + length rows
  pub basis : length (basis_of slots) ≡ length rows
  pub lines : (position : ℕ) (terms : Terms) → slot_at slots position ≡ Some terms → IsLine terms × All (λ t. IsOutside slots t.0) terms
  pub holds : (values : ℕ → Ratio) → AreValues values → (position : ℕ) (terms : Terms) → slot_at slots position ≡ Some terms
      → SameRatio (at_position rows columns values position) (total (at_position rows columns values) terms)
  pub free : (numbers : ℕ → Ratio) → AreValues numbers
      → (values : ℕ → Ratio) × AreValues values × ((position : ℕ) → IsOutside slots position → SameRatio (at_position rows columns values position) (numbers position))

-- the position is in the basis
abbrev pub InBasis : Slots → ℕ → Type 0
InBasis slots position = (terms : Terms) × (slot_at slots position ≡ Some terms)
