-- The numbers of a solved form, and those of the operations that a pivot of its basis asks for.
use Rattle.std.specs.Prelude.{◌≡◌, ◌==◌, ◌&&◌, Option, Some, None, if◌then◌else◌, ℕ}
use Rattle.bt_frac.specs.Ratio.{Ratio, IsLowest, negated}
use Rattle.bt_frac.specs.Products.{IsProduct, IsDivision}
use Rattle.bt_frac.specs.Values.{nothing}
use Rattle.bt_farkas.specs.WeightedRows.{coefficient_at}
use Rattle.bt_linear_forms.specs.Lines.{one, Terms}
use Rattle.bt_pivot.specs.SolvedForms.{Slots, slot_at}
use Rattle.bt_pivot.specs.declared.basis.Pivot.{Pivot}
use Rattle.bt_linear_forms.specs.declared.unfit.Operation.{Operation}
use Rattle.bt_linear_forms.specs.declared.unfit.Operation.TheVariants.{Add, Mul, Div}

-- the number of a term, and 0 where there is none
abbrev pub number_or_zero : Option Ratio → Ratio
number_or_zero None = nothing
number_or_zero (Some number) = number

-- the number of a column in a line, and 0 where there is no line
abbrev pub number_in : ℕ → Option Terms → Ratio
number_in column None = nothing
number_in column (Some terms) = number_or_zero (coefficient_at column terms)

-- the number of the solved form for a position of the basis and one outside it
abbrev pub entry_at : Slots → ℕ → ℕ → Ratio
entry_at slots row column = number_in column (slot_at slots row)

-- the same, where the leaving position counts as one outside the basis, with the number -1 in its own line and 0 in
-- every other
abbrev pub pivot_entry : Slots → ℕ → ℕ → ℕ → Ratio
pivot_entry slots leaves row column = if (row == leaves) && (column == leaves) then negated one else entry_at slots row column

-- the fraction is the leaving position's number at the column, over that at the entering position
abbrev pub IsShare : Slots → Pivot → ℕ → Ratio → Type 0
IsShare slots pivot column share =
    IsLowest share × IsDivision (pivot_entry slots pivot.leaves pivot.leaves column) (entry_at slots pivot.leaves pivot.enters) share

-- the numbers of an operation for the lines after a pivot
abbrev pub IsEntryStep : Slots → Pivot → ℕ → ℕ → Operation → Ratio → Ratio → Type 0
IsEntryStep slots pivot row column Div left right =
    (row ≡ pivot.leaves) × (left ≡ pivot_entry slots pivot.leaves pivot.leaves column) × (right ≡ entry_at slots pivot.leaves pivot.enters)
IsEntryStep slots pivot row column Mul left right = (left ≡ entry_at slots row pivot.enters) × IsShare slots pivot column right
IsEntryStep slots pivot row column Add left right =
    (left ≡ pivot_entry slots pivot.leaves row column)
    × ((share : Ratio) × IsShare slots pivot column share
    × ((product : Ratio) × IsLowest product × IsProduct (entry_at slots row pivot.enters) share product × (right ≡ negated product)))
