-- Operations of lines whose results leave 128 bits.
use Rattle.std.specs.Prelude.{◌≡◌, ◌≢◌, ◌⊎◌, ℕ, pos, Option, Some}
use Rattle.bt_frac.specs.Ratio.{Ratio, IsLowest, IsWide, negated}
use Rattle.bt_frac.specs.Products.{IsProduct, IsDivision}
use Rattle.bt_farkas.specs.WeightedRows.{coefficient_at}
use Rattle.bt_linear_forms.specs.Lines.{one, Terms}
use Rattle.bt_linear_forms.specs.declared.unfit.Operation.{Operation}
use Rattle.bt_linear_forms.specs.declared.unfit.Operation.TheVariants.{Add, Mul, Div}
use Rattle.bt_linear_forms.specs.declared.unfit.Unfit.{Unfit}

-- the operation is None for these numbers
abbrev pub IsNone : Operation → Ratio → Ratio → Type 0
IsNone Add left right = IsWide left right
IsNone Mul left right = (result : Ratio) → IsLowest result → IsProduct left right result → ⊥
IsNone Div left right = (right.over ≢ pos 0) × ((result : Ratio) → IsLowest result → IsDivision left right result → ⊥)

-- the numbers of the product of a factor and a number, or of the sum of a number, where there is one, and that product
abbrev pub IsUnfitStep : Option Ratio → Ratio → Ratio → Operation → Ratio → Ratio → Type 0
IsUnfitStep number factor by Mul left right = (left ≡ factor) × (right ≡ by)
IsUnfitStep number factor by Add left right = (number ≡ Some left) × IsLowest right × IsProduct factor by right
IsUnfitStep number factor by Div left right = ⊥

-- at a position a product or a sum doesn't fit
abbrev pub IsUnfitHere : ℕ → Option Ratio → Ratio → Ratio → Unfit → Type 0
IsUnfitHere position number factor by unfit =
    (unfit.column ≡ position) × IsNone unfit.operation unfit.left unfit.right × IsUnfitStep number factor by unfit.operation unfit.left unfit.right

-- where a number times the second line is added to the first, a product or a sum doesn't fit
abbrev pub IsUnfit : Terms → Ratio → Terms → Unfit → Type 0
IsUnfit left factor right unfit =
    (by : Ratio) × (coefficient_at unfit.column right ≡ Some by) × IsUnfitHere unfit.column (coefficient_at unfit.column left) factor by unfit

-- the quotient of two numbers doesn't fit
abbrev pub IsUnfitShare : ℕ → Ratio → Ratio → Unfit → Type 0
IsUnfitShare position number by unfit =
    (unfit ≡ record { column = position; operation = Div; left = number; right = by }) × IsNone Div number by

-- the quotient of a line's number doesn't fit
abbrev pub IsUnfitTerm : Terms → Ratio → Unfit → Type 0
IsUnfitTerm terms by unfit = (number : Ratio) × (coefficient_at unfit.column terms ≡ Some number) × IsUnfitShare unfit.column number by unfit

-- the same, or that of -1, which is the position's own number
abbrev pub IsUnfitZero : ℕ → Terms → Ratio → Unfit → Type 0
IsUnfitZero position terms by unfit = IsUnfitTerm terms by unfit ⊎ IsUnfitShare position (negated one) by unfit
