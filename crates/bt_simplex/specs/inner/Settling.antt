-- A number that takes the place of the infinitesimal, row by row and column by column.
use Rattle.std.specs.Prelude.{◌≡◌, ◌⊎◌, pos, ◌<ℤ◌, Option, Some, None, ℕ}
use Rattle.bt_frac.specs.Ratio.{Ratio, SameRatio, IsLowest, IsLess, IsAtMost, negated}
use Rattle.bt_frac.specs.Rows.{RowParts}
use Rattle.bt_frac.specs.Values.{plus, times}
use Rattle.bt_frac.specs.declared.delta.Delta.{Delta}
use Rattle.bt_pivot.specs.Tableaus.{TableauParts}
use Rattle.bt_pivot.specs.Points.{point_at}
use Rattle.bt_linear_forms.specs.Unfits.{IsNone}
use Rattle.bt_simplex.specs.Causes.{IsFalling, IsHalfRoom, IsNumber}
use Rattle.bt_linear_forms.specs.declared.unfit.Operation.{Operation}
use Rattle.bt_linear_forms.specs.declared.unfit.Operation.TheVariants.{Add, Mul, Div}
use Rattle.bt_pivot.specs.declared.causes.WidePlace.TheVariants.{Settle}
use Rattle.bt_pivot.specs.declared.causes.Cause.{Cause}

-- the row stands above its bound, and lower by a multiple of the infinitesimal
pub record IsFallingFrom (row : RowParts) (point : Delta) : Type 0 where
  pub above : IsLess row.bound point.value
  pub below : point.tiny.over <ℤ pos 0

-- the gap above the bound
abbrev pub gap_of : RowParts → Delta → Ratio
gap_of row point = plus point.value (negated row.bound)

-- half of what the infinitesimal may be
pub record IsRoom (row : RowParts) (point : Delta) (half : Ratio) : Type 0 where
  pub lowest : IsLowest half
  pub share : SameRatio (times half (times (record { over = pos 2; under = 1 }) (negated point.tiny))) (gap_of row point)

-- the numbers of an operation for it
abbrev pub IsRoomNumbers : RowParts → Delta → Operation → Ratio → Ratio → Type 0
IsRoomNumbers row point Add left right = (left ≡ point.value) × (right ≡ negated row.bound)
IsRoomNumbers row point Div left right = IsNumber left (gap_of row point) × (right ≡ negated point.tiny)
IsRoomNumbers row point Mul left right =
    IsLowest left × SameRatio (times left (negated point.tiny)) (gap_of row point) × (right ≡ record { over = pos 1; under = 2 })

-- one of them doesn't fit
pub record IsUnfitRoom (position : ℕ) (row : RowParts) (point : Delta) (cause : Cause) : Type 0 where
  pub lowest : IsLowest point.value × IsLowest point.tiny
  pub place : cause.place ≡ Settle
  pub row_is : cause.row ≡ position
  pub column : cause.column ≡ 0
  pub none : IsNone cause.operation cause.left cause.right
  pub numbers : IsRoomNumbers row point cause.operation cause.left cause.right

-- half of what a position lets the infinitesimal be, where it is a bound row that falls
abbrev pub IsRoomAt : TableauParts → ℕ → Option Ratio → Type 0
IsRoomAt t position None = IsFalling t position → ⊥
IsRoomAt t position (Some half) = IsLowest half × IsHalfRoom t position half

-- one of two numbers, and at most both
pub record IsLesser (first second lesser : Ratio) : Type 0 where
  pub is : (lesser ≡ first) ⊎ (lesser ≡ second)
  pub at_most_first : IsAtMost lesser first
  pub at_most_second : IsAtMost lesser second

-- the value of a column, with this number in place of the infinitesimal
pub record IsSettled (t : TableauParts) (epsilon : Ratio) (column : ℕ) (value : Ratio) : Type 0 where
  pub lowest : IsLowest value
  pub same : SameRatio value (plus (point_at t column).value (times epsilon (point_at t column).tiny))
