-- What Bland's rule says of a tableau at a basis.
use Rattle.std.specs.Prelude.{◌≡◌, ◌≢◌, ◌⊎◌, Option, Some, None, ℕ}
use Rattle.bt_frac.specs.Ratio.{Ratio}
use Rattle.bt_frac.specs.Rows.{RowParts}
use Rattle.bt_frac.specs.declared.delta.Delta.{Delta}
use Rattle.bt_frac.specs.declared.relation.Relation.TheVariants.{Equal}
use Rattle.bt_farkas.specs.WeightedRows.{coefficient_at}
use Rattle.bt_linear_forms.specs.Lines.{Terms}
use Rattle.bt_pivot.specs.Tableaus.{TableauParts}
use Rattle.bt_pivot.specs.Points.{bound_row}
use Rattle.bt_simplex.specs.Causes.{IsCause}
use Rattle.bt_simplex.specs.Pivots.{MovesTowards, IsLeast, IsBlandPivot, IsMet, IsStuckAt}
use Rattle.bt_simplex.specs.declared.bland.Least.{Least}
use Rattle.bt_simplex.specs.declared.bland.Least.TheVariants.{At, Nowhere, Wide as NoLeast}
use Rattle.bt_simplex.specs.declared.bland.Next.{Next}
use Rattle.bt_simplex.specs.declared.bland.Next.TheVariants.{Pivot as Pivots, Met, Stuck, Wide}

-- the position may be moved: it is a column or a row that isn't bound, or a bound row that is no equation, and raising
-- it moves the failing row towards its bound value
abbrev pub MayEnter : TableauParts → RowParts → Delta → ℕ → Ratio → Type 0
MayEnter t row point enters number =
    (bound_row t enters ≡ None) ⊎ ((other : RowParts) × (bound_row t enters ≡ Some other) × (other.relation ≢ Equal) × MovesTowards row point number)

-- the terms name the position with a number of this property
abbrev pub Names : Terms → (ℕ → Ratio → Type 0) → ℕ → Type 0
Names terms P position = (number : Ratio) × (coefficient_at position terms ≡ Some number) × P position number

-- the least position of the property, or none where no position has it
abbrev pub IsLeastOf : (ℕ → Type 0) → Option ℕ → Type 0
IsLeastOf P (Some position) = IsLeast P position
IsLeastOf P None = (position : ℕ) → P position → ⊥

-- the same, or why a number of the tableau's basis doesn't fit
abbrev pub Finds : TableauParts → (ℕ → Type 0) → Least → Type 0
Finds t P (At position) = IsLeast P position
Finds t P Nowhere = (position : ℕ) → P position → ⊥
Finds t P (NoLeast cause) = IsCause t cause

-- Bland's pivot, or how the basis is final, or why a number of it doesn't fit
abbrev pub IsNext : TableauParts → Next → Type 0
IsNext t (Pivots pivot) = IsBlandPivot t pivot
IsNext t Met = IsMet t
IsNext t (Stuck position) = IsStuckAt t position
IsNext t (Wide cause) = IsCause t cause
