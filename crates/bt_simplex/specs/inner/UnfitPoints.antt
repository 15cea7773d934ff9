-- Points, part by part, and operations of them whose results leave 128 bits.
use Rattle.std.specs.Prelude.{◌≡◌, ◌⊎◌, Some, ℕ}
use Rattle.bt_frac.specs.Ratio.{Ratio, IsLowest, IsSum, CanAdd}
use Rattle.bt_frac.specs.Products.{IsProduct}
use Rattle.bt_frac.specs.declared.delta.Delta.{Delta}
use Rattle.bt_linear_forms.specs.Lines.{Terms}
use Rattle.bt_linear_forms.specs.Unfits.{IsNone, IsUnfitHere}
use Rattle.bt_simplex.specs.Causes.{IsSumStep}
use Rattle.bt_pivot.specs.declared.causes.WidePlace.TheVariants.{Value}
use Rattle.bt_linear_forms.specs.declared.unfit.Unfit.{Unfit}
use Rattle.bt_pivot.specs.declared.causes.Cause.{Cause}

-- the sum with the product of a number and a part
pub record AddsPart (sum number part next : Ratio) : Type 0 where
  pub product : Ratio
  pub product_lowest : IsLowest product
  pub is_product : IsProduct number part product
  pub is_sum : IsSum sum product next
  pub fits : CanAdd sum product
  pub lowest : IsLowest next

-- the same of both parts of a point
pub record AddsTerm (point sum : Delta) (number : Ratio) (next : Delta) : Type 0 where
  pub value : AddsPart sum.value number point.value next.value
  pub tiny : AddsPart sum.tiny number point.tiny next.tiny

-- a product or a sum of one part doesn't fit
abbrev pub IsUnfitTerm : Delta → Delta → ℕ × Ratio → Unfit → Type 0
IsUnfitTerm point sum term unfit =
    (IsLowest sum.value × IsUnfitHere term.0 (Some sum.value) term.1 point.value unfit)
    ⊎ (IsLowest sum.tiny × IsUnfitHere term.0 (Some sum.tiny) term.1 point.tiny unfit)

-- the cause of a position
abbrev pub value_cause : ℕ → Unfit → Cause
value_cause row unfit =
    record { place = Value; row = row; column = unfit.column; operation = unfit.operation; left = unfit.left; right = unfit.right }

-- where its positions rest like this, a product or a sum of the position's line doesn't fit
pub record IsUnfitPoint (rest : ℕ → Delta) (position : ℕ) (terms : Terms) (cause : Cause) : Type 0 where
  pub place : cause.place ≡ Value
  pub row : cause.row ≡ position
  pub none : IsNone cause.operation cause.left cause.right
  pub step :
      IsSumStep (λ q. (rest q).value) terms cause.column cause.operation cause.left cause.right
      ⊎ IsSumStep (λ q. (rest q).tiny) terms cause.column cause.operation cause.left cause.right
