-- Operations of sums of weighted rows whose results leave 128 bits.
use Rattle.std.specs.Prelude.{◌≡◌, List, ℕ}
use Rattle.bt_frac.specs.Ratio.{Ratio}
use Rattle.bt_frac.specs.Rows.{RowParts}
use Rattle.bt_farkas.specs.WeightedRows.{number_of}
use Rattle.bt_farkas.specs.declared.places.Place.{Place}
use Rattle.bt_farkas.specs.declared.wide.WideAt.{WideAt}
use Rattle.bt_linear_forms.specs.Unfits.{IsNone}
use Rattle.bt_simplex.specs.Causes.{IsRowStep}
use Rattle.bt_pivot.specs.declared.causes.WidePlace.TheVariants.{Lemma}
use Rattle.bt_linear_forms.specs.declared.unfit.Unfit.{Unfit}
use Rattle.bt_pivot.specs.declared.causes.Cause.{Cause}

-- the cause of a row of a sum
abbrev pub lemma_cause : ℕ → Unfit → Cause
lemma_cause row unfit =
    record { place = Lemma; row = row; column = unfit.column; operation = unfit.operation; left = unfit.left; right = unfit.right }

-- the operation is one of the sum at the place and at this row, and it is None
pub record IsUnfitAt (sum : List (RowParts × Ratio)) (at : WideAt) (place : Place) (cause : Cause) : Type 0 where
  pub lemma : cause.place ≡ Lemma
  pub row : cause.row ≡ at.row
  pub column : cause.column ≡ at.column
  pub none : IsNone cause.operation cause.left cause.right
  pub step : IsRowStep sum at.row place cause.operation cause.left cause.right

-- the same at the place of the column
abbrev pub IsUnfitSum : List (RowParts × Ratio) → WideAt → Cause → Type 0
IsUnfitSum sum at cause = (place : Place) × (at.column ≡ number_of sum place) × IsUnfitAt sum at place cause
