-- The right answer to whether a row holds of values.
use Rattle.std.specs.Prelude.{◌≡◌, ℕ, List, ◌∷◌, ◌++◌, Bool, IsTrue, ◌↔◌, Result, Ok, Err}
use Rattle.bt_frac.specs.Ratio.{Ratio}
use Rattle.bt_frac.specs.Rows.{RowParts}
use Rattle.bt_frac.specs.Values.{nothing, value_in, valued, RowHolds}
use Rattle.bt_farkas.specs.RunningSums.{IsWideStep, RunsTo}
use Rattle.bt_farkas.specs.declared.wide.WideAt.{WideAt}

-- the sum of these terms at values, formed from 0 on, is wide at a column and at no column before it
pub record IsWideColumn (terms : List (ℕ × Ratio)) (values : ℕ → Ratio) (column : ℕ) : Type 0 where
  pub front : List (ℕ × Ratio)
  pub coefficient : Ratio
  pub rest : List (ℕ × Ratio)
  pub split : terms ≡ front ++ (column, coefficient) ∷ rest
  pub sum : Ratio
  pub runs : RunsTo nothing (valued values front) sum
  pub wide : IsWideStep sum (coefficient, values column)

-- the sum fits and the answer is whether the row holds of the values; or the sum is wide there
abbrev pub IsEvaluation : RowParts → List Ratio → Result Bool WideAt → Type 0
IsEvaluation row values (Ok holds) =
    ((sum : Ratio) × RunsTo nothing (valued (value_in values) row.terms) sum) × (IsTrue holds ↔ RowHolds row (value_in values))
IsEvaluation row values (Err at) = (at.row ≡ 0) × IsWideColumn row.terms (value_in values) at.column
