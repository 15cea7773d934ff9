-- The right answer to whether a weighted sum of rows is false.
use Rattle.std.specs.Prelude.{◌≡◌, ◌⊎◌, ℕ, ◌<◌, ◌≤◌, List, ◌∷◌, ◌++◌, length, Some, Bool, IsTrue, ◌↔◌, Result, Ok, Err}
use Rattle.std.specs.List.{All}
use Rattle.bt_frac.specs.Ratio.{Ratio}
use Rattle.bt_frac.specs.Rows.{RowParts}
use Rattle.bt_frac.specs.Values.{nothing}
use Rattle.bt_farkas.specs.FalseSums.{MayWeigh, IsFalseSum}
use Rattle.bt_farkas.specs.RunningSums.{IsWideStep, RunsTo}
use Rattle.bt_farkas.specs.WeightedRows.{part_of, pairs_at, number_of}
use Rattle.bt_farkas.specs.declared.places.Place.{Place}
use Rattle.bt_farkas.specs.declared.wide.SumFault.{SumFault}
use Rattle.bt_farkas.specs.declared.wide.SumFault.TheVariants.{Wide, Memory}
use Rattle.bt_farkas.specs.declared.wide.WideAt.{WideAt}

-- the sum at a place, formed from 0 on over the rows in their order, is wide at a row and at no row before it
pub record IsWidePlace (sum : List (RowParts × Ratio)) (row : ℕ) (place : Place) : Type 0 where
  pub front : List (RowParts × Ratio)
  pub here : RowParts × Ratio
  pub rest : List (RowParts × Ratio)
  pub split : sum ≡ front ++ here ∷ rest
  pub number : row ≡ length front
  pub part : Ratio
  pub part_is : part_of place here.0 ≡ Some part
  pub total : Ratio
  pub runs : RunsTo nothing (pairs_at place front) total
  pub wide : IsWideStep total (here.1, part)

-- the first row and column come before or with the second: the lower row, and in one row the lower column
abbrev pub ComesFirst : ℕ → ℕ → ℕ → ℕ → Type 0
ComesFirst row column other_row other_column = (row < other_row) ⊎ ((row ≡ other_row) × (column ≤ other_column))

-- the sum is wide at this row and column, and nowhere before
pub record IsFirstWide (sum : List (RowParts × Ratio)) (at : WideAt) : Type 0 where
  pub place : Place
  pub wide : IsWidePlace sum at.row place
  pub column : at.column ≡ number_of sum place
  pub first : (row : ℕ) (other : Place) → IsWidePlace sum row other → ComesFirst at.row at.column row (number_of sum other)

-- a row that is no equation has a negative weight, or the sum is wide nowhere, and the answer is whether the sum
-- is false; or no row has such a weight, and the sum is first wide there
abbrev pub IsFarkas : List (RowParts × Ratio) → Result Bool WideAt → Type 0
IsFarkas sum (Ok is_false) = (All MayWeigh sum → (row : ℕ) (place : Place) → IsWidePlace sum row place → ⊥) × (IsTrue is_false ↔ IsFalseSum sum)
IsFarkas sum (Err at) = All MayWeigh sum × IsFirstWide sum at

-- the same of a call that takes memory: want of it is no right answer
abbrev pub IsSumJudged : List (RowParts × Ratio) → Result Bool SumFault → Type 0
IsSumJudged sum (Ok is_false) = IsFarkas sum (Ok is_false)
IsSumJudged sum (Err (Wide at)) = IsFarkas sum (Err at)
IsSumJudged sum (Err Memory) = ⊥
