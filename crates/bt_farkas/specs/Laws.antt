-- What follows from a false sum of rows.
use Rattle.std.specs.Prelude.{ℕ, ◌<◌, List}
use Rattle.std.specs.List.{All}
use Rattle.bt_frac.specs.Ratio.{Ratio}
use Rattle.bt_frac.specs.Rows.{RowParts, IsRow}
use Rattle.bt_frac.specs.Values.{AreValues, RowHolds}
use Rattle.bt_farkas.specs.FalseSums.{IsFalseSum}

-- the row is one, and its weight has a positive denominator
pub record IsWeighted (r : RowParts × Ratio) : Type 0 where
  pub row : IsRow r.0
  pub weight : 0 < r.1.under

-- no values, which may be any fractions, meet all rows of a false sum
abbrev pub FalseSumsFail : Type 0
FalseSumsFail =
    (sum : List (RowParts × Ratio)) → All IsWeighted sum → IsFalseSum sum
    → (values : ℕ → Ratio) → AreValues values → All (λ r. RowHolds r.0 values) sum → ⊥
