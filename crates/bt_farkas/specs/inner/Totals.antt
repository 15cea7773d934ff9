-- Sums at one place, and the columns of picked rows.
use Rattle.std.specs.Prelude.{◌≡◌, ℕ, ◌<◌, ◌≤◌, List, length, take, Option, None, Some, Result, Ok, Err, Contains, min, IfSome, IfNone, IsTrue, ◌↔◌, ◌⊎◌, ◌+◌, Bool, pos}
use Rattle.std.specs.List.{All}
use Rattle.bt_frac.specs.Ratio.{Ratio}
use Rattle.bt_frac.specs.Rows.{RowParts}
use Rattle.bt_frac.specs.Values.{nothing}
use Rattle.bt_farkas.specs.FalseSums.{Cancels}
use Rattle.bt_farkas.specs.Farkas.{IsWidePlace}
use Rattle.bt_farkas.specs.RunningSums.{RunsTo}
use Rattle.bt_farkas.specs.WeightedRows.{pairs_at}
use Rattle.bt_farkas.specs.declared.places.Place.{Place}
use Rattle.bt_farkas.specs.declared.places.Place.TheVariants.{Column}
use Rattle.bt_farkas.specs.declared.columns.Columns.{Columns}

-- each pick is the place of a row
abbrev pub ArePicks : List RowParts → List ℕ → Type 0
ArePicks rows picks = All (λ pick. pick < length rows) picks

-- the sum at a place over the first rows, so many as the limit says, or the first of them at which it is wide
abbrev pub IsTotal : List (RowParts × Ratio) → Place → ℕ → Result Ratio ℕ → Type 0
IsTotal sum place limit (Ok total) = RunsTo nothing (pairs_at place (take limit sum)) total
IsTotal sum place limit (Err row) = (row < limit) × IsWidePlace sum row place

-- the answer is the least of these columns that is at least this, or none is
abbrev pub IsLeastFrom : ℕ → List ℕ → Option ℕ → Type 0
IsLeastFrom least columns (Some column) = (least ≤ column) × Contains columns column × All (λ other. least ≤ other → column ≤ other) columns
IsLeastFrom least columns None = All (λ other. other < least) columns

-- the lesser of two columns, where there are two
abbrev pub lesser_of : Option ℕ → Option ℕ → Option ℕ
lesser_of None second = second
lesser_of (Some first) None = Some first
lesser_of (Some first) (Some second) = Some (min first second)

-- a column is the first that is wide at a row
pub record IsFirstColumn (sum : List (RowParts × Ratio)) (row column : ℕ) : Type 0 where
  pub wide : IsWidePlace sum row (Column column)
  pub first : (other : ℕ) → other < column → IsWidePlace sum row (Column other) → ⊥

-- of the columns below the end none is wide at a row before the limit; where none is wide at all, the limit is the
-- number of rows, and the flag tells whether they cancel; where one is wide, it is the first at the limit's row; and
-- the end is 0 or one more than a column of these
pub record AreColumnsBelow (sum : List (RowParts × Ratio)) (named : List ℕ) (columns : Columns) : Type 0 where
  pub unwide : (row column : ℕ) → row < columns.limit → column < columns.end → IsWidePlace sum row (Column column) → ⊥
  pub within : columns.limit ≤ length sum
  pub none : IfNone columns.wide ((columns.limit ≡ length sum) × (IsTrue columns.cancel ↔ ((column : ℕ) → column < columns.end → Cancels sum column)))
  pub some : IfSome columns.wide (λ column. (column < columns.end) × IsFirstColumn sum columns.limit column)
  pub reached : (columns.end ≡ 0) ⊎ ((column : ℕ) × Contains named column × (columns.end ≡ column + 1))

-- the same of all columns that the rows name
abbrev pub AreColumns : List (RowParts × Ratio) → List ℕ → Columns → Type 0
AreColumns sum named columns = AreColumnsBelow sum named columns × All (λ column. column < columns.end) named

-- what is known of the columns after one more, and what it adds up to: whether it cancels too, or a row at which it is
-- wide, before the limit
abbrev pub IsAfterColumn : Columns → ℕ → Result Ratio ℕ → Columns → Type 0
IsAfterColumn columns column (Ok sum) next =
    (cancel : Bool) × (IsTrue cancel ↔ (IsTrue columns.cancel × (sum.over ≡ pos 0)))
    × (next ≡ record { cancel = cancel; wide = columns.wide; limit = columns.limit; end = column + 1 })
IsAfterColumn columns column (Err row) next = next ≡ record { cancel = columns.cancel; wide = Some column; limit = row; end = column + 1 }
