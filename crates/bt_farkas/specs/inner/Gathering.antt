-- The terms of the rows of a sum, in the order of their columns.
use Rattle.std.specs.Prelude.{◌≡◌, ◌≢◌, ℕ, ◌+◌, ◌-◌, ◌^◌, ◌<◌, ◌≤◌, ◌==◌, List, [], ◌∷◌, ◌++◌, length, map, take, Result, Ok, Err, slice_index_or}
use Rattle.std.specs.List.{All, filter}
use Rattle.std.specs.List.Sorted.{IsNonDecreasingBy}
use Rattle.bt_frac.specs.Ratio.{Ratio}
use Rattle.bt_frac.specs.Rows.{RowParts, HaveColumns}
use Rattle.bt_frac.specs.Values.{nothing}
use Rattle.bt_farkas.specs.RunningSums.{IsWideStep, RunsTo}
use Rattle.bt_farkas.specs.declared.gathering.Entry.{Entry}

-- the terms of the row at a place
abbrev pub entries_of : ℕ → List (ℕ × Ratio) → List Entry
entries_of place terms = map (λ t. record { column = t.0; row = place; coefficient = t.1 }) terms

-- the terms of rows, of which the first has this place
abbrev pub entries_from : ℕ → List RowParts → List Entry
entries_from place [] = []
entries_from place (row ∷ rows) = entries_of place row.terms ++ entries_from (place + 1) rows

-- those of a column
abbrev pub entries_at : ℕ → List Entry → List Entry
entries_at column entries = filter (λ e. e.column == column) entries

-- these are the terms of the rows: the columns never fall, and those of a column are in the order of the rows, in
-- each of which the columns ascend
pub record AreGathered (rows : List RowParts) (entries : List Entry) : Type 0 where
  pub rise : IsNonDecreasingBy (λ e. e.column) entries
  pub each : (column : ℕ) → entries_at column entries ≡ entries_at column (entries_from 0 rows)
  pub rows_below : All (λ e. e.row < length rows) entries
  pub columns_below : All (λ e. e.column < 2 ^ 64 - 1) entries
  pub ascend : All (λ row. HaveColumns row.terms) rows

-- the weights of the rows of a sum, of which the first has this place, stand at their places
abbrev pub HaveWeights : List Ratio → ℕ → List (RowParts × Ratio) → Type 0
HaveWeights weights place [] = Unit {0}
HaveWeights weights place (r ∷ sum) = (slice_index_or weights place nothing ≡ r.1) × HaveWeights weights (place + 1) sum

-- these entries are the terms of the rows of a sum, and these weights are its
pub record AreEntriesOf (sum : List (RowParts × Ratio)) (weights : List Ratio) (entries : List Entry) : Type 0 where
  pub gathered : AreGathered (map (λ r. r.0) sum) entries
  pub weights_are : HaveWeights weights 0 sum
  pub counted : length sum ≡ length weights

-- so many entries from the first on are of this column
pub record IsRunLength (column : ℕ) (entries : List Entry) (size : ℕ) : Type 0 where
  pub within : size ≤ length entries
  pub same : All (λ e. e.column ≡ column) (take size entries)
  pub other : (d : Entry) → size < length entries → (slice_index_or entries size d).column ≢ column

-- the weight of an entry's row, and its coefficient
abbrev pub pair_of : List Ratio → Entry → Ratio × Ratio
pair_of weights e = (slice_index_or weights e.row nothing, e.coefficient)

-- the entries of a run whose rows are below a limit are its first, and their sum leads to the total
pub record RunsBelow (weights : List Ratio) (run : List Entry) (limit : ℕ) (total : Ratio) : Type 0 where
  pub front : List Entry
  pub rest : List Entry
  pub split : run ≡ front ++ rest
  pub below : All (λ e. e.row < limit) front
  pub stops : (e : Entry) (more : List Entry) → rest ≡ e ∷ more → limit ≤ e.row
  pub runs : RunsTo nothing (map (pair_of weights) front) total

-- the sum of a run is wide at the entry of a row
pub record IsWideRun (weights : List Ratio) (run : List Entry) (row : ℕ) : Type 0 where
  pub front : List Entry
  pub here : Entry
  pub rest : List Entry
  pub split : run ≡ front ++ here ∷ rest
  pub number : row ≡ here.row
  pub total : Ratio
  pub runs : RunsTo nothing (map (pair_of weights) front) total
  pub wide : IsWideStep total (pair_of weights here)

-- the sum of a run over the rows below a limit, or the first of them at which it is wide
abbrev pub IsRunTotal : List Ratio → List Entry → ℕ → Result Ratio ℕ → Type 0
IsRunTotal weights run limit (Ok total) = RunsBelow weights run limit total
IsRunTotal weights run limit (Err row) = (row < limit) × IsWideRun weights run row
