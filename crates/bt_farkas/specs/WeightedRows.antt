-- Sums of rows, each times a weight, column by column.
use Rattle.std.specs.Prelude.{ℕ, ◌==◌, List, [], ◌∷◌, map, Option, None, Some, if◌then◌else◌, slice_index_or}
use Rattle.std.specs.List.{filter_map, zip}
use Rattle.std.specs.Option.{option_map}
use Rattle.bt_frac.specs.Ratio.{Ratio}
use Rattle.bt_frac.specs.Rows.{RowParts, columns_in, end_of}
use Rattle.bt_frac.specs.Values.{nothing}
use Rattle.bt_frac.specs.declared.relation.Relation.TheVariants.{Equal}
use Rattle.bt_farkas.specs.declared.places.Place.{Place}
use Rattle.bt_farkas.specs.declared.places.Place.TheVariants.{Column, Bound}

-- the row that says that 0 equals 0
abbrev pub empty_row : RowParts
empty_row = record { terms = []; relation = Equal; bound = nothing }

-- the rows at the picked places, in the order of the picks
abbrev pub picked : List RowParts → List ℕ → List RowParts
picked rows picks = map (λ pick. slice_index_or rows pick empty_row) picks

-- the picked rows, each with the weight at its pick's place
abbrev pub weighted : List RowParts → List ℕ → List Ratio → List (RowParts × Ratio)
weighted rows picks weights = zip (picked rows picks) weights

-- the coefficient of a column, where the terms name it
abbrev pub coefficient_at : ℕ → List (ℕ × Ratio) → Option Ratio
coefficient_at column [] = None
coefficient_at column (term ∷ terms) = if term.0 == column then Some term.1 else coefficient_at column terms

-- what stands in a row at a place
abbrev pub part_of : Place → RowParts → Option Ratio
part_of (Column column) row = coefficient_at column row.terms
part_of Bound row = Some row.bound

-- of each row that has something at a place, its weight and what it has there
abbrev pub pairs_at : Place → List (RowParts × Ratio) → List (Ratio × Ratio)
pairs_at place sum = filter_map (λ r. option_map (λ part. (r.1, part)) (part_of place r.0)) sum

-- the number of a place: that of its column, or for the bound the one after the greatest column of all rows
abbrev pub number_of : List (RowParts × Ratio) → Place → ℕ
number_of sum (Column column) = column
number_of sum Bound = end_of (columns_in (map (λ r. r.0) sum))
