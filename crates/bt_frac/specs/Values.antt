-- What a row says of values of the columns.
use Rattle.std.specs.Prelude.{ℕ, ◌<◌, ◌*◌, pos, ◌+ℤ◌, ◌*ℤ◌, List, [], ◌∷◌, map, slice_index_or}
use Rattle.bt_frac.specs.Ratio.{Ratio, SameRatio, IsLess, IsAtMost}
use Rattle.bt_frac.specs.Rows.{RowParts}
use Rattle.bt_frac.specs.declared.relation.Relation.{Relation}
use Rattle.bt_frac.specs.declared.relation.Relation.TheVariants.{AtLeast, Above, Equal}

-- the fraction 0
abbrev pub nothing : Ratio
nothing = record { over = pos 0; under = 1 }

-- the sum of two fractions, over the product of their denominators
abbrev pub plus : Ratio → Ratio → Ratio
plus a b = record { over = a.over *ℤ pos b.under +ℤ b.over *ℤ pos a.under; under = a.under * b.under }

-- the product of two fractions, over the product of their denominators
abbrev pub times : Ratio → Ratio → Ratio
times a b = record { over = a.over *ℤ b.over; under = a.under * b.under }

-- the sum of the products of pairs of fractions
abbrev pub sum_of_products : List (Ratio × Ratio) → Ratio
sum_of_products [] = nothing
sum_of_products (pair ∷ pairs) = plus (times pair.0 pair.1) (sum_of_products pairs)

-- the fraction that each column has as its value is over a positive denominator
abbrev pub AreValues : (ℕ → Ratio) → Type 0
AreValues values = (column : ℕ) → 0 < (values column).under

-- the values of a list, one for each column from 0 on, and 0 past its end
abbrev pub value_in : List Ratio → ℕ → Ratio
value_in values column = slice_index_or values column nothing

-- the coefficients of a row, each with the value of its column
abbrev pub valued : (ℕ → Ratio) → List (ℕ × Ratio) → List (Ratio × Ratio)
valued values terms = map (λ t. (t.1, values t.0)) terms

-- a sum is at least, above or equal to a bound
abbrev pub Stands : Relation → Ratio → Ratio → Type 0
Stands AtLeast sum bound = IsAtMost bound sum
Stands Above sum bound = IsLess bound sum
Stands Equal sum bound = SameRatio sum bound

-- the row holds of the values: the sum of its coefficients, each times the value of its column, stands to its bound as
-- it says
abbrev pub RowHolds : RowParts → (ℕ → Ratio) → Type 0
RowHolds row values = Stands row.relation (sum_of_products (valued values row.terms)) row.bound
