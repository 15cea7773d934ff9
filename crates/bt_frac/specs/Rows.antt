-- Rows: a sum of fractions times columns, and how it stands to a bound.
use Rattle.std.specs.Prelude.{◌≡◌, ℕ, ◌+◌, List, [], ◌∷◌, map, max, Option, None, Some}
use Rattle.std.specs.List.{All, flat_map}
use Rattle.bt_frac.specs.Ratio.{Ratio, IsLowest}
use Rattle.bt_frac.specs.Columns.{AreColumnsFrom}
use Rattle.bt_frac.specs.declared.relation.Relation.{Relation}

-- the columns with their coefficients, the relation, and the bound
pub record RowParts : Type 0 where
  pub terms : List (ℕ × Ratio)
  pub relation : Relation
  pub bound : Ratio

-- the columns of terms, in their order
abbrev pub columns_of : List (ℕ × Ratio) → List ℕ
columns_of terms = map (λ t. t.0) terms

-- the columns of all rows
abbrev pub columns_in : List RowParts → List ℕ
columns_in rows = flat_map (λ row. columns_of row.terms) rows

-- one more than the greatest of these columns, or 0 where there is none
abbrev pub end_of : List ℕ → ℕ
end_of [] = 0
end_of (column ∷ columns) = max (column + 1) (end_of columns)

-- the columns ascend strictly, and none is the greatest number of 64 bits
abbrev pub HaveColumns : List (ℕ × Ratio) → Type 0
HaveColumns terms = AreColumnsFrom 0 (columns_of terms)

-- the columns are those of a row, and each fraction is in lowest terms
pub record IsRow (r : RowParts) : Type 0 where
  pub columns : HaveColumns r.terms
  pub coefficients : All (λ t. IsLowest t.1) r.terms
  pub bound : IsLowest r.bound

-- there is a row of these parts where the columns are those of a row, and otherwise none
abbrev pub IsRowOf : RowParts → Option RowParts → Type 0
IsRowOf parts (Some row) = IsRow row × (row ≡ parts)
IsRowOf parts None = HaveColumns parts.terms → ⊥
