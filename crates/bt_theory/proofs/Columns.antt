-- The columns of rows are below the end of all columns.
use Rattle.std.proofs.Common.{ℕ, ◌<◌, List, [], ◌∷◌, get_or, arith}
use Rattle.std.specs.List.{All}
use Rattle.std.proofs.lemmas.List.Elements.{All-nil, All-cons, All-head, All-tail, All-contains, Contains-append_left, Contains-append_right, Contains-get_or, All-weaker}
use Rattle.bt_frac.specs.Ratio.{Ratio}
use Rattle.bt_frac.specs.Rows.{RowParts, columns_in, columns_of, end_of}
use Rattle.bt_pivot.specs.Tableaus.{AreOverColumns}

below_end : (columns : List ℕ) → All (λ c. c < end_of columns) columns
below_end [] = All-nil (λ c. c < end_of [])
below_end (x ∷ columns) =
    All-cons (λ c. c < end_of (x ∷ columns)) x columns (omega arith) (All-weaker (λ c. c < end_of columns) (λ c. c < end_of (x ∷ columns)) (λ c l. omega (arith, l)) columns (below_end columns))

terms_below : (n : ℕ) (terms : List (ℕ × Ratio)) → All (λ c. c < n) (columns_of terms) → All (λ t. t.0 < n) terms
terms_below n [] h = All-nil (λ t. t.0 < n)
terms_below n (t ∷ terms) h =
    All-cons (λ t. t.0 < n) t terms (All-head (λ c. c < n) t.0 (columns_of terms) h) (terms_below n terms (All-tail (λ c. c < n) t.0 (columns_of terms) h))

rows_below : (n : ℕ) (rows : List RowParts) → All (λ c. c < n) (columns_in rows) → AreOverColumns n rows
rows_below n [] h = All-nil (λ row. All (λ t. t.0 < n) row.terms)
rows_below n (row ∷ rows) h =
    All-cons (λ row. All (λ t. t.0 < n) row.terms) row rows
    (terms_below n row.terms (λ k d l. All-contains (λ c. c < n) (columns_in (row ∷ rows)) (get_or (columns_of row.terms) k d) h
    (Contains-append_left (columns_of row.terms) (columns_in rows) (get_or (columns_of row.terms) k d) (Contains-get_or (columns_of row.terms) k d l))))
    (rows_below n rows (λ k d l. All-contains (λ c. c < n) (columns_in (row ∷ rows)) (get_or (columns_in rows) k d) h
    (Contains-append_right (columns_of row.terms) (columns_in rows) (get_or (columns_in rows) k d) (Contains-get_or (columns_in rows) k d l))))

-- rows are over as many columns as their end tells
pub over_end : (rows : List RowParts) → AreOverColumns (end_of (columns_in rows)) rows
over_end rows = rows_below (end_of (columns_in rows)) rows (below_end (columns_in rows))
