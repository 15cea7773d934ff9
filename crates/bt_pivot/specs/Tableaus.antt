-- A tableau: rows over columns, which of the rows are bound, and a basis with its solved form.
use Rattle.std.specs.Prelude.{◌≡◌, ◌+◌, ◌<◌, List, ◌∷◌, length, Bool, false, replicate, slice_set, ℕ, []}
use Rattle.std.specs.List.{All}
use Rattle.bt_frac.specs.Rows.{RowParts, IsRow}
use Rattle.bt_pivot.specs.SolvedForms.{Slots, IsSolvedForm, basis_of}

-- the rows and columns, for each row whether it is bound, and for each position of the basis its line
pub record TableauParts : Type 0 where
  pub rows : List RowParts
  pub columns : ℕ
  pub bound : List Bool
  pub slots : Slots

-- the rows name only columns that there are
abbrev pub AreOverColumns : ℕ → List RowParts → Type 0
AreOverColumns columns rows = All (λ row. All (λ t. t.0 < columns) row.terms) rows

-- the rows are rows over the columns, each is bound or not, and the lines are a solved form
pub record IsTableau (t : TableauParts) : Type 0 where
  pub rows : All IsRow t.rows
  pub over : AreOverColumns t.columns t.rows
  pub bound : length t.bound ≡ length t.rows
  pub solved : IsSolvedForm t.rows t.columns t.slots

-- this many positions from this one on, in ascending order
abbrev pub positions_from : ℕ → List RowParts → List ℕ
positions_from position [] = []
positions_from position (row ∷ rows) = position ∷ positions_from (position + 1) rows

-- a new tableau: no row is bound, and the basis is the positions of the rows
pub record IsNew (rows : List RowParts) (columns : ℕ) (t : TableauParts) : Type 0 where
  pub rows_are : t.rows ≡ rows
  pub columns_are : t.columns ≡ columns
  pub bound : t.bound ≡ replicate (length rows) false
  pub basis : basis_of t.slots ≡ positions_from columns rows

-- the same rows and basis, with this row bound or no longer bound
abbrev pub IsBoundAs : Bool → ℕ → TableauParts → TableauParts → Type 0
IsBoundAs bound row t t' = t' ≡ record t { bound = slice_set t.bound row bound }

-- the tableau with these slots
abbrev pub with_slots : TableauParts → Slots → TableauParts
with_slots t slots = record t { slots = slots }
