-- How a formula is kept: where the row of a variable stands.
use Rattle.std.specs.Prelude.{◌≡◌, ◌≢◌, ℕ, ◌<◌, ◌+◌, List, [], ◌∷◌, length, Option, None, Some, slice_index, slice_index_or}
use Rattle.std.specs.List.{All, zip}
use Rattle.bt_frac.specs.Rows.{RowParts, columns_in, end_of}
use Rattle.bt_cnf.specs.Formulas.{FormulaParts, IsFormula}
use Rattle.bt_cnf.specs.declared.literal.Lit.{Lit}

-- of these variables the one at this place is the variable, or none is
abbrev pub IsPlaceOf : List ℕ → ℕ → Option ℕ → Type 0
IsPlaceOf vars var (Some place) = (place < length vars) × (slice_index vars place ≡ var)
IsPlaceOf vars var None = All (λ other. other ≢ var) vars

-- for each variable, the place of its row among the atoms' rows, where it is an atom
abbrev pub ArePlaces : List ℕ → List (Option ℕ) → Type 0
ArePlaces vars places = (var : ℕ) → var < length places → IsPlaceOf vars var (slice_index_or places var None)

-- the numbers, from this one on, of the variables that have the place of a row
abbrev pub atoms_from : ℕ → List (Option ℕ) → List ℕ
atoms_from n [] = []
atoms_from n (None ∷ places) = atoms_from (n + 1) places
atoms_from n (Some place ∷ places) = n ∷ atoms_from (n + 1) places

-- the variables that have the place of a row, in ascending order
abbrev pub atoms_in : List (Option ℕ) → List ℕ
atoms_in places = atoms_from 0 places

-- the formula of as many variables as places, of these clauses, and of atoms with rows
abbrev pub parts_of : List (Option ℕ) → List (List Lit) → List ℕ → List RowParts → FormulaParts
parts_of places clauses atoms rows = record { vars = length places; clauses = clauses; atoms = zip atoms rows }

-- these fields keep a formula: each atom has a row, each variable the place of its row, and the end of all columns is
-- known
pub record IsStored (places : List (Option ℕ)) (clauses : List (List Lit)) (atoms : List ℕ) (rows : List RowParts) (columns : ℕ) : Type 0 where
  pub formula : IsFormula (parts_of places clauses atoms rows)
  pub paired : length atoms ≡ length rows
  pub named : ArePlaces atoms places
  pub end : columns ≡ end_of (columns_in rows)
