-- Tableaus of a formula's rows, and the bases that a search for an assignment with values may come to.
use Rattle.std.specs.Prelude.{◌≡◌, ℕ, Bool, List, map}
use Rattle.std.specs.List.{All}
use Rattle.bt_frac.specs.Rows.{RowParts, columns_in, end_of}
use Rattle.bt_cnf.specs.Formulas.{FormulaParts}
use Rattle.bt_cnf.specs.Meeting.{MeetsClause}
use Rattle.bt_pivot.specs.SolvedForms.{IsSolvedForm, basis_of}
use Rattle.bt_pivot.specs.Tableaus.{TableauParts, positions_from}
use Rattle.bt_simplex.specs.Pivots.{IsBlandPivot, IsPivotedBy}
use Rattle.bt_pivot.specs.declared.basis.Pivot.{Pivot}

-- the rows of the atoms, in the order of their variables
abbrev pub atom_rows : FormulaParts → List RowParts
atom_rows f = map (λ a. a.1) f.atoms

-- the variables of the atoms, in ascending order
abbrev pub atom_vars : FormulaParts → List ℕ
atom_vars f = map (λ a. a.0) f.atoms

-- one more than the greatest column of the rows, or 0 where no row has a term
abbrev pub columns_of : FormulaParts → ℕ
columns_of f = end_of (columns_in (atom_rows f))

-- the tableau has the formula's rows and columns, and a basis with its solved form
pub record IsTableauOf (f : FormulaParts) (t : TableauParts) : Type 0 where
  pub rows : t.rows ≡ atom_rows f
  pub columns : t.columns ≡ columns_of f
  pub solved : IsSolvedForm t.rows t.columns t.slots

-- the rows that are bound are those of the atoms that are true under an assignment that gives every clause a true
-- literal
pub record IsGuided (f : FormulaParts) (t : TableauParts) : Type 0 where
  pub assignment : ℕ → Bool
  pub meets : All (MeetsClause assignment) f.clauses
  pub bound : t.bound ≡ map assignment (atom_vars f)

-- a basis is reachable: that of the rows, and one that a pivot of Bland's rule gives from a reachable basis, where the
-- bound rows are those of the atoms true under an assignment that gives every clause a true literal
pub data IsReachable (f : FormulaParts) : List ℕ → Type 0 where
  begins : IsReachable f (positions_from (columns_of f) (atom_rows f))
  steps_on : (t t' : TableauParts) (pivot : Pivot) → IsReachable f (basis_of t.slots) → IsTableauOf f t → IsGuided f t → IsBlandPivot t pivot
      → IsPivotedBy pivot t t' → IsReachable f (basis_of t'.slots)
