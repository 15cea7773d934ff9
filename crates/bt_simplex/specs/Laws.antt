-- What rows and a basis settle, and how many pivots there can be.
use Rattle.std.specs.Prelude.{◌≡◌, ◌≢◌, ◌↔◌, ◌≤◌, List, ◌∷◌, length, ℕ}
use Rattle.std.specs.List.{All, AllPairs}
use Rattle.bt_frac.specs.Rows.{RowParts, IsRow}
use Rattle.bt_simplex.specs.Counting.{IsAscendingOf, ascending_lists}
use Rattle.bt_pivot.specs.SolvedForms.{Slots, IsSolvedForm, basis_of, InBasis}
use Rattle.bt_pivot.specs.Tableaus.{TableauParts, IsTableau}
use Rattle.bt_simplex.specs.Pivots.{Follows}
use Rattle.bt_pivot.specs.declared.basis.Pivot.{Pivot}

-- rows have at most one solved form at a basis
abbrev pub OneSolvedForm : Type 0
OneSolvedForm =
    (rows : List RowParts) (columns : ℕ) (slots slots' : Slots) → All IsRow rows → IsSolvedForm rows columns slots → IsSolvedForm rows columns slots'
    → ((position : ℕ) → InBasis slots position ↔ InBasis slots' position) → slots ≡ slots'

-- one or more pivots of Bland's rule never lead back to the basis that they begin at: as each stretch of a run is a run,
-- its bases are pairwise different
abbrev pub NoBasisComesBack : Type 0
NoBasisComesBack = (t t' : TableauParts) (pivot : Pivot) (steps : List Pivot) → IsTableau t → Follows t (pivot ∷ steps) t' → basis_of t'.slots ≢ basis_of t.slots

-- pairwise different ascending lists of so many numbers below a limit are at most as many as there are
abbrev pub AscendingListsAreFew : Type 0
AscendingListsAreFew =
    (limit many : ℕ) (lists : List (List ℕ)) → All (IsAscendingOf limit many) lists → AllPairs (λ x y. x ≢ y) lists → length lists ≤ ascending_lists limit many
