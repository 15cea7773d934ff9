-- A run of Bland's pivots has fewer pivots than there are bases.
use Rattle.std.proofs.Common.{◌≡◌, ◌≢◌, suc, ◌+◌, ◌<◌, arith, List, ◌∷◌, ◌++◌, length, ap, sym, refl, subst, ℕ, []}
use Rattle.std.specs.List.{All, AllPairs}
use Rattle.std.proofs.lemmas.List.Elements.{All-cons, All-nil}
use Rattle.std.proofs.lemmas.List.Kept.{AllPairs-cons}
use Rattle.bt_simplex.specs.Counting.{IsAscendingOf, most_bases}
use Rattle.bt_pivot.specs.SolvedForms.{basis_of}
use Rattle.bt_pivot.specs.Tableaus.{TableauParts, IsTableau}
use Rattle.bt_simplex.specs.Pivots.{Follows}
use Rattle.bt_pivot.specs.declared.basis.Pivot.{Pivot}
use Rattle.bt_simplex.proofs.BasisOf.{basis_ascends}
use Rattle.bt_simplex.proofs.Counting.{ascending_lists_are_few}
use Rattle.bt_simplex.proofs.Cycling.{no_basis_comes_back}
use Rattle.bt_simplex.proofs.Runs.{follows_more}
use Rattle.bt_simplex.proofs.Stretches.{pivoted_is}

-- the basis at entry and the bases after each pivot
bases : (t : TableauParts) (steps : List Pivot) (t' : TableauParts) → Follows t steps t' → List (List ℕ)
bases t [] t' follows = basis_of t.slots ∷ []
bases t (pivot ∷ steps) t' follows = basis_of t.slots ∷ bases follows.0 steps t' follows.3

bases_many : (t : TableauParts) (steps : List Pivot) (t' : TableauParts) (follows : Follows t steps t') → length (bases t steps t' follows) ≡ suc (length steps)
unfolding bases
bases_many t [] t' follows = refl
bases_many t (pivot ∷ steps) t' follows = ap suc (bases_many follows.0 steps t' follows.3)

basis_is : (t : TableauParts) → IsTableau t → IsAscendingOf (t.columns + length t.rows) (length t.rows) (basis_of t.slots)
basis_is t tableau =
    let positions = tableau.solved.positions in
    record { ascends = basis_ascends t.slots 0 0 (t.columns + length t.rows) (omega arith) (omega (arith, positions)); many_are = tableau.solved.basis }

-- each ascends
bases_are : (t : TableauParts) (steps : List Pivot) (t' : TableauParts) (follows : Follows t steps t') → IsTableau t → All (IsAscendingOf (t.columns + length t.rows) (length t.rows)) (bases t steps t' follows)
unfolding bases
bases_are t [] t' follows tableau =
    All-cons (IsAscendingOf (t.columns + length t.rows) (length t.rows)) (basis_of t.slots) [] (basis_is t tableau) (All-nil (IsAscendingOf (t.columns + length t.rows) (length t.rows)))
bases_are t (pivot ∷ steps) t' follows tableau =
    All-cons (IsAscendingOf (t.columns + length t.rows) (length t.rows)) (basis_of t.slots) (bases follows.0 steps t' follows.3) (basis_is t tableau)
    (subst (λ u. All (IsAscendingOf (u.columns + length u.rows) (length u.rows)) (bases follows.0 steps t' follows.3)) follows.2.stays
    (bases_are follows.0 steps t' follows.3 (pivoted_is t follows.0 pivot tableau follows.2)))

-- the basis before a run of one or more pivots is none of the later ones
later_differ : (t : TableauParts) (first : Pivot) (front : List Pivot) (between : TableauParts) (steps : List Pivot) (t' : TableauParts) → IsTableau t → Follows t (first ∷ front) between
    → (follows : Follows between steps t') → All (λ other. basis_of t.slots ≢ other) (bases between steps t' follows)
unfolding bases
later_differ t first front between [] t' tableau before follows =
    All-cons (λ other. basis_of t.slots ≢ other) (basis_of between.slots) [] (λ same. no_basis_comes_back t between first front tableau before (sym same)) (All-nil (λ other. basis_of t.slots ≢ other))
later_differ t first front between (pivot ∷ steps) t' tableau before follows =
    All-cons (λ other. basis_of t.slots ≢ other) (basis_of between.slots) (bases follows.0 steps t' follows.3) (λ same. no_basis_comes_back t between first front tableau before (sym same))
    (later_differ t first (front ++ pivot ∷ []) follows.0 steps t' tableau (follows_more t (first ∷ front) between follows.0 pivot before follows.1 follows.2) follows.3)

bases_differ : (t : TableauParts) (steps : List Pivot) (t' : TableauParts) (follows : Follows t steps t') → IsTableau t → AllPairs (λ x y. x ≢ y) (bases t steps t' follows)
unfolding bases
bases_differ t [] t' follows tableau = λ i j d before inside. absurd (omega (arith, before, inside))
bases_differ t (pivot ∷ steps) t' follows tableau =
    AllPairs-cons (λ x y. x ≢ y) (basis_of t.slots) (bases follows.0 steps t' follows.3)
    (later_differ t pivot [] follows.0 steps t' tableau (follows.0, follows.1, follows.2, refl) follows.3)
    (bases_differ follows.0 steps t' follows.3 (pivoted_is t follows.0 pivot tableau follows.2))

pub few_steps : (t : TableauParts) (steps : List Pivot) (t' : TableauParts) → IsTableau t → Follows t steps t' → length steps < most_bases t.columns t.rows
few_steps t steps t' tableau follows =
    let few = ascending_lists_are_few (t.columns + length t.rows) (length t.rows) (bases t steps t' follows) (bases_are t steps t' follows tableau) (bases_differ t steps t' follows tableau) in
    let many = bases_many t steps t' follows in
    omega (arith, few, many)
