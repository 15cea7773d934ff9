-- The clause that the flows of some output differ.
use Rattle.std.proofs.Common.{◌≡◌, ℕ, ◌+◌, true, List, [], ◌∷◌, ◌++◌, length, map, ap, sym, ◌∙◌, refl, append-nil}
use Rattle.std.specs.List.{AllByRecursion, flat_map, range_with_len}
use Rattle.bt_frac.specs.Rows.{RowParts}
use Rattle.bt_cnf.specs.declared.literal.Lit.{Lit}
use Rattle.bt_cnf.specs.Formulas.{FormulaParts}
use Rattle.bt_net.specs.Network.{Network}
use Rattle.bt_flow_formula.specs.declared.state_literal.Pair.{Pair}
use Rattle.bt_flow_formula.specs.declared.state_literal.StateLiteral.{StateLiteral}
use Rattle.bt_flow.specs.EndEdges.{output_edge}
use Rattle.bt_flow_formula.specs.Properties.{differ}
use Rattle.bt_flow_formula.specs.Numbering.{mentioned, rows_in, literals_from, atoms_from, IsNamed, AreNamed}
use Rattle.bt_flow_formula.specs.FlowFormula.{steady_formula}
use Rattle.bt_same.specs.SameFormula.{first_shift, second_columns, second_vars, moved_lits, moved_atoms, difference, same_formula}
use Rattle.bt_same.specs.inner.Joining.{with_rows, with_lits, hold_from, differing_rows, difference_rows, networks_formula}
use Rattle.bt_same.proofs.Joined.{same_parts}

module _ (x y : ℕ → ℕ) where
  claims : List ℕ → List StateLiteral
  claims os = flat_map (λ o. differ (x o) (y o)) os

  rows : List ℕ → List RowParts
  rows os = flat_map (λ o. differing_rows (x o) (y o)) os

  rows_are : (os : List ℕ) → flat_map mentioned (claims os) ≡ rows os
  unfolding claims rows
  rows_are [] = refl
  rows_are (o ∷ os) = ap (λ l. differing_rows (x o) (y o) ++ l) (rows_are os)

  literals_are : (at : Pair → ℕ) (next : ℕ) (os : List ℕ) → literals_from at next (claims os) ≡ hold_from next (rows os)
  unfolding claims rows
  literals_are at next [] = refl
  literals_are at next (o ∷ os) =
      ap {A = List Lit} {B = List Lit} (λ l. record { var = next; positive = true } ∷ record { var = next + 1; positive = true } ∷ l) (literals_are at (next + 1 + 1) os)

  named_are : (at : Pair → ℕ) (marks : ℕ) (all : List RowParts) (os : List ℕ) → AllByRecursion (IsNamed at marks all) (claims os)
  unfolding claims
  named_are at marks all [] = tt
  named_are at marks all (o ∷ os) = (tt, (tt, named_are at marks all os))

module _ (a b : Network) where
  -- its claims name no pairs
  pub named : (at : Pair → ℕ) (marks : ℕ) → AreNamed at marks (difference a b ∷ [])
  unfolding claims
  named at marks = (named_are (output_edge a) (λ o. output_edge b o + length a.edges) at marks (rows_in (difference a b ∷ [])) (range_with_len 0 a.outputs), tt)

  mentions : rows_in (difference a b ∷ []) ≡ difference_rows a b
  unfolding claims rows
  mentions = append-nil (flat_map mentioned (difference a b)) ∙ rows_are (output_edge a) (λ o. output_edge b o + length a.edges) (range_with_len 0 a.outputs)

  says : (next : ℕ) → literals_from (λ pair. 0) next (difference a b) ≡ hold_from next (difference_rows a b)
  unfolding claims rows
  says next = literals_are (output_edge a) (λ o. output_edge b o + length a.edges) (λ pair. 0) next (range_with_len 0 a.outputs)

  -- with that clause the formulas of both are that of two networks
  pub joined : (f new : FormulaParts) → f ≡ networks_formula a b
      → new ≡ with_lits (with_rows f (difference_rows a b)) (hold_from f.vars (difference_rows a b) ∷ []) → new ≡ same_formula a b
  joined f new e h =
      let base : ℕ = (steady_formula a).vars + (steady_formula b).vars in
      let cs : List (List Lit) = map (moved_lits (first_shift a b)) (steady_formula a).clauses in
      let ds : List (List Lit) = map (moved_lits (second_vars a b)) (steady_formula b).clauses in
      let xs : List (ℕ × RowParts) = moved_atoms (first_shift a b) (first_shift a b) (steady_formula a).atoms in
      let ys : List (ℕ × RowParts) = moved_atoms (second_vars a b) (second_columns a b) (steady_formula b).atoms in
      h ∙ ap (λ g. with_lits (with_rows g (difference_rows a b)) (hold_from g.vars (difference_rows a b) ∷ [])) e
      ∙ same_parts (base + length (difference_rows a b)) (base + length (rows_in (difference a b ∷ [])))
      ((cs ++ ds) ++ hold_from base (difference_rows a b) ∷ []) (cs ++ ds ++ literals_from (λ pair. 0) base (difference a b) ∷ [])
      ((xs ++ ys) ++ atoms_from base (difference_rows a b)) (xs ++ ys ++ atoms_from base (rows_in (difference a b ∷ [])))
      (ap (λ l. base + length l) (sym mentions))
      (ap (λ l. cs ++ ds ++ l ∷ []) (sym (says base)))
      (ap (λ l. xs ++ ys ++ atoms_from base l) (sym mentions))
