-- Where an assignment with values meets the formula of clauses of claims, each clause has a true claim.
use Rattle.std.proofs.Common.{◌≡◌, ℕ, ◌<◌, ◌+◌, ◌⊎◌, inl, inr, Bool, true, List, [], ◌∷◌, length, get_or, sym, subst, arith, zero, suc}
use Rattle.std.specs.List.{Any, AllByRecursion, flat_map}
use Rattle.bt_frac.specs.Ratio.{Ratio}
use Rattle.bt_frac.specs.Rows.{RowParts}
use Rattle.bt_frac.specs.Values.{RowHolds}
use Rattle.bt_cnf.specs.Meeting.{IsTrueUnder, MeetsClause, Meets}
use Rattle.bt_flow_formula.specs.declared.state_literal.Pair.{Pair}
use Rattle.bt_flow_formula.specs.declared.state_literal.StateLiteral.{StateLiteral}
use Rattle.bt_flow_formula.specs.declared.state_literal.StateLiteral.TheVariants.{Mark, Says, First}
use Rattle.bt_flow_formula.specs.Pairs.{first_row}
use Rattle.bt_flow_formula.specs.Numbering.{mentioned, rows_in, literals_from, clauses_from, atoms_from, formula_of, IsNamed, AreNamed}
use Rattle.bt_flow_formula.specs.Laws.{HasTrue}
use Rattle.bt_flow_formula.proofs.Numbers.{all_to, atoms-append, at_variable}
use Rattle.bt_flow_formula.proofs.Withins.{each-left, each-right}

-- some item of a list is its first, or is among the others
first_or : {X : Type 0} (P : X → Type 0) (x : X) (xs : List X) (k : ℕ) (y : X) → k < length (x ∷ xs) → get_or (x ∷ xs) k y ≡ y → P y → P x ⊎ Any P xs
first_or P x xs zero y l e p = inl (subst P (sym e) p)
first_or P x xs (suc k) y l e p = inr (k, y, omega arith, e, p)

some_or : {X : Type 0} (P : X → Type 0) (x : X) (xs : List X) → Any P (x ∷ xs) → P x ⊎ Any P xs
some_or P x xs h = first_or P x xs h.0 h.1 h.2 h.3 h.4

none_in : {X : Type 0} (P : X → Type 0) → Any P [] → ⊥
none_in P h = let l = h.2 in omega arith

module _ (at : Pair → ℕ) (marks : ℕ) (all : List RowParts) (f : ℕ → Bool) (values : ℕ → Ratio) where
  abbrev Hold : List (ℕ × RowParts) → Type 0
  Hold atoms = AllByRecursion (λ a. f a.0 ≡ true → RowHolds a.1 values) atoms

  module _ (whole : Hold (atoms_from marks all)) where
    claim_true : (next : ℕ) (claims : List StateLiteral) → AllByRecursion (IsNamed at marks all) claims → MeetsClause f (literals_from at next claims) → Hold (atoms_from next (flat_map mentioned claims))
        → HasTrue f values claims
    claim_true next [] w h g = none_in (IsTrueUnder f) h
    claim_true next (Mark a b ∷ claims) w h g =
        elim (some_or (IsTrueUnder f) (record { var = a; positive = b }) (literals_from at next claims) h) [ inl t ↦ inl t | inr r ↦ inr (claim_true next claims w.1 r g) ]
    claim_true next (Says row ∷ claims) w h g =
        elim (some_or (IsTrueUnder f) (record { var = next; positive = true }) (literals_from at (next + 1) claims) h) [ inl t ↦ inl (g.0 t) | inr r ↦ inr (claim_true (next + 1) claims w.1 r g.1) ]
    claim_true next (First pair ∷ claims) w h g =
        elim (some_or (IsTrueUnder f) (record { var = at pair; positive = true }) (literals_from at next claims) h) [
          | inl t ↦ inl (at_variable (λ a. f a.0 ≡ true → RowHolds a.1 values) marks all (first_row pair) (at pair) whole w.0 t)
          | inr r ↦ inr (claim_true next claims w.1 r g)
        ]

    claims_true : (next : ℕ) (clauses : List (List StateLiteral)) → AllByRecursion (AllByRecursion (IsNamed at marks all)) clauses → AllByRecursion (MeetsClause f) (clauses_from at next clauses)
        → Hold (atoms_from next (rows_in clauses)) → AllByRecursion (HasTrue f values) clauses
    claims_true next [] w h g = tt
    claims_true next (claims ∷ clauses) w h g =
        let rows = subst Hold (atoms-append next (flat_map mentioned claims) (rows_in clauses)) g in
        let front = atoms_from next (flat_map mentioned claims) in
        let back = atoms_from (next + length (flat_map mentioned claims)) (rows_in clauses) in (
          claim_true next claims w.0 h.0 (each-left (λ a. f a.0 ≡ true → RowHolds a.1 values) front back rows),
          claims_true (next + length (flat_map mentioned claims)) clauses w.1 h.1 (each-right (λ a. f a.0 ≡ true → RowHolds a.1 values) front back rows),
        )

pub met_claims : (at : Pair → ℕ) (marks : ℕ) (clauses : List (List StateLiteral)) (f : ℕ → Bool) (values : ℕ → Ratio) → AreNamed at marks clauses → Meets (formula_of at marks clauses) f values
    → AllByRecursion (HasTrue f values) clauses
met_claims at marks clauses f values w met =
    let whole = all_to (λ a. f a.0 ≡ true → RowHolds a.1 values) (atoms_from marks (rows_in clauses)) met.atoms in
    claims_true at marks (rows_in clauses) f values whole marks clauses w (all_to (MeetsClause f) (clauses_from at marks clauses) met.clauses) whole
