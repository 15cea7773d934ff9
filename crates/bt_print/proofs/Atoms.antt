-- The atoms of a formula, variable by variable.
use Rattle.std.proofs.Common.{◌≡◌, ◌≢◌, ℕ, ◌<◌, ◌≤◌, ◌+◌, inl, inr, List, [], ◌∷◌, ◌++◌, length, get_or, map, cond, ltb, Some, None, refl, sym, ◌∙◌, ap, arith, zero, suc}
use Rattle.std.specs.List.{flat_map, range_with_len}
use Rattle.std.proofs.lemmas.Bool.{lt-ltb, le-ltb, eq-eqb, ne_eqb, cases_order}
use Rattle.std.proofs.lemmas.List.Elements.{All-head, All-tail}
use Rattle.std.proofs.lemmas.Grind.{flat_map-append}
use Rattle.std.proofs.lemmas.List.{append-nil}
use Rattle.bt_arena.proofs.Loops.{range_more}
use Rattle.bt_frac.specs.Rows.{RowParts}
use Rattle.bt_cnf.specs.Formulas.{AscendBelow}
use Rattle.bt_cnf.specs.Places.{IsPlaceOf}
use Rattle.bt_print.specs.inner.Atoms.{atom_of}

abbrev vars_of : List (ℕ × RowParts) → List ℕ
vars_of atoms = map (λ a. a.0) atoms

-- the atoms at the front whose variables are below one
abbrev below : ℕ → List (ℕ × RowParts) → List (ℕ × RowParts)
below n [] = []
below n (a ∷ atoms) = cond (ltb a.0 n) (a ∷ below n atoms) []

skipped : (n : ℕ) (a : ℕ × RowParts) (atoms : List (ℕ × RowParts)) → (a.0 ≡ n → ⊥) → atom_of n (a ∷ atoms) ≡ atom_of n atoms
skipped n a atoms differs = ap (λ t. cond t (a ∷ []) (atom_of n atoms)) (ne_eqb a.0 n differs)

taken : (n : ℕ) (a : ℕ × RowParts) (atoms : List (ℕ × RowParts)) → a.0 ≡ n → atom_of n (a ∷ atoms) ≡ a ∷ []
taken n a atoms same = ap (λ t. cond t (a ∷ []) (atom_of n atoms)) (eq-eqb a.0 n same)

goes_on : (n : ℕ) (a : ℕ × RowParts) (atoms : List (ℕ × RowParts)) → a.0 < n → below n (a ∷ atoms) ≡ a ∷ below n atoms
goes_on n a atoms less = ap (λ t. cond t (a ∷ below n atoms) []) (lt-ltb a.0 n less)

ends : (n : ℕ) (a : ℕ × RowParts) (atoms : List (ℕ × RowParts)) → n ≤ a.0 → below n (a ∷ atoms) ≡ []
ends n a atoms more = ap (λ t. cond t (a ∷ below n atoms) []) (le-ltb a.0 n more)

-- before the first atom there is none
none_of : (least end n : ℕ) (atoms : List (ℕ × RowParts)) → AscendBelow least end (vars_of atoms) → n < least → atom_of n atoms ≡ []
none_of least end n [] ascend less = refl
none_of least end n (a ∷ atoms) ascend less =
    skipped n a atoms (λ same. omega (arith, same, less, ascend.0)) ∙ none_of (a.0 + 1) end n atoms ascend.2 (omega (arith, less, ascend.0))

none_below : (least end n : ℕ) (atoms : List (ℕ × RowParts)) → AscendBelow least end (vars_of atoms) → n ≤ least → below n atoms ≡ []
none_below least end n [] ascend less = refl
none_below least end n (a ∷ atoms) ascend less = ends n a atoms (omega (arith, less, ascend.0))

-- one variable more
one_more : (least end n : ℕ) (atoms : List (ℕ × RowParts)) → AscendBelow least end (vars_of atoms) → below (n + 1) atoms ≡ below n atoms ++ atom_of n atoms
one_more least end n [] ascend = refl
one_more least end n (a ∷ atoms) ascend = elim (cases_order a.0 n) [
  | inl same ↦
      goes_on (n + 1) a atoms (omega (arith, same))
      ∙ ap (λ rest. a ∷ rest) (none_below (a.0 + 1) end (n + 1) atoms ascend.2 (omega (arith, same)))
      ∙ sym (ap (λ front. front ++ atom_of n (a ∷ atoms)) (ends n a atoms (omega (arith, same))) ∙ taken n a atoms same)
  | inr (inl less) ↦
      goes_on (n + 1) a atoms (omega (arith, less))
      ∙ ap (λ rest. a ∷ rest) (one_more (a.0 + 1) end n atoms ascend.2)
      ∙ sym (ap (λ front. front ++ atom_of n (a ∷ atoms)) (goes_on n a atoms less)
      ∙ ap (λ back. a ∷ below n atoms ++ back) (skipped n a atoms (λ same. omega (arith, same, less))))
  | inr (inr more) ↦
      ends (n + 1) a atoms (omega (arith, more))
      ∙ sym (ap (λ front. front ++ atom_of n (a ∷ atoms)) (ends n a atoms (omega (arith, more)))
      ∙ skipped n a atoms (λ same. omega (arith, same, more)) ∙ none_of (a.0 + 1) end n atoms ascend.2 (omega (arith, more)))
]

all_below : (least end : ℕ) (atoms : List (ℕ × RowParts)) → AscendBelow least end (vars_of atoms) → below end atoms ≡ atoms
all_below least end [] ascend = refl
all_below least end (a ∷ atoms) ascend = goes_on end a atoms ascend.1 ∙ ap (λ rest. a ∷ rest) (all_below (a.0 + 1) end atoms ascend.2)

module _ {X : Type 0} (f : ℕ × RowParts → List X) (end : ℕ) (atoms : List (ℕ × RowParts)) (ascend : AscendBelow 0 end (vars_of atoms)) where
  up_to : (n : ℕ) → flat_map (λ var. flat_map f (atom_of var atoms)) (range_with_len 0 n) ≡ flat_map f (below n atoms)
  up_to zero = sym (ap (flat_map f) (none_below 0 end 0 atoms ascend (omega arith)))
  up_to (suc n) =
      let next : suc n ≡ n + 1 = omega arith in
      let here : 0 + n ≡ n = omega arith in
      ap (λ m. flat_map (λ var. flat_map f (atom_of var atoms)) (range_with_len 0 m)) next
      ∙ ap (flat_map (λ var. flat_map f (atom_of var atoms))) (range_more 0 n ∙ ap (λ m. range_with_len 0 n ++ m ∷ []) here)
      ∙ flat_map-append (λ var. flat_map f (atom_of var atoms)) (range_with_len 0 n) (n ∷ [])
      ∙ ap (λ back. flat_map (λ var. flat_map f (atom_of var atoms)) (range_with_len 0 n) ++ back) (append-nil (flat_map f (atom_of n atoms)))
      ∙ ap (λ front. front ++ flat_map f (atom_of n atoms)) (up_to n)
      ∙ sym (ap (flat_map f) (ap (λ m. below m atoms) next ∙ one_more 0 end n atoms ascend) ∙ flat_map-append f (below n atoms) (atom_of n atoms))

  -- variable by variable all atoms come
  pub all_atoms : flat_map (λ var. flat_map f (atom_of var atoms)) (range_with_len 0 end) ≡ flat_map f atoms
  all_atoms = up_to end ∙ ap (flat_map f) (all_below 0 end atoms ascend)

at_least : (least end place : ℕ) (vars : List ℕ) → AscendBelow least end vars → place < length vars → least ≤ get_or vars place 0
at_least least end place [] ascend inside = absurd (omega (arith, inside))
at_least least end zero (n ∷ vars) ascend inside = ascend.0
at_least least end (suc place) (n ∷ vars) ascend inside =
    omega (arith, ascend.0, at_least (n + 1) end place vars ascend.2 (omega (arith, inside)))

-- the atom of a variable that has a place
pub placed : (least end var place : ℕ) (atoms : List (ℕ × RowParts)) (row : RowParts) → AscendBelow least end (vars_of atoms)
    → IsPlaceOf (vars_of atoms) var (Some place) → get_or (map (λ a. a.1) atoms) place row ≡ row → atom_of var atoms ≡ (var, row) ∷ []
placed least end var place [] row ascend is at = absurd (omega (arith, is.0))
placed least end var zero (a ∷ atoms) row ascend is at =
    taken var a atoms is.1 ∙ (λ i. (is.1 i, at i) ∷ [])
placed least end var (suc place) (a ∷ atoms) row ascend is at =
    let behind = at_least (a.0 + 1) end place (vars_of atoms) ascend.2 (omega (arith, is.0)) in
    skipped var a atoms (λ same. omega (arith, same, behind, is.1))
    ∙ placed (a.0 + 1) end var place atoms row ascend.2 (omega (arith, is.0), is.1) at

-- a variable without a place is no atom
pub unplaced : (var : ℕ) (atoms : List (ℕ × RowParts)) → IsPlaceOf (vars_of atoms) var None → atom_of var atoms ≡ []
unplaced var [] none = refl
unplaced var (a ∷ atoms) none =
    skipped var a atoms (All-head (λ other. other ≢ var) a.0 (vars_of atoms) none)
    ∙ unplaced var atoms (All-tail (λ other. other ≢ var) a.0 (vars_of atoms) none)
