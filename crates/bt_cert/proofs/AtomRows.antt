-- The rows of atoms that literals negate.
use Rattle.std.proofs.Common.{◌≡◌, ℕ, zero, suc, ◌<◌, arith, true, false, List, [], ◌∷◌, ◌++◌, length, get_or, Option, None, Some, Ok, Err, ap, sym, ◌∙◌, refl, subst, map}
use Rattle.std.specs.List.{All, AllZip, zip}
use Rattle.std.proofs.lemmas.List.{map-append, length-map, get_or-map}
use Rattle.std.proofs.lemmas.List.Elements.{All-push}
use Rattle.bt_frac.specs.Ratio.{Ratio, IsLowest}
use Rattle.bt_frac.specs.Rows.{RowParts}
use Rattle.bt_farkas.specs.Farkas.{IsFarkas, IsWidePlace}
use Rattle.bt_farkas.specs.WeightedRows.{empty_row, picked}
use Rattle.bt_farkas.specs.declared.wide.WideAt.{WideAt}
use Rattle.bt_cnf.specs.Formulas.{FormulaParts, IsFormula}
use Rattle.bt_cnf.specs.Places.{IsPlaceOf}
use Rattle.bt_cnf.specs.declared.literal.Lit.{Lit}
use Rattle.bt_log.specs.Validity.{NegatesAtom}
use Rattle.bt_log.proofs.NegatedAtoms.{var_at}
use Rattle.bt_cert.specs.Judging.{Negate, MayWeighRows, IsWeighed}
use Rattle.bt_cert.proofs.OneJudgement.{rows_same, as_many}
use Rattle.bt_cert.specs.inner.Weighing.{rows_of, IsNegatedRow, IsPicked, IsWideLemma, JudgesLemma}

-- pairs at the ends
pub zip_push : {A B : Type 0} (R : A → B → Type 0) (xs : List A) (ys : List B) (x : A) (y : B) → AllZip R xs ys → R x y → AllZip R (xs ++ x ∷ []) (ys ++ y ∷ [])
zip_push R [] [] x y all r = (r, tt)
zip_push R [] (w ∷ ys) x y all r = absurd all
zip_push R (v ∷ xs) [] x y all r = absurd all
zip_push R (v ∷ xs) (w ∷ ys) x y all r = (all.0, zip_push R xs ys x y all.1 r)

pub zip_at : {A B : Type 0} (R : A → B → Type 0) (xs : List A) (ys : List B) (i : ℕ) (d : A) (e : B) → AllZip R xs ys → i < length xs → R (get_or xs i d) (get_or ys i e)
zip_at R [] ys i d e all inside = absurd (omega (arith, inside))
zip_at R (v ∷ xs) [] i d e all inside = absurd all
zip_at R (v ∷ xs) (w ∷ ys) zero d e all inside = all.0
zip_at R (v ∷ xs) (w ∷ ys) (suc i) d e all inside = zip_at R xs ys i d e all.1 (omega (arith, inside))

-- a variable's place among the atoms tells its row
pub negated_row : (f : FormulaParts) (l : Lit) (o : Option ℕ) → l.positive ≡ false → IsPlaceOf (map (λ a. a.0) f.atoms) l.var o → IsNegatedRow f l o
negated_row f l (Some place) negative is =
    let inside : place < length f.atoms = omega (arith, is.0, length-map f.atoms (λ a. a.0)) in
    let row = get_or (rows_of f) place empty_row in
    let at : get_or f.atoms place (l.var, row) ≡ (l.var, row) =
    pair_is (get_or f.atoms place (l.var, row)) l.var row (sym (get_or-map (λ a. a.0) f.atoms place (l.var, row) 0 inside) ∙ is.1)
    (sym (get_or-map (λ a. a.1) f.atoms place (l.var, row) empty_row inside)) in
    (omega (arith, inside, length-map f.atoms (λ a. a.1)), (negative, (place, inside, at)))
  where
    pair_is : (a : ℕ × RowParts) (n : ℕ) (r : RowParts) → a.0 ≡ n → a.1 ≡ r → a ≡ (n, r)
    pair_is a n r first second = ap (λ m. (m, a.1)) first ∙ ap (λ s. (n, s)) second
negated_row f l None negative none =
    λ row negates.
    let among = negates.1 in
    none among.0 0 (omega (arith, among.1, length-map f.atoms (λ a. a.0))) (var_at f.atoms among.0 (l.var, row) among.1 among.2)

-- one more literal that negates an atom
pub picks_more : (f : FormulaParts) (lits : List Lit) (picks : List ℕ) (l : Lit) (place : ℕ) → IsPicked f lits picks true → IsNegatedRow f l (Some place)
    → IsPicked f (lits ++ l ∷ []) (picks ++ place ∷ []) true
picks_more f lits picks l place is (inside, negates) = (
  All-push (λ pick. pick < length (rows_of f)) picks place is.0 inside,
  subst (Negate f (lits ++ l ∷ [])) (sym (map-append (λ pick. get_or (rows_of f) pick empty_row) picks (place ∷ [])))
      (zip_push (NegatesAtom f) lits (picked (rows_of f) picks) l (get_or (rows_of f) place empty_row) is.1 negates),
)

-- a literal that negates none
pub picks_fail : (f : FormulaParts) (lits : List Lit) (i : ℕ) (l : Lit) → i < length lits → l ≡ get_or lits i l → IsNegatedRow f l None → (rows : List RowParts) → Negate f lits rows → ⊥
picks_fail f lits i l inside here none rows negate =
    none (get_or rows i empty_row) (subst (λ m. NegatesAtom f m (get_or rows i empty_row)) (sym here) (zip_at (NegatesAtom f) lits rows i l empty_row negate inside))

pub length-picked : (rows : List RowParts) (picks : List ℕ) → length (picked rows picks) ≡ length picks
length-picked rows picks = length-map picks (λ pick. get_or rows pick empty_row)

module _ (f : FormulaParts) (lits : List Lit) (weights : List Ratio) (rows : List RowParts) where
  -- the sum is not false, and leaves 128 bits nowhere
  pub lemma_fails : Negate f lits rows → MayWeighRows rows weights → IsFarkas (zip rows weights) (Ok false) → (w : IsWeighed f lits weights) × IsFarkas (zip w.rows weights) (Ok false)
  lemma_fails negate may farkas = (record { rows = rows; negated = negate; weighed = may }, farkas)

  -- the sum leaves 128 bits
  pub lemma_wide : (at : WideAt) → Negate f lits rows → MayWeighRows rows weights → IsFarkas (zip rows weights) (Err at) → IsWideLemma f lits weights at
  lemma_wide at negate may farkas = (record { rows = rows; negated = negate; weighed = may }, farkas.1)

  -- the sum is false, and leaves 128 bits nowhere
  pub lemma_valid : IsFormula f → All IsLowest weights → Negate f lits rows → MayWeighRows rows weights → IsFarkas (zip rows weights) (Ok true) → JudgesLemma f lits weights (Ok tt)
  lemma_valid is fractions negate may farkas = (
    record {
      rows = rows;
      negated = negate;
      counted = may.counted ∙ sym (as_many f lits rows negate);
      fractions = fractions;
      false_sum = farkas.1.0 refl;
    },
    λ w row place wide.
        farkas.0 may.weights_fit row place (subst (λ xs. IsWidePlace (zip xs weights) row place) (rows_same f is lits w.rows rows w.negated negate) wide),
  )
