-- Atoms of a formula, and one more of them.
use Rattle.std.proofs.Common.{◌≡◌, ◌≢◌, ℕ, ◌<◌, ◌≤◌, ◌+◌, arith, List, [], ◌∷◌, ◌++◌, length, get_or, set, slice_get, Option, None, Some, Result, Ok, is_ok, if◌then◌else◌, map, max, ap, sym, ◌∙◌, refl, subst, zero, suc, ◌⊎◌, inl, inr, length-append, length-set, get_or-set_same, get_or-set_other}
use Rattle.std.specs.List.{All, zip}
use Rattle.std.proofs.lemmas.List.{get_or_append_left}
use Rattle.std.proofs.lemmas.List.Elements.{All-push, All-cons, All-nil, All-head, All-tail}
use Rattle.bt_frac.specs.Rows.{RowParts, IsRow, columns_of, columns_in, end_of}
use Rattle.bt_cnf.specs.Formulas.{FormulaParts, LitsBelow, AscendBelow, IsFormula, IsNextAtom}
use Rattle.bt_cnf.specs.Places.{IsPlaceOf, ArePlaces, atoms_from, atoms_in, parts_of, IsStored}
use Rattle.bt_cnf.specs.declared.literal.Lit.{Lit}
use Rattle.bt_cnf.proofs.Ends.{end_more}

pub seconds_zip : {X Y : Type 0} (xs : List X) (ys : List Y) → length xs ≡ length ys → map (λ p. p.1) (zip xs ys) ≡ ys
seconds_zip [] [] same = refl
seconds_zip [] (y ∷ ys) same = absurd (omega (arith, same))
seconds_zip (x ∷ xs) [] same = absurd (omega (arith, same))
seconds_zip (x ∷ xs) (y ∷ ys) same = ap (λ rest. y ∷ rest) (seconds_zip xs ys (omega (arith, same)))

pub firsts_zip : {X Y : Type 0} (xs : List X) (ys : List Y) → length xs ≡ length ys → map (λ p. p.0) (zip xs ys) ≡ xs
firsts_zip [] [] same = refl
firsts_zip [] (y ∷ ys) same = absurd (omega (arith, same))
firsts_zip (x ∷ xs) [] same = absurd (omega (arith, same))
firsts_zip (x ∷ xs) (y ∷ ys) same = ap (λ rest. x ∷ rest) (firsts_zip xs ys (omega (arith, same)))

zip_more : {X Y : Type 0} (xs : List X) (ys : List Y) (x : X) (y : Y) → length xs ≡ length ys → zip (xs ++ x ∷ []) (ys ++ y ∷ []) ≡ zip xs ys ++ (x, y) ∷ []
zip_more [] [] x y same = refl
zip_more [] (w ∷ ys) x y same = absurd (omega (arith, same))
zip_more (v ∷ xs) [] x y same = absurd (omega (arith, same))
zip_more (v ∷ xs) (w ∷ ys) x y same = ap (λ rest. (v, w) ∷ rest) (zip_more xs ys x y (omega (arith, same)))

pub got : {X : Type 0} (xs : List X) (i : ℕ) (d x : X) → slice_get xs i ≡ Some x → get_or xs i d ≡ x
got [] i d x is = cc
got (y ∷ xs) zero d x is = cc
got (y ∷ xs) (suc i) d x is = got xs i d x is

pub got_below : {X : Type 0} (xs : List X) (i : ℕ) (x : X) → slice_get xs i ≡ Some x → i < length xs
got_below [] i x is = cc
got_below (y ∷ xs) zero x is = omega arith
got_below (y ∷ xs) (suc i) x is = omega (arith, got_below xs i x is)

-- past the places no atom stands
past_from : (least end var : ℕ) (atoms : List ℕ) → AscendBelow least end atoms → end ≤ var → IsPlaceOf atoms var None
past_from least end var [] ascend past = All-nil (λ other. other ≢ var)
past_from least end var (n ∷ atoms) ascend past =
    let below : n < var = omega (arith, ascend.1, past) in
    All-cons (λ other. other ≢ var) n atoms (λ same. omega (arith, same, below)) (past_from (n + 1) end var atoms ascend.2 past)

pub past_atoms : (end var : ℕ) (atoms : List ℕ) → AscendBelow 0 end atoms → end ≤ var → IsPlaceOf atoms var None
past_atoms end var atoms ascend past = past_from 0 end var atoms ascend past

-- one more number above all
ascend_more : (least end n : ℕ) (ns : List ℕ) → AscendBelow least end ns → All (λ m. m < n) ns → least ≤ n → n < end → AscendBelow least end (ns ++ n ∷ [])
ascend_more least end n [] ascend above from below = (from, below, tt)
ascend_more least end n (m ∷ ns) ascend above from below =
    let first : m < n = All-head (λ x. x < n) m ns above in
    (ascend.0, ascend.1, ascend_more (m + 1) end n ns ascend.2 (All-tail (λ x. x < n) m ns above) (omega arith) below)

map-push : {X Y : Type 0} (f : X → Y) (xs : List X) (x : X) → map f (xs ++ x ∷ []) ≡ map f xs ++ f x ∷ []
map-push f [] x = refl
map-push f (y ∷ xs) x = ap (λ rest. f y ∷ rest) (map-push f xs x)

All-firsts : (P : ℕ → Type 0) (atoms : List (ℕ × RowParts)) → All (λ a. P a.0) atoms → All P (map (λ a. a.0) atoms)
All-firsts P [] all = All-nil P
All-firsts P (a ∷ atoms) all = All-cons P a.0 (map (λ x. x.0) atoms) (All-head (λ x. P x.0) a atoms all) (All-firsts P atoms (All-tail (λ x. P x.0) a atoms all))

-- a formula with one more atom
formula_more : (f : FormulaParts) (var : ℕ) (row : RowParts) → IsFormula f → IsNextAtom f var → IsRow row → IsFormula (record f { atoms = f.atoms ++ (var, row) ∷ [] })
formula_more f var row is next is_row = record {
  clauses = is.clauses;
  atoms =
      subst (AscendBelow 0 f.vars) (sym (map-push (λ a. a.0) f.atoms (var, row)))
      (ascend_more 0 f.vars var (map (λ a. a.0) f.atoms) is.atoms (All-firsts (λ n. n < var) f.atoms next.above) (omega arith) next.below);
  rows = All-push (λ a. IsRow a.1) f.atoms (var, row) is.rows is_row;
}

place_before : (atoms : List ℕ) (var other : ℕ) (o : Option ℕ) → other ≢ var → IsPlaceOf atoms other o → IsPlaceOf (atoms ++ var ∷ []) other o
place_before atoms var other None differs h = All-push (λ x. x ≢ other) atoms var h (λ e. differs (sym e))
place_before atoms var other (Some place) differs h =
    (omega (arith, length-append atoms (var ∷ []), h.0), get_or_append_left atoms (var ∷ []) 0 place h.0 ∙ h.1)

at_end_of : (atoms : List ℕ) (var : ℕ) → get_or (atoms ++ var ∷ []) (length atoms) 0 ≡ var
at_end_of [] var = refl
at_end_of (x ∷ atoms) var = at_end_of atoms var

place_at : (atoms : List ℕ) (var : ℕ) → IsPlaceOf (atoms ++ var ∷ []) var (Some (length atoms))
place_at atoms var = (omega (arith, length-append atoms (var ∷ [])), at_end_of atoms var)

same_or : (m n : ℕ) → (m ≡ n) ⊎ (m ≢ n)
same_or m n = grind arith

places_more : (places : List (Option ℕ)) (atoms : List ℕ) (var place : ℕ) → ArePlaces atoms places → var < length places → place ≡ length atoms
    → ArePlaces (atoms ++ var ∷ []) (set places var (Some place))
places_more places atoms var place are below is other inside =
    elim (same_or other var) [
      | inl same ↦
          rw same (rw (get_or-set_same places var (Some place) None below, is) (place_at atoms var))
      | inr differs ↦
          rw (get_or-set_other places var other (Some place) None differs)
          (place_before atoms var other (get_or places other None) differs (are other (omega (arith, length-set places var (Some place)))))
    ]

parts_more : (places : List (Option ℕ)) (clauses : List (List Lit)) (atoms : List ℕ) (rows : List RowParts) (var : ℕ) (row : RowParts) (place : ℕ) → length atoms ≡ length rows
    → record (parts_of places clauses atoms rows) { atoms = zip atoms rows ++ (var, row) ∷ [] } ≡ parts_of (set places var (Some place)) clauses (atoms ++ var ∷ []) (rows ++ row ∷ [])
parts_more places clauses atoms rows var row place same =
    ap (λ n. record { vars = n; clauses = clauses; atoms = zip atoms rows ++ (var, row) ∷ [] }) (sym (length-set places var (Some place)))
    ∙ ap (λ pairs. record { vars = length (set places var (Some place)); clauses = clauses; atoms = pairs }) (sym (zip_more atoms rows var row same))

-- what a formula is kept in, with one more atom
stored_more : (places : List (Option ℕ)) (clauses : List (List Lit)) (atoms : List ℕ) (rows : List RowParts) (columns var : ℕ) (row : RowParts) (place end : ℕ)
    → IsStored places clauses atoms rows columns → IsNextAtom (parts_of places clauses atoms rows) var → IsRow row → place ≡ length rows → end ≡ end_of (columns_of row.terms)
    → IsStored (set places var (Some place)) clauses (atoms ++ var ∷ []) (rows ++ row ∷ []) (max columns end)
stored_more places clauses atoms rows columns var row place end is next is_row place_is end_is = record {
  formula =
      subst IsFormula (parts_more places clauses atoms rows var row place is.paired)
      (formula_more (parts_of places clauses atoms rows) var row is.formula next is_row);
  paired = omega (arith, length-append atoms (var ∷ []), length-append rows (row ∷ []), is.paired);
  named = places_more places atoms var place is.named next.below (place_is ∙ sym is.paired);
  end = ap (λ n. max n end) is.end ∙ ap (λ n. max (end_of (columns_in rows)) n) end_is ∙ sym (end_more rows row);
}

-- literals stay below one more variable
lits_below_more : (vars : ℕ) (clauses : List (List Lit)) → All (LitsBelow vars) clauses → All (LitsBelow (vars + 1)) clauses
lits_below_more vars clauses all i d below = λ j e inside. (let l = all i d below j e inside in omega (arith, l))

ascend_wider : (least end : ℕ) (ns : List ℕ) → AscendBelow least end ns → AscendBelow least (end + 1) ns
ascend_wider least end [] ascend = tt
ascend_wider least end (n ∷ ns) ascend = (ascend.0, omega (arith, ascend.1), ascend_wider (n + 1) end ns ascend.2)

-- all are below the end
pub ascend_all : (least end : ℕ) (ns : List ℕ) → AscendBelow least end ns → All (λ m. m < end) ns
ascend_all least end [] ascend = All-nil (λ m. m < end)
ascend_all least end (n ∷ ns) ascend = All-cons (λ m. m < end) n ns ascend.1 (ascend_all (n + 1) end ns ascend.2)

-- a formula with one more variable, which is an atom
formula_longer : (f : FormulaParts) (row : RowParts) → IsFormula f → IsRow row → IsFormula (record f { vars = f.vars + 1; atoms = f.atoms ++ (f.vars, row) ∷ [] })
formula_longer f row is is_row = record {
  clauses = lits_below_more f.vars f.clauses is.clauses;
  atoms =
      subst (AscendBelow 0 (f.vars + 1)) (sym (map-push (λ a. a.0) f.atoms (f.vars, row)))
      (ascend_more 0 (f.vars + 1) f.vars (map (λ a. a.0) f.atoms) (ascend_wider 0 f.vars (map (λ a. a.0) f.atoms) is.atoms)
      (ascend_all 0 f.vars (map (λ a. a.0) f.atoms) is.atoms) (omega arith) (omega arith));
  rows = All-push (λ a. IsRow a.1) f.atoms (f.vars, row) is.rows is_row;
}

places_longer : (places : List (Option ℕ)) (atoms : List ℕ) (place : ℕ) → ArePlaces atoms places → place ≡ length atoms
    → ArePlaces (atoms ++ length places ∷ []) (places ++ Some place ∷ [])
places_longer places atoms place are is other inside =
    elim (same_or other (length places)) [
      | inl same ↦ rw same (rw (at_end places (Some place) None, is) (place_at atoms (length places)))
      | inr differs ↦
          let before : other < length places = omega (arith, length-append places (Some place ∷ []), inside, differs) in
          rw (get_or_append_left places (Some place ∷ []) None other before)
          (place_before atoms (length places) other (get_or places other None) differs (are other before))
    ]
  where
    at_end : {X : Type 0} (xs : List X) (x d : X) → get_or (xs ++ x ∷ []) (length xs) d ≡ x
    at_end [] x d = refl
    at_end (y ∷ xs) x d = at_end xs x d

parts_longer : (places : List (Option ℕ)) (clauses : List (List Lit)) (atoms : List ℕ) (rows : List RowParts) (row : RowParts) (place : ℕ) → length atoms ≡ length rows
    → record { vars = length places + 1; clauses = clauses; atoms = zip atoms rows ++ (length places, row) ∷ [] }
    ≡ parts_of (places ++ Some place ∷ []) clauses (atoms ++ length places ∷ []) (rows ++ row ∷ [])
parts_longer places clauses atoms rows row place same =
    ap (λ n. record { vars = n; clauses = clauses; atoms = zip atoms rows ++ (length places, row) ∷ [] }) (sym (length-append places (Some place ∷ [])))
    ∙ ap (λ pairs. record { vars = length (places ++ Some place ∷ []); clauses = clauses; atoms = pairs }) (sym (zip_more atoms rows (length places) row same))

-- what a formula is kept in, with one more variable that is an atom
stored_longer : (places : List (Option ℕ)) (clauses : List (List Lit)) (atoms : List ℕ) (rows : List RowParts) (columns : ℕ) (row : RowParts) (place end : ℕ)
    → IsStored places clauses atoms rows columns → IsRow row → place ≡ length rows → end ≡ end_of (columns_of row.terms)
    → IsStored (places ++ Some place ∷ []) clauses (atoms ++ length places ∷ []) (rows ++ row ∷ []) (max columns end)
stored_longer places clauses atoms rows columns row place end is is_row place_is end_is = record {
  formula =
      subst IsFormula (parts_longer places clauses atoms rows row place is.paired)
      (formula_longer (parts_of places clauses atoms rows) row is.formula is_row);
  paired = omega (arith, length-append atoms (length places ∷ []), length-append rows (row ∷ []), is.paired);
  named = places_longer places atoms place is.named (place_is ∙ sym is.paired);
  end = ap (λ n. max n end) is.end ∙ ap (λ n. max (end_of (columns_in rows)) n) end_is ∙ sym (end_more rows row);
}

-- where all atoms are below a number, there is none from it on
none_left : (m n : ℕ) (places : List (Option ℕ)) → n ≤ m → All (λ a. a < n) (atoms_from m places) → atoms_from m places ≡ []
none_left m n [] from all = refl
none_left m n (None ∷ places) from all = none_left (m + 1) n places (omega (arith, from)) all
none_left m n (Some p ∷ places) from all =
    let first : m < n = All-head (λ a. a < n) m (atoms_from (m + 1) places) all in
    absurd (omega (arith, from, first))

atoms_set_from : (n : ℕ) (places : List (Option ℕ)) (var place : ℕ) → var < length places → All (λ a. a < n + var) (atoms_from n places)
    → atoms_from n (set places var (Some place)) ≡ atoms_from n places ++ (n + var) ∷ []
atoms_set_from n [] var place below above = absurd (omega (arith, below))
atoms_set_from n (None ∷ places) zero place below above =
    let same : n + zero ≡ n = omega arith in
    let none : atoms_from (n + 1) places ≡ [] = none_left (n + 1) (n + zero) places (omega arith) above in
    ap (λ xs. n ∷ xs) none ∙ ap (λ k. k ∷ []) (sym same) ∙ ap (λ xs. xs ++ (n + zero) ∷ []) (sym none)
atoms_set_from n (Some p ∷ places) zero place below above =
    let first : n < n + zero = All-head (λ a. a < n + zero) n (atoms_from (n + 1) places) above in
    absurd (omega (arith, first))
atoms_set_from n (None ∷ places) (suc var) place below above =
    let same : n + suc var ≡ n + 1 + var = omega arith in
    atoms_set_from (n + 1) places var place (omega (arith, below)) (subst (λ k. All (λ a. a < k) (atoms_from (n + 1) places)) same above)
    ∙ ap (λ k. atoms_from (n + 1) places ++ k ∷ []) (sym same)
atoms_set_from n (Some p ∷ places) (suc var) place below above =
    let same : n + suc var ≡ n + 1 + var = omega arith in
    let rest = All-tail (λ a. a < n + suc var) n (atoms_from (n + 1) places) above in
    ap (λ xs. n ∷ xs)
    (atoms_set_from (n + 1) places var place (omega (arith, below)) (subst (λ k. All (λ a. a < k) (atoms_from (n + 1) places)) same rest)
    ∙ ap (λ k. atoms_from (n + 1) places ++ k ∷ []) (sym same))

-- a variable above all atoms has become one
atoms_set : (places : List (Option ℕ)) (var place : ℕ) → var < length places → All (λ a. a < var) (atoms_in places)
    → atoms_in (set places var (Some place)) ≡ atoms_in places ++ var ∷ []
atoms_set places var place below above =
    let same : 0 + var ≡ var = omega arith in
    atoms_set_from 0 places var place below (subst (λ k. All (λ a. a < k) (atoms_in places)) (sym same) above)
    ∙ ap (λ k. atoms_in places ++ k ∷ []) same

atoms_push_from : (n : ℕ) (places : List (Option ℕ)) (place : ℕ) → atoms_from n (places ++ Some place ∷ []) ≡ atoms_from n places ++ (n + length places) ∷ []
atoms_push_from n [] place =
    let same : n ≡ n + length {A = Option ℕ} [] = omega arith in
    ap (λ k. k ∷ []) same
atoms_push_from n (None ∷ places) place =
    let same : n + 1 + length places ≡ n + length (None ∷ places) = omega arith in
    atoms_push_from (n + 1) places place ∙ ap (λ k. atoms_from (n + 1) places ++ k ∷ []) same
atoms_push_from n (Some p ∷ places) place =
    let same : n + 1 + length places ≡ n + length (Some p ∷ places) = omega arith in
    ap (λ xs. n ∷ xs) (atoms_push_from (n + 1) places place ∙ ap (λ k. atoms_from (n + 1) places ++ k ∷ []) same)

-- one more variable, which is an atom
atoms_push : (places : List (Option ℕ)) (place : ℕ) → atoms_in (places ++ Some place ∷ []) ≡ atoms_in places ++ length places ∷ []
atoms_push places place =
    let same : 0 + length places ≡ length places = omega arith in
    atoms_push_from 0 places place ∙ ap (λ k. atoms_in places ++ k ∷ []) same

atoms_none : (n : ℕ) (places : List (Option ℕ)) → All (λ o. o ≡ None) places → atoms_from n places ≡ []
atoms_none n [] none = refl
atoms_none n (None ∷ places) none = atoms_none (n + 1) places (All-tail (λ o. o ≡ None) None places none)
atoms_none n (Some p ∷ places) none = absurd (differs p (All-head (λ o. o ≡ None) (Some p) places none))
  where
    differs : (p : ℕ) → Some p ≡ None → ⊥
    differs p e = cc

-- the atoms of a formula are below the next
next_above : (places : List (Option ℕ)) (clauses : List (List Lit)) (rows : List RowParts) (var : ℕ) → length (atoms_in places) ≡ length rows
    → IsNextAtom (parts_of places clauses (atoms_in places) rows) var → All (λ a. a < var) (atoms_in places)
next_above places clauses rows var paired next =
    subst (All (λ a. a < var)) (firsts_zip (atoms_in places) rows paired) (All-firsts (λ n. n < var) (zip (atoms_in places) rows) next.above)

-- a variable has been given the place of its row
atoms_after : (places : List (Option ℕ)) (clauses : List (List Lit)) (rows : List RowParts) (columns var place : ℕ) → IsStored places clauses (atoms_in places) rows columns
    → IsNextAtom (parts_of places clauses (atoms_in places) rows) var → atoms_in (set places var (Some place)) ≡ atoms_in places ++ var ∷ []
atoms_after places clauses rows columns var place is next = atoms_set places var place next.below (next_above places clauses rows var is.paired next)

pub set_stored : (places : List (Option ℕ)) (clauses : List (List Lit)) (rows : List RowParts) (columns var : ℕ) (row : RowParts) (place end : ℕ)
    → IsStored places clauses (atoms_in places) rows columns → IsNextAtom (parts_of places clauses (atoms_in places) rows) var → IsRow row → place ≡ length rows
    → end ≡ end_of (columns_of row.terms)
    → IsStored (set places var (Some place)) clauses (atoms_in (set places var (Some place))) (rows ++ row ∷ []) (max columns end)
set_stored places clauses rows columns var row place end is next is_row place_is end_is =
    subst (λ vs. IsStored (set places var (Some place)) clauses vs (rows ++ row ∷ []) (max columns end)) (sym (atoms_after places clauses rows columns var place is next))
    (stored_more places clauses (atoms_in places) rows columns var row place end is next is_row place_is end_is)

pub set_parts : (places : List (Option ℕ)) (clauses : List (List Lit)) (rows : List RowParts) (columns var : ℕ) (row : RowParts) (place : ℕ)
    → IsStored places clauses (atoms_in places) rows columns → IsNextAtom (parts_of places clauses (atoms_in places) rows) var
    → record (parts_of places clauses (atoms_in places) rows) { atoms = zip (atoms_in places) rows ++ (var, row) ∷ [] }
    ≡ parts_of (set places var (Some place)) clauses (atoms_in (set places var (Some place))) (rows ++ row ∷ [])
set_parts places clauses rows columns var row place is next =
    parts_more places clauses (atoms_in places) rows var row place is.paired
    ∙ ap (λ vs. parts_of (set places var (Some place)) clauses vs (rows ++ row ∷ [])) (sym (atoms_after places clauses rows columns var place is next))

-- a variable has been added that is an atom
pub pushed_stored : (places : List (Option ℕ)) (clauses : List (List Lit)) (rows : List RowParts) (columns : ℕ) (row : RowParts) (place end : ℕ)
    → IsStored places clauses (atoms_in places) rows columns → IsRow row → place ≡ length rows → end ≡ end_of (columns_of row.terms)
    → IsStored (places ++ Some place ∷ []) clauses (atoms_in (places ++ Some place ∷ [])) (rows ++ row ∷ []) (max columns end)
pushed_stored places clauses rows columns row place end is is_row place_is end_is =
    subst (λ vs. IsStored (places ++ Some place ∷ []) clauses vs (rows ++ row ∷ []) (max columns end)) (sym (atoms_push places place))
    (stored_longer places clauses (atoms_in places) rows columns row place end is is_row place_is end_is)

pub pushed_parts : (places : List (Option ℕ)) (clauses : List (List Lit)) (rows : List RowParts) (columns : ℕ) (row : RowParts) (place : ℕ)
    → IsStored places clauses (atoms_in places) rows columns
    → record { vars = length places + 1; clauses = clauses; atoms = zip (atoms_in places) rows ++ (length places, row) ∷ [] }
    ≡ parts_of (places ++ Some place ∷ []) clauses (atoms_in (places ++ Some place ∷ [])) (rows ++ row ∷ [])
pushed_parts places clauses rows columns row place is =
    parts_longer places clauses (atoms_in places) rows row place is.paired
    ∙ ap (λ vs. parts_of (places ++ Some place ∷ []) clauses vs (rows ++ row ∷ [])) (sym (atoms_push places place))

atoms_blank_from : (n : ℕ) (places : List (Option ℕ)) → atoms_from n (places ++ None ∷ []) ≡ atoms_from n places
atoms_blank_from n [] = refl
atoms_blank_from n (None ∷ places) = atoms_blank_from (n + 1) places
atoms_blank_from n (Some p ∷ places) = ap (λ xs. n ∷ xs) (atoms_blank_from (n + 1) places)

-- one more variable, which is no atom
atoms_blank : (places : List (Option ℕ)) → atoms_in (places ++ None ∷ []) ≡ atoms_in places
atoms_blank places = atoms_blank_from 0 places

places_blank : (places : List (Option ℕ)) (atoms : List ℕ) → AscendBelow 0 (length places) atoms → ArePlaces atoms places → ArePlaces atoms (places ++ None ∷ [])
places_blank places atoms ascend are other inside =
    elim (same_or other (length places)) [
      | inl same ↦ rw same (rw (at_end places) (past_atoms (length places) (length places) atoms ascend (omega arith)))
      | inr differs ↦
          let before : other < length places = omega (arith, length-append places (None ∷ []), inside, differs) in
          rw (get_or_append_left places (None ∷ []) None other before) (are other before)
    ]
  where
    at_end : (xs : List (Option ℕ)) → get_or (xs ++ None ∷ []) (length xs) None ≡ None
    at_end [] = refl
    at_end (y ∷ xs) = at_end xs

-- a formula with one more variable, which is no atom
formula_blank : (f : FormulaParts) → IsFormula f → IsFormula (record f { vars = f.vars + 1 })
formula_blank f is = record {
  clauses = lits_below_more f.vars f.clauses is.clauses;
  atoms = ascend_wider 0 f.vars (map (λ a. a.0) f.atoms) is.atoms;
  rows = is.rows;
}

-- what a formula is kept in, with one more variable that is no atom
pub stored_blank : (places : List (Option ℕ)) (clauses : List (List Lit)) (rows : List RowParts) (columns : ℕ) → IsStored places clauses (atoms_in places) rows columns
    → IsStored (places ++ None ∷ []) clauses (atoms_in (places ++ None ∷ [])) rows columns
stored_blank places clauses rows columns is =
    let atoms = atoms_in places in
    let size : length places + 1 ≡ length (places ++ None ∷ []) = sym (length-append places (None ∷ [])) in
    let ascend = subst (AscendBelow 0 (length places)) (firsts_zip atoms rows is.paired) is.formula.atoms in
    subst (λ vs. IsStored (places ++ None ∷ []) clauses vs rows columns) (sym (atoms_blank places)) (record {
      formula = subst (λ n. IsFormula (record { vars = n; clauses = clauses; atoms = zip atoms rows })) size (formula_blank (parts_of places clauses atoms rows) is.formula);
      paired = is.paired;
      named = places_blank places atoms ascend is.named;
      end = is.end;
    })

pub blank_parts : (places : List (Option ℕ)) (clauses : List (List Lit)) (rows : List RowParts)
    → record (parts_of places clauses (atoms_in places) rows) { vars = length places + 1 } ≡ parts_of (places ++ None ∷ []) clauses (atoms_in (places ++ None ∷ [])) rows
blank_parts places clauses rows =
    ap (λ n. record { vars = n; clauses = clauses; atoms = zip (atoms_in places) rows }) (sym (length-append places (None ∷ [])))
    ∙ ap (λ vs. parts_of (places ++ None ∷ []) clauses vs rows) (sym (atoms_blank places))

-- a vector after a push that didn't fail
pub appended : {X U E : Type 0} (r : Result U E) (u : U) (old mid new : List X) (x : X) → r ≡ Ok u → mid ≡ old → new ≡ (if is_ok r then mid ++ x ∷ [] else mid) → new ≡ old ++ x ∷ []
appended r u old mid new x ok same is = is ∙ ap (λ b. if b then mid ++ x ∷ [] else mid) (ap is_ok ok) ∙ ap (λ xs. xs ++ x ∷ []) same

-- a new formula
stored_new : (places : List (Option ℕ)) → All (λ o. o ≡ None) places → IsStored places [] [] [] 0
stored_new places none = record {
  formula = record { clauses = All-nil (LitsBelow (length places)); atoms = tt; rows = All-nil (λ a. IsRow a.1) };
  paired = refl;
  named = λ var inside. subst (IsPlaceOf [] var) (sym (none var None inside)) (All-nil (λ other. other ≢ var));
  end = refl;
}

pub new_stored : (places held : List (Option ℕ)) (clauses : List (List Lit)) (rows : List RowParts) → held ≡ places → clauses ≡ [] → rows ≡ []
    → All (λ o. o ≡ None) places → IsStored held clauses (atoms_in held) rows 0
new_stored places held clauses rows same no_clauses no_rows none =
    subst (λ cs. IsStored held cs (atoms_in held) rows 0) (sym no_clauses)
    (subst (λ rs. IsStored held [] (atoms_in held) rs 0) (sym no_rows)
    (subst (λ ps. IsStored ps [] (atoms_in ps) [] 0) (sym same)
    (subst (λ vs. IsStored places [] vs [] 0) (sym (atoms_none 0 places none)) (stored_new places none))))

pub new_parts : (places held : List (Option ℕ)) (clauses : List (List Lit)) (rows : List RowParts) (vars : ℕ) → held ≡ places → clauses ≡ [] → rows ≡ []
    → All (λ o. o ≡ None) places → length places ≡ vars → parts_of held clauses (atoms_in held) rows ≡ record { vars = vars; clauses = []; atoms = [] }
new_parts places held clauses rows vars same no_clauses no_rows none size =
    ap (λ cs. parts_of held cs (atoms_in held) rows) no_clauses ∙ ap (λ rs. parts_of held [] (atoms_in held) rs) no_rows
    ∙ ap (λ ps. parts_of ps [] (atoms_in ps) []) same ∙ ap (λ vs. parts_of places [] vs []) (atoms_none 0 places none)
    ∙ ap (λ n. record { vars = n; clauses = []; atoms = [] }) size
