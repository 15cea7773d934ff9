-- What adding the rows and clauses of one network after another makes of a formula.
use Rattle.std.proofs.Common.{◌≡◌, ℕ, ◌<◌, ◌≤◌, ◌+◌, true, List, [], ◌∷◌, ◌++◌, length, map, take, get_or, ap, sym, ◌∙◌, refl, arith, append_assoc, length-append}
use Rattle.std.specs.List.{AllByRecursion, flat_map, range_with_len}
use Rattle.std.proofs.lemmas.List.{length-map}
use Rattle.bt_frac.specs.Rows.{RowParts}
use Rattle.bt_cnf.specs.declared.literal.Lit.{Lit}
use Rattle.bt_cnf.specs.Formulas.{FormulaParts}
use Rattle.bt_net.specs.Network.{Network}
use Rattle.bt_arena.proofs.Loops.{mapped_more, place_more}
use Rattle.bt_flow_formula.specs.Columns.{above}
use Rattle.bt_flow_formula.specs.Numbering.{rows_in, atoms_from}
use Rattle.bt_flow_formula.specs.FlowFormula.{steady_clauses, steady_formula}
use Rattle.bt_flow_formula.proofs.Numbers.{atoms-append}
use Rattle.bt_same.specs.declared.shift.Shift.{Shift}
use Rattle.bt_same.specs.SameFormula.{first_shift, second_columns, second_vars, moved_lits, moved_row, moved_atoms}
use Rattle.bt_same.specs.inner.Joining.{rows_of, with_rows, with_lits, hold_from, differing_rows, networks_formula}
use Rattle.bt_same.proofs.Moved.{rows_back, moved_from}

abbrev parts : ℕ → List (List Lit) → List (ℕ × RowParts) → FormulaParts
parts v cs xs = record { vars = v; clauses = cs; atoms = xs }

pub same_parts : (v w : ℕ) (cs ds : List (List Lit)) (xs ys : List (ℕ × RowParts)) → v ≡ w → cs ≡ ds → xs ≡ ys → parts v cs xs ≡ parts w ds ys
same_parts v w cs ds xs ys p q r = ap (λ n. parts n cs xs) p ∙ ap (λ l. parts w l xs) q ∙ ap (λ l. parts w ds l) r

rows_then : (f : FormulaParts) (xs ys : List RowParts) → with_rows (with_rows f xs) ys ≡ with_rows f (xs ++ ys)
rows_then f xs ys =
    let long = length-append xs ys in
    let next : ℕ = f.vars + length xs in
    same_parts (next + length ys) (f.vars + length (xs ++ ys)) f.clauses f.clauses ((f.atoms ++ atoms_from f.vars xs) ++ atoms_from next ys) (f.atoms ++ atoms_from f.vars (xs ++ ys)) (omega (arith, long)) refl
    (append_assoc f.atoms (atoms_from f.vars xs) (atoms_from next ys) ∙ ap (λ l. f.atoms ++ l) (sym (atoms-append f.vars xs ys)))

-- rows after rows
pub rows_more : (old now new : FormulaParts) (before more after : List RowParts) → now ≡ with_rows old before → new ≡ with_rows now more → before ++ more ≡ after → new ≡ with_rows old after
rows_more old now new before more after e h same = h ∙ ap (λ f. with_rows f more) e ∙ rows_then old before more ∙ ap (with_rows old) same

-- one row after rows
atom_more : (old now new : FormulaParts) (before after : List RowParts) (row : RowParts) → now ≡ with_rows old before
    → new ≡ record now { vars = now.vars + 1; atoms = now.atoms ++ (now.vars, row) ∷ [] } → before ++ row ∷ [] ≡ after → new ≡ with_rows old after
atom_more old now new before after row e h same =
    rows_more old now new before (row ∷ []) after e
    (h ∙ same_parts (now.vars + 1) (now.vars + length (row ∷ [])) now.clauses now.clauses (now.atoms ++ (now.vars, row) ∷ []) (now.atoms ++ (now.vars, row) ∷ []) (omega arith) refl refl) same

-- the rows of one more network's atom
pub taken_row : (columns : Shift) (rows items : List RowParts) (old now new : FormulaParts) (i : ℕ) (row moved : RowParts) → items ≡ rows → i < length items → row ≡ get_or items i row
    → moved ≡ moved_row columns row → now ≡ with_rows old (map (moved_row columns) (take i rows)) → new ≡ record now { vars = now.vars + 1; atoms = now.atoms ++ (now.vars, moved) ∷ [] }
    → new ≡ with_rows old (map (moved_row columns) (take (i + 1) rows))
taken_row columns rows items old now new i row moved same l is put e h =
    let before : List RowParts = map (moved_row columns) (take i rows) in
    let there : row ≡ get_or rows i row = is ∙ ap (λ xs. get_or xs i row) same in
    let long = ap length same in
    atom_more old now new before (map (moved_row columns) (take (i + 1) rows)) moved e h
    (mapped_more (moved_row columns) rows [] before (before ++ moved ∷ []) i row (omega (arith, l, long)) refl (ap (λ r. before ++ r ∷ []) (put ∙ ap (moved_row columns) there)))

-- a clause after clauses
lits_more : (old now new : FormulaParts) (before after : List (List Lit)) (lits : List Lit) → now ≡ with_lits old before → new ≡ record now { clauses = now.clauses ++ lits ∷ [] }
    → before ++ lits ∷ [] ≡ after → new ≡ with_lits old after
lits_more old now new before after lits e h same =
    h ∙ ap {A = FormulaParts} {B = FormulaParts} (λ f. record f { clauses = f.clauses ++ lits ∷ [] }) e
    ∙ same_parts old.vars old.vars ((old.clauses ++ before) ++ lits ∷ []) (old.clauses ++ after) old.atoms old.atoms refl (append_assoc old.clauses before (lits ∷ []) ∙ ap (λ l. old.clauses ++ l) same) refl

pub taken_clause : (vars : Shift) (clauses : List (List Lit)) (old now new : FormulaParts) (i : ℕ) (clause moved lits : List Lit) → i < length clauses → get_or clauses i clause ≡ clause
    → moved ≡ moved_lits vars clause → lits ≡ moved → now ≡ with_lits old (map (moved_lits vars) (take i clauses)) → new ≡ record now { clauses = now.clauses ++ lits ∷ [] }
    → new ≡ with_lits old (map (moved_lits vars) (take (i + 1) clauses))
taken_clause vars clauses old now new i clause moved lits l is put same e h =
    let before : List (List Lit) = map (moved_lits vars) (take i clauses) in
    lits_more old now new before (map (moved_lits vars) (take (i + 1) clauses)) lits e h
    (mapped_more (moved_lits vars) clauses [] before (before ++ lits ∷ []) i clause l refl (ap {A = List Lit} {B = List (List Lit)} (λ x. before ++ x ∷ []) (same ∙ put ∙ ap (moved_lits vars) (sym is))))

-- literals that say that rows hold
hold-append : (next : ℕ) (xs ys : List RowParts) → hold_from next (xs ++ ys) ≡ hold_from next xs ++ hold_from (next + length xs) ys
hold-append next [] ys = ap (λ k. hold_from k ys) (let z : next ≡ next + length {A = RowParts} [] = omega arith in z)
hold-append next (x ∷ xs) ys =
    ap {A = List Lit} {B = List Lit} (λ l. record { var = next; positive = true } ∷ l)
    (hold-append (next + 1) xs ys ∙ ap (λ k. hold_from (next + 1) xs ++ hold_from k ys) (let z : next + 1 + length xs ≡ next + length (x ∷ xs) = omega arith in z))

pub hold_below : (m end : ℕ) (rows : List RowParts) → m + length rows ≤ end → AllByRecursion (λ l. l.var < end) (hold_from m rows)
hold_below m end [] l = tt
hold_below m end (row ∷ rows) l = (omega (arith, l), hold_below (m + 1) end rows (omega (arith, l)))

-- the two rows and literals of one more output
pub differ_more : (x y : ℕ → ℕ) (o : ℕ) (old now mid new : FormulaParts) (lits one two : List Lit) (first second : Lit)
    → now ≡ with_rows old (flat_map (λ o. differing_rows (x o) (y o)) (range_with_len 0 o)) → lits ≡ hold_from old.vars (flat_map (λ o. differing_rows (x o) (y o)) (range_with_len 0 o))
    → mid ≡ with_rows now (above (x o) (y o) ∷ []) → first ≡ record { var = now.vars; positive = true } → one ≡ lits ++ first ∷ []
    → new ≡ with_rows mid (above (y o) (x o) ∷ []) → second ≡ record { var = mid.vars; positive = true } → two ≡ one ++ second ∷ []
    → (new ≡ with_rows old (flat_map (λ o. differing_rows (x o) (y o)) (range_with_len 0 (o + 1))))
    × (two ≡ hold_from old.vars (flat_map (λ o. differing_rows (x o) (y o)) (range_with_len 0 (o + 1))))
differ_more x y o old now mid new lits one two first second e h p first_is one_is q second_is two_is =
    let rows : List RowParts = flat_map (λ o. differing_rows (x o) (y o)) (range_with_len 0 o) in
    let both : List RowParts = differing_rows (x o) (y o) in
    let more : rows ++ both ≡ flat_map (λ o. differing_rows (x o) (y o)) (range_with_len 0 (o + 1)) = place_more (λ o. differing_rows (x o) (y o)) [] rows (rows ++ both) o refl refl in
    let now_vars = ap (λ f. f.vars) e in
    let mid_vars = ap (λ f. f.vars) p in
    let third : mid.vars ≡ old.vars + length rows + 1 = omega (arith, now_vars, mid_vars) in (
      rows_more old mid new (rows ++ above (x o) (y o) ∷ []) (above (y o) (x o) ∷ []) (flat_map (λ o. differing_rows (x o) (y o)) (range_with_len 0 (o + 1)))
          (rows_more old now mid rows (above (x o) (y o) ∷ []) (rows ++ above (x o) (y o) ∷ []) e p refl) q
          (append_assoc rows (above (x o) (y o) ∷ []) (above (y o) (x o) ∷ []) ∙ more),
      two_is
          ∙ ap (λ l. l ++ second ∷ []) one_is ∙ append_assoc lits (first ∷ []) (second ∷ [])
          ∙ ap (λ l. l ++ first ∷ second ∷ []) h
          ∙ ap {A = Lit} {B = List Lit} (λ z. hold_from old.vars rows ++ z ∷ second ∷ []) (first_is ∙ ap {A = ℕ} {B = Lit} (λ k. record { var = k; positive = true }) now_vars)
          ∙ ap {A = Lit} {B = List Lit} (λ z. hold_from old.vars rows ++ record { var = old.vars + length rows; positive = true } ∷ z ∷ []) (second_is ∙ ap {A = ℕ} {B = Lit} (λ k. record { var = k; positive = true }) third)
          ∙ sym (hold-append old.vars rows both) ∙ ap (hold_from old.vars) more,
    )

-- ---- two networks side by side

rows_of_steady : (n : Network) → rows_of (steady_formula n) ≡ rows_in (steady_clauses n)
rows_of_steady n = rows_back (length n.edges) (rows_in (steady_clauses n))

pub side_by_side : (a b : Network) (f x y z new : FormulaParts) → f ≡ parts (length a.edges + length b.edges) [] []
    → x ≡ with_rows f (map (moved_row (first_shift a b)) (rows_of (steady_formula a)))
    → y ≡ with_rows x (map (moved_row (second_columns a b)) (rows_of (steady_formula b)))
    → z ≡ with_lits y (map (moved_lits (first_shift a b)) (steady_formula a).clauses)
    → new ≡ with_lits z (map (moved_lits (second_vars a b)) (steady_formula b).clauses)
    → new ≡ networks_formula a b
side_by_side a b f x y z new e p q r h =
    let first : List RowParts = rows_in (steady_clauses a) in
    let second : List RowParts = rows_in (steady_clauses b) in
    let ones : List RowParts = map (moved_row (first_shift a b)) first in
    let twos : List RowParts = map (moved_row (second_columns a b)) second in
    let start : FormulaParts = parts (length a.edges + length b.edges) [] [] in
    let next : ℕ = length a.edges + length b.edges + length ones in
    let of_first = ap (λ l. map (moved_row (first_shift a b)) l) (rows_of_steady a) in
    let of_second = ap (λ l. map (moved_row (second_columns a b)) l) (rows_of_steady b) in
    let one : x ≡ with_rows start ones = p ∙ ap (λ l. with_rows f l) of_first ∙ ap (λ g. with_rows g ones) e in
    let two : y ≡ with_rows (with_rows start ones) twos = q ∙ ap (λ l. with_rows x l) of_second ∙ ap (λ g. with_rows g twos) one in
    let cs : List (List Lit) = map (moved_lits (first_shift a b)) (steady_formula a).clauses in
    let ds : List (List Lit) = map (moved_lits (second_vars a b)) (steady_formula b).clauses in
    let long_first = length-map first (moved_row (first_shift a b)) in
    let long_second = length-map second (moved_row (second_columns a b)) in
    h ∙ ap (λ g. with_lits g ds) (r ∙ ap (λ g. with_lits g cs) two)
    ∙ same_parts (next + length twos) (networks_formula a b).vars (cs ++ ds) (cs ++ ds) (atoms_from (length a.edges + length b.edges) ones ++ atoms_from next twos) (networks_formula a b).atoms
    (omega (arith, long_first, long_second)) refl
    (ap (λ l. l ++ atoms_from next twos) (moved_from (first_shift a b) (first_shift a b) (length a.edges) (length a.edges + length b.edges) first (omega arith) refl)
    ∙ ap (λ l. moved_atoms (first_shift a b) (first_shift a b) (atoms_from (length a.edges) first) ++ l)
    (moved_from (second_vars a b) (second_columns a b) (length b.edges) next second (omega arith) (omega (arith, long_first))))
