-- Literals, clauses and atoms that are numbered one after another.
use Rattle.std.proofs.Common.{◌≡◌, ℕ, ◌<◌, ◌≤◌, ◌+◌, List, [], ◌∷◌, ◌++◌, length, ap, sym, ◌∙◌, refl, true, subst, arith, zero, suc, append_assoc, append-nil, length-append}
use Rattle.std.specs.List.{All, AllByRecursion, flat_map}
use Rattle.std.proofs.lemmas.Grind.{flat_map-append}
use Rattle.bt_frac.specs.Rows.{RowParts}
use Rattle.bt_cnf.specs.declared.literal.Lit.{Lit}
use Rattle.bt_cnf.specs.Formulas.{FormulaParts}
use Rattle.bt_flow_formula.specs.declared.state_literal.Pair.{Pair}
use Rattle.bt_flow_formula.specs.declared.state_literal.StateLiteral.{StateLiteral}
use Rattle.bt_flow_formula.specs.declared.state_literal.StateLiteral.TheVariants.{Mark, Says, First}
use Rattle.bt_flow_formula.specs.Pairs.{first_row}
use Rattle.bt_flow_formula.specs.Numbering.{mentioned, rows_in, literals_from, clauses_from, atoms_from, IsVariable, IsNamed}
use Rattle.bt_flow_formula.specs.inner.Within.{IsWithin, AreWithin}
use Rattle.bt_flow_formula.specs.inner.Adding.{IsAfter, with_clauses}

pub atoms-append : (m : ℕ) (rows more : List RowParts) → atoms_from m (rows ++ more) ≡ atoms_from m rows ++ atoms_from (m + length rows) more
atoms-append m [] more = ap (λ k. atoms_from k more) (let e : m ≡ m + length {A = RowParts} [] = omega arith in e)
atoms-append m (r ∷ rows) more =
    ap (λ l. (m, r) ∷ l) (atoms-append (m + 1) rows more ∙ ap (λ k. atoms_from (m + 1) rows ++ atoms_from k more) (let e : m + 1 + length rows ≡ m + length (r ∷ rows) = omega arith in e))

literals-append : (at : Pair → ℕ) (m : ℕ) (claims more : List StateLiteral)
    → literals_from at m (claims ++ more) ≡ literals_from at m claims ++ literals_from at (m + length (flat_map mentioned claims)) more
literals-append at m [] more = ap (λ k. literals_from at k more) (let e : m ≡ m + length {A = RowParts} [] = omega arith in e)
literals-append at m (Mark a b ∷ claims) more = ap (λ l. record { var = a; positive = b } ∷ l) (literals-append at m claims more)
literals-append at m (Says row ∷ claims) more =
    ap (λ l. record { var = m; positive = true } ∷ l)
    (literals-append at (m + 1) claims more ∙ ap (λ k. literals_from at (m + 1) claims ++ literals_from at k more) (let e : m + 1 + length (flat_map mentioned claims) ≡ m + length (flat_map mentioned (Says row ∷ claims)) = omega arith in e))
literals-append at m (First pair ∷ claims) more = ap (λ l. record { var = at pair; positive = true } ∷ l) (literals-append at m claims more)

clauses-append : (at : Pair → ℕ) (m : ℕ) (clauses more : List (List StateLiteral))
    → clauses_from at m (clauses ++ more) ≡ clauses_from at m clauses ++ clauses_from at (m + length (rows_in clauses)) more
clauses-append at m [] more = ap (λ k. clauses_from at k more) (let e : m ≡ m + length {A = RowParts} [] = omega arith in e)
clauses-append at m (first ∷ clauses) more =
    let long = length-append (flat_map mentioned first) (rows_in clauses) in
    ap (λ l. literals_from at m first ∷ l)
    (clauses-append at (m + length (flat_map mentioned first)) clauses more
    ∙ ap (λ k. clauses_from at (m + length (flat_map mentioned first)) clauses ++ clauses_from at k more)
    (let e : m + length (flat_map mentioned first) + length (rows_in clauses) ≡ m + length (rows_in (first ∷ clauses)) = omega (arith, long) in e))

pub all_from : {X : Type 0} (P : X → Type 0) (xs : List X) → AllByRecursion P xs → All P xs
all_from P [] h zero d l = absurd (omega arith)
all_from P [] h (suc k) d l = absurd (omega arith)
all_from P (x ∷ xs) h zero d l = h.0
all_from P (x ∷ xs) h (suc k) d l = all_from P xs h.1 k d (omega arith)

pub all_to : {X : Type 0} (P : X → Type 0) (xs : List X) → All P xs → AllByRecursion P xs
all_to P [] h = tt
all_to P (x ∷ xs) h = (h 0 x (omega arith), all_to P xs (λ k d l. h (suc k) d (omega arith)))

-- what holds of all atoms holds of a row and its variable
pub at_variable : (P : ℕ × RowParts → Type 0) (first : ℕ) (rows : List RowParts) (row : RowParts) (var : ℕ) → AllByRecursion P (atoms_from first rows) → IsVariable first rows row var
    → P (var, row)
at_variable P first rows row var h v =
    let split = subst (AllByRecursion P) (ap (atoms_from first) v.split ∙ atoms-append first v.before (row ∷ v.after)) h in
    subst (λ k. P (k, row)) (sym v.place) (second_part P (atoms_from first v.before) (atoms_from (first + length v.before) (row ∷ v.after)) split).0
  where
    second_part : {X : Type 0} (P : X → Type 0) (xs ys : List X) → AllByRecursion P (xs ++ ys) → AllByRecursion P ys
    second_part P [] ys h = h
    second_part P (x ∷ xs) ys h = second_part P xs ys h.1

-- a named claim is within all variables
pub named_within : (at : Pair → ℕ) (marks n : ℕ) (rows : List RowParts) → marks + length rows ≤ n → (claim : StateLiteral) → IsNamed at marks rows claim → IsWithin at n claim
named_within at marks n rows l (Mark a b) h = omega (arith, h, l)
named_within at marks n rows l (Says row) h = tt
named_within at marks n rows l (First pair) h =
    let long = ap length h.split ∙ length-append h.before (first_row pair ∷ h.after) in
    let place = h.place in
    omega (arith, long, place, l)

pub named_in_range : (at : Pair → ℕ) (marks n : ℕ) (rows : List RowParts) → marks + length rows ≤ n → (claims : List StateLiteral) → AllByRecursion (IsNamed at marks rows) claims
    → AllByRecursion (IsWithin at n) claims
named_in_range at marks n rows l [] h = tt
named_in_range at marks n rows l (claim ∷ claims) h = (named_within at marks n rows l claim h.0, named_in_range at marks n rows l claims h.1)

-- a claim within a number of variables is within a greater one
claim_wider : (at : Pair → ℕ) (m n : ℕ) → m ≤ n → (claim : StateLiteral) → IsWithin at m claim → IsWithin at n claim
claim_wider at m n l (Mark a b) h = omega (arith, h, l)
claim_wider at m n l (Says row) h = tt
claim_wider at m n l (First pair) h = omega (arith, h, l)

pub within_more : (at : Pair → ℕ) (m n : ℕ) → m ≤ n → (claims : List StateLiteral) → AllByRecursion (IsWithin at m) claims → AllByRecursion (IsWithin at n) claims
within_more at m n l [] h = tt
within_more at m n l (claim ∷ claims) h = (claim_wider at m n l claim h.0, within_more at m n l claims h.1)

pub all_within_more : (at : Pair → ℕ) (m n : ℕ) → m ≤ n → (clauses : List (List StateLiteral)) → AreWithin at m clauses → AreWithin at n clauses
all_within_more at m n l [] h = tt
all_within_more at m n l (claims ∷ clauses) h = (within_more at m n l claims h.0, all_within_more at m n l clauses h.1)

-- the literals of claims are of variables in range
pub literals_below : (at : Pair → ℕ) (n m : ℕ) (claims : List StateLiteral) → AllByRecursion (IsWithin at n) claims → m + length (flat_map mentioned claims) ≤ n
    → AllByRecursion (λ l. l.var < n) (literals_from at m claims)
literals_below at n m [] h l = tt
literals_below at n m (Mark a b ∷ claims) h l = (h.0, literals_below at n m claims h.1 l)
literals_below at n m (Says row ∷ claims) h l = (omega arith, literals_below at n (m + 1) claims h.1 (omega arith))
literals_below at n m (First pair ∷ claims) h l = (h.0, literals_below at n m claims h.1 l)

-- a formula whose three parts are the same
abbrev pub parts : ℕ → List (List Lit) → List (ℕ × RowParts) → FormulaParts
parts v cs xs = record { vars = v; clauses = cs; atoms = xs }

pub same_parts : (v w : ℕ) (cs ds : List (List Lit)) (xs ys : List (ℕ × RowParts)) → v ≡ w → cs ≡ ds → xs ≡ ys → parts v cs xs ≡ parts w ds ys
same_parts v w cs ds xs ys p q r = ap (λ n. parts n cs xs) p ∙ ap (λ l. parts w l xs) q ∙ ap (λ l. parts w ds l) r

-- no claim is numbered yet
pub none_after : (at : Pair → ℕ) (f : FormulaParts) → IsAfter at f [] f []
none_after at f = record {
  formula = same_parts f.vars (f.vars + length {A = RowParts} []) f.clauses f.clauses f.atoms (f.atoms ++ []) (omega arith) refl (sym (append-nil f.atoms));
  literals = refl;
}

-- a claim is numbered after others
claim_added : (at : Pair → ℕ) (old now new : FormulaParts) (front : List StateLiteral) (claim : StateLiteral) (lits : List Lit) (lit : Lit) → IsAfter at old front now lits → IsAfter at now (claim ∷ []) new (lit ∷ [])
    → IsAfter at old (front ++ claim ∷ []) new (lits ++ lit ∷ [])
claim_added at old now new front claim lits lit after g =
    let vars : now.vars ≡ old.vars + length (flat_map mentioned front) = ap (λ f. f.vars) after.formula in
    let one : List RowParts = flat_map mentioned (claim ∷ []) in
    let rows : flat_map mentioned (front ++ claim ∷ []) ≡ flat_map mentioned front ++ one = flat_map-append mentioned front (claim ∷ []) in
    let long = ap length rows ∙ length-append (flat_map mentioned front) one in
    record {
      formula = g.formula
          ∙ same_parts (now.vars + length one) (old.vars + length (flat_map mentioned (front ++ claim ∷ []))) now.clauses old.clauses
          (now.atoms ++ atoms_from now.vars one) (old.atoms ++ atoms_from old.vars (flat_map mentioned (front ++ claim ∷ [])))
          (omega (arith, vars, long))
          (ap (λ f. f.clauses) after.formula)
          (ap (λ a. a ++ atoms_from now.vars one) (ap (λ f. f.atoms) after.formula)
          ∙ append_assoc old.atoms (atoms_from old.vars (flat_map mentioned front)) (atoms_from now.vars one)
          ∙ ap (λ k. old.atoms ++ (atoms_from old.vars (flat_map mentioned front) ++ atoms_from k one)) vars
          ∙ ap (λ l. old.atoms ++ l) (sym (ap (atoms_from old.vars) rows ∙ atoms-append old.vars (flat_map mentioned front) one)));
      literals = ap (λ l. l ++ lit ∷ []) after.literals
          ∙ ap (λ l. literals_from at old.vars front ++ l) (g.literals ∙ ap (λ k. literals_from at k (claim ∷ [])) vars)
          ∙ sym (literals-append at old.vars front (claim ∷ []));
    }

-- two rows are numbered after others, and their literals pushed
pub rows_added : (at : Pair → ℕ) (old now one new : FormulaParts) (front after : List StateLiteral) (a b : RowParts) (lits mid more : List Lit) (x y : Lit) → IsAfter at old front now lits
    → IsAfter at now (Says a ∷ []) one (x ∷ []) → mid ≡ lits ++ x ∷ [] → IsAfter at one (Says b ∷ []) new (y ∷ []) → more ≡ mid ++ y ∷ []
    → front ++ Says a ∷ Says b ∷ [] ≡ after → IsAfter at old after new more
rows_added at old now one new front after a b lits mid more x y h first e second g same =
    let both = claim_added at old one new (front ++ Says a ∷ []) (Says b) (lits ++ x ∷ []) y (claim_added at old now one front (Says a) lits x h first) second in
    let pushed : (lits ++ x ∷ []) ++ y ∷ [] ≡ more = sym (g ∙ ap (λ l. l ++ y ∷ []) e) in
    let claims : (front ++ Says a ∷ []) ++ Says b ∷ [] ≡ after = append_assoc front (Says a ∷ []) (Says b ∷ []) ∙ same in
    subst (IsAfter at old after new) pushed (subst (λ c. IsAfter at old c new ((lits ++ x ∷ []) ++ y ∷ [])) claims both)

-- all claims of a clause are numbered
pub clause_below : (at : Pair → ℕ) (old now : FormulaParts) (all : List StateLiteral) (lits : List Lit) → IsAfter at old all now lits
    → AllByRecursion (IsWithin at old.vars) all → All (λ l. l.var < now.vars) lits
clause_below at old now all lits after h =
    let vars = ap (λ f. f.vars) after.formula in
    subst (All (λ l. l.var < now.vars)) (sym after.literals)
    (all_from _ (literals_from at old.vars all) (literals_below at now.vars old.vars all (within_more at old.vars now.vars (omega (arith, vars)) all h) (omega (arith, vars))))

pub clause_added : (at : Pair → ℕ) (old now new : FormulaParts) (all : List StateLiteral) (lits : List Lit) → IsAfter at old all now lits
    → new ≡ record now { clauses = now.clauses ++ lits ∷ [] } → new ≡ with_clauses at old (all ∷ [])
clause_added at old now new all lits after e =
    let rows = sym (append-nil (flat_map mentioned all)) in
    e ∙ ap {A = FormulaParts} {B = FormulaParts} (λ f. record f { clauses = f.clauses ++ lits ∷ [] }) after.formula
    ∙ same_parts (old.vars + length (flat_map mentioned all)) (old.vars + length (rows_in (all ∷ []))) (old.clauses ++ lits ∷ []) (old.clauses ++ clauses_from at old.vars (all ∷ []))
    (old.atoms ++ atoms_from old.vars (flat_map mentioned all)) (old.atoms ++ atoms_from old.vars (rows_in (all ∷ [])))
    (ap (λ l. old.vars + length l) rows) (ap (λ l. old.clauses ++ l ∷ []) after.literals) (ap (λ l. old.atoms ++ atoms_from old.vars l) rows)

-- no clauses, and clauses after others
pub with_none : (at : Pair → ℕ) (f : FormulaParts) → f ≡ with_clauses at f []
with_none at f =
    same_parts f.vars (f.vars + length {A = RowParts} []) f.clauses (f.clauses ++ []) f.atoms (f.atoms ++ []) (omega arith) (sym (append-nil f.clauses)) (sym (append-nil f.atoms))

pub with_more : (at : Pair → ℕ) (f : FormulaParts) (clauses more : List (List StateLiteral)) → with_clauses at (with_clauses at f clauses) more ≡ with_clauses at f (clauses ++ more)
with_more at f clauses more =
    let rows : rows_in (clauses ++ more) ≡ rows_in clauses ++ rows_in more = flat_map-append (flat_map mentioned) clauses more in
    let long = ap length rows ∙ length-append (rows_in clauses) (rows_in more) in
    let next : ℕ = f.vars + length (rows_in clauses) in
    same_parts (next + length (rows_in more)) (f.vars + length (rows_in (clauses ++ more)))
    (f.clauses ++ clauses_from at f.vars clauses ++ clauses_from at next more) (f.clauses ++ clauses_from at f.vars (clauses ++ more))
    (f.atoms ++ atoms_from f.vars (rows_in clauses) ++ atoms_from next (rows_in more)) (f.atoms ++ atoms_from f.vars (rows_in (clauses ++ more)))
    (omega (arith, long))
    (append_assoc f.clauses (clauses_from at f.vars clauses) (clauses_from at next more) ∙ ap (λ l. f.clauses ++ l) (sym (clauses-append at f.vars clauses more)))
    (append_assoc f.atoms (atoms_from f.vars (rows_in clauses)) (atoms_from next (rows_in more))
    ∙ ap (λ l. f.atoms ++ l) (sym (ap (atoms_from f.vars) rows ∙ atoms-append f.vars (rows_in clauses) (rows_in more))))

-- what was added before, and what is added to it
pub added_more : (at : Pair → ℕ) (old now new : FormulaParts) (before more after : List (List StateLiteral)) → now ≡ with_clauses at old before → new ≡ with_clauses at now more → before ++ more ≡ after
    → new ≡ with_clauses at old after
added_more at old now new before more after e h same = h ∙ ap (λ f. with_clauses at f more) e ∙ with_more at old before more ∙ ap (with_clauses at old) same

-- the same of the formula alone
pub then_more : (at : Pair → ℕ) (old now : FormulaParts) (before more after : List (List StateLiteral)) → now ≡ with_clauses at old before → before ++ more ≡ after
    → with_clauses at now more ≡ with_clauses at old after
then_more at old now before more after e same = ap (λ f. with_clauses at f more) e ∙ with_more at old before more ∙ ap (with_clauses at old) same

-- a formula's variables stay, and more come
pub marks_stay : (at : Pair → ℕ) (marks : ℕ) (old now : FormulaParts) (clauses : List (List StateLiteral)) → now ≡ with_clauses at old clauses → marks ≤ old.vars → marks ≤ now.vars
marks_stay at marks old now clauses e h = let v = ap (λ f. f.vars) e in omega (arith, v, h)
