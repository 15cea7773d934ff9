-- A walk over hints, step by step.
use Rattle.std.proofs.Common.{◌≡◌, ℕ, ◌<◌, ◌≤◌, ◌+◌, ◌-◌, ◌↔◌, arith, Bool, false, List, [], ◌∷◌, ◌++◌, length, get_or, take, drop, Option, IsTrue, ap, sym, ◌∙◌, subst, map, length-append, take-append-drop}
use Rattle.std.specs.Prelude.{Contains}
use Rattle.std.specs.List.{All}
use Rattle.std.proofs.lemmas.List.{map-append, length-map, get_or-map, get_or_append_left, drop_more, drop_all}
use Rattle.std.proofs.lemmas.List.Elements.{All-map, All-contains, Contains-push, Contains-append_left}
use Rattle.bt_cnf.specs.Formulas.{LitsBelow}
use Rattle.bt_cnf.specs.declared.literal.Lit.{Lit}
use Rattle.bt_log.specs.Units.{UnitsRefute}
use Rattle.bt_cnf.specs.Units.{clause_at}
use Rattle.bt_cert.specs.inner.Checking.{Checking}
use Rattle.bt_cert.specs.Judging.{AreHints}
use Rattle.bt_cert.specs.inner.Assuming.{Propagates, IsFalseIn}
use Rattle.bt_cert.specs.inner.Refuting.{IsSound, IsPropagated, IsRefuted, hinted, places_of}
use Rattle.bt_cert.proofs.Told.{refuted}

-- what is among the first items is among all
pub among_front : {X : Type 0} (xs : List X) (i : ℕ) (x : X) → Contains (take i xs) x → Contains xs x
among_front xs i x among = subst (λ ys. Contains ys x) (take-append-drop i xs) (Contains-append_left (take i xs) (drop i xs) x among)

-- the item at a place is among all
pub among_at : {X : Type 0} (xs : List X) (i : ℕ) (x : X) → i < length xs → x ≡ get_or xs i x → Contains xs x
among_at xs i x inside is = (i, inside, sym is)

-- the variable of a literal of a list has a value's place
pub var_below : (lits : List Lit) (i : ℕ) (x : Lit) (n m : ℕ) → LitsBelow n lits → i < length lits → x ≡ get_or lits i x → m ≡ n → x.var < m
var_below lits i x n m below inside is same = subst (λ k. x.var < k) (sym same) (subst (λ (l : Lit). l.var < n) (sym is) (below i x inside))

-- the place that a number names, among those of all numbers
pub place_at : (numbers : List ℕ) (i : ℕ) → i < length numbers → get_or (places_of numbers) i (get_or numbers i 0 - 1) ≡ get_or numbers i 0 - 1
place_at numbers i inside = get_or-map (λ n. n - 1) numbers i 0 (get_or numbers i 0 - 1) inside

pub place_below : (numbers : List ℕ) (i : ℕ) → i < length numbers → i < length (places_of numbers)
place_below numbers i inside = omega (arith, inside, length-map numbers (λ n. n - 1))

-- a clause that a hint before the last names is known
pub hint_inside : (clauses : List (List Lit)) (hints units : List ℕ) (last i : ℕ) → AreHints clauses (places_of hints) → hints ≡ units ++ last ∷ [] → i < length units
    → get_or units i 0 - 1 < length clauses
hint_inside clauses hints units last i are is inside =
    let within : i < length hints = omega (arith, inside, ap length is, length-append units (last ∷ [])) in
    let same : get_or hints i 0 ≡ get_or units i 0 = ap (λ xs. get_or xs i 0) is ∙ get_or_append_left units (last ∷ []) 0 i inside in
    subst (λ n. n - 1 < length clauses) same
    (subst (λ n. n < length clauses) (place_at hints i within) (are i (get_or hints i 0 - 1) (place_below hints i within)))

-- the hinted clauses are the ones before the last, and the last
hinted_split : (known : Checking) (hints units : List ℕ) (last : ℕ) → hints ≡ units ++ last ∷ [] → hinted known hints ≡ hinted known units ++ clause_at known.clauses (last - 1) ∷ []
hinted_split known hints units last is =
    ap (hinted known) is ∙ ap (map (clause_at known.clauses)) (map-append (λ n. n - 1) units (last ∷ [])) ∙ map-append (clause_at known.clauses) (places_of units) ((last - 1) ∷ [])

-- the literals of the hinted clauses are of variables
hinted_below : (known : Checking) (hints : List ℕ) → IsSound known → AreHints known.clauses (places_of hints) → All (LitsBelow known.formula.vars) (hinted known hints)
hinted_below known hints sound are =
    All-map (LitsBelow known.formula.vars) (clause_at known.clauses) (places_of hints)
    (λ k d inside. sound.clauses (get_or (places_of hints) k d) [] (are k d inside))

-- one more clause was no unit
pub walks_no_more : (known : Checking) (old new : List (Option Bool)) (units : List ℕ) (i : ℕ) (last : List Lit) → i < length units
    → IsPropagated old (clause_at known.clauses (get_or units i 0 - 1)) new false → Propagates old (hinted known (drop i units)) last → ⊥
walks_no_more known old new units i last inside none propagates =
    let split : Propagates old (hinted known (get_or units i 0 ∷ drop (i + 1) units)) last = subst (λ xs. Propagates old (hinted known xs) last) (drop_more units i 0 inside) propagates in
    none split.0 split.1

-- the walk came to the last clause
pub walk_ends : (known : Checking) (start now : List (Option Bool)) (units : List ℕ) (i last place : ℕ) (clause : List Lit) (answer : Bool) → length units ≤ i → place ≡ last - 1
    → clause_at known.clauses place ≡ clause → IsTrue answer ↔ All (IsFalseIn now) clause
    → Propagates start (hinted known units) (clause_at known.clauses (last - 1)) ↔ Propagates now (hinted known (drop i units)) (clause_at known.clauses (last - 1))
    → IsTrue answer ↔ Propagates start (hinted known units) (clause_at known.clauses (last - 1))
walk_ends known start now units i last place clause answer ended at is answers left =
    let end = clause_at known.clauses (last - 1) in
    let same : end ≡ clause = ap (clause_at known.clauses) (sym at) ∙ is in
    let none : drop i units ≡ [] = drop_all i units ended in
    let left_end = subst (λ xs. Propagates start (hinted known units) end ↔ Propagates now (hinted known xs) end) none left in
    (λ yes. left_end.1 (subst (All (IsFalseIn now)) (sym same) (answers.0 yes)), λ propagates. answers.1 (subst (All (IsFalseIn now)) same (left_end.0 propagates)))

-- what is told of a walk
pub told : (known : Checking) (values : List (Option Bool)) (hints units : List ℕ) (last : ℕ) (answer : Bool) → IsSound known → AreHints known.clauses (places_of hints)
    → length values ≡ known.formula.vars → hints ≡ units ++ last ∷ [] → IsTrue answer ↔ Propagates values (hinted known units) (clause_at known.clauses (last - 1))
    → IsRefuted values (hinted known hints) answer
told known values hints units last answer sound are size is answers falses tells =
    let front = hinted known units in
    let end = clause_at known.clauses (last - 1) in
    let below : All (LitsBelow known.formula.vars) (front ++ end ∷ []) = subst (All (LitsBelow known.formula.vars)) (hinted_split known hints units last is) (hinted_below known hints sound are) in
    let all : All (LitsBelow (length values)) (front ++ end ∷ []) = subst (λ n. All (LitsBelow n) (front ++ end ∷ [])) (sym size) below in
    let both = refuted values falses front end tells (λ k d inside. subst (LitsBelow (length values)) (get_or_append_left front (end ∷ []) d k inside) (all k d (omega (arith, inside, length-append front (end ∷ [])))))
    (All-contains (LitsBelow (length values)) (front ++ end ∷ []) end all (Contains-push front end)) in
    subst (λ clauses. IsTrue answer ↔ UnitsRefute falses clauses) (sym (hinted_split known hints units last is))
    (λ yes. both.0 (answers.0 yes), λ refutes. answers.1 (both.1 refutes))
