-- Lists in a strict order: what they have determines them.
use Rattle.std.proofs.Common.{◌≡◌, ◌≢◌, ◌⊎◌, ℕ, zero, suc, ◌<◌, List, [], ◌∷◌, length, get_or, Some, refl, sym, ◌∙◌, subst, inl, inr, ⊎_elim, arith}
use Rattle.std.specs.List.{AllPairs, Contains, AllZip, slice_get}
use Rattle.std.proofs.lemmas.Option.{slice_get_within, get_or_from_slice_get}
use Rattle.std.proofs.lemmas.Bool.{cases_order}

-- no two come each before the other
abbrev pub IsAsymmetric : {X : Type 0} → (X → X → Type 0) → Type 0
IsAsymmetric {X} R = (x y : X) → R x y → R y x → ⊥

at_place : {X : Type 0} (y : X) (ys : List X) (x : X) (k : ℕ) → k < length (y ∷ ys) → get_or (y ∷ ys) k x ≡ x → (x ≡ y) ⊎ Contains ys x
at_place y ys x zero lt e = inl (sym e)
at_place y ys x (suc k) lt e = inr (k, omega arith, e)

pub contains_cases : {X : Type 0} (y : X) (ys : List X) (x : X) → Contains (y ∷ ys) x → (x ≡ y) ⊎ Contains ys x
contains_cases y ys x h = at_place y ys x h.0 h.1 h.2

pub contains_head : {X : Type 0} (y : X) (ys : List X) → Contains (y ∷ ys) y
contains_head y ys = (0, omega arith, refl)

pub contains_more : {X : Type 0} (y : X) (ys : List X) (x : X) → Contains ys x → Contains (y ∷ ys) x
contains_more y ys x h = let lt = h.1 in (suc h.0, omega arith, h.2)

pub contains_none : {X : Type 0} (x : X) → Contains [] x → ⊥
contains_none x h = let lt = h.1 in omega arith

-- the first comes before each later one
pub pairs_head : {X : Type 0} (R : X → X → Type 0) (x : X) (xs : List X) (y : X) → AllPairs R (x ∷ xs) → Contains xs y → R x y
pairs_head R x xs y h there = let lt = there.1 in subst (λ z. R x z) there.2 (h 0 (suc there.0) y (omega arith) (omega arith))

pub pairs_tail : {X : Type 0} (R : X → X → Type 0) (x : X) (xs : List X) → AllPairs R (x ∷ xs) → AllPairs R xs
pairs_tail R x xs h = λ i j d lt below. h (suc i) (suc j) d (omega arith) (omega arith)

-- two lists in one strict order with the same members are the same
pub same_ascending : {X : Type 0} (R : X → X → Type 0) → IsAsymmetric R → (xs ys : List X) → AllPairs R xs → AllPairs R ys
    → ((x : X) → Contains xs x → Contains ys x) → ((x : X) → Contains ys x → Contains xs x) → xs ≡ ys
same_ascending R asym [] [] up_xs up_ys to from = refl
same_ascending R asym [] (y ∷ ys) up_xs up_ys to from = absurd (contains_none y (from y (contains_head y ys)))
same_ascending R asym (x ∷ xs) [] up_xs up_ys to from = absurd (contains_none x (to x (contains_head x xs)))
same_ascending {X} R asym (x ∷ xs) (y ∷ ys) up_xs up_ys to from =
    let heads : x ≡ y =
    ⊎_elim (λ e. e) (λ later. ⊎_elim (λ e. sym e) (λ after. absurd (asym x y (pairs_head R x xs y up_xs after) (pairs_head R y ys x up_ys later)))
    (contains_cases x xs y (from y (contains_head y ys))))
    (contains_cases y ys x (to x (contains_head x xs))) in
    let tails : xs ≡ ys = same_ascending R asym xs ys (pairs_tail R x xs up_xs) (pairs_tail R y ys up_ys)
    (λ z there. ⊎_elim
    (λ e. let same : z ≡ x = e ∙ sym heads in absurd (asym x x (subst (λ w. R x w) same (pairs_head R x xs z up_xs there)) (subst (λ w. R x w) same (pairs_head R x xs z up_xs there))))
    (λ later. later)
    (contains_cases y ys z (to z (contains_more x xs z there))))
    (λ z there. ⊎_elim
    (λ e. let same : z ≡ y = e ∙ heads in absurd (asym y y (subst (λ w. R y w) same (pairs_head R y ys z up_ys there)) (subst (λ w. R y w) same (pairs_head R y ys z up_ys there))))
    (λ later. later)
    (contains_cases x xs z (from z (contains_more y ys z there)))) in
    cc

-- a list without repetition has each member at one place
pub one_place : {X : Type 0} (xs : List X) → AllPairs ◌≢◌ xs → (i j : ℕ) (x : X) → slice_get xs i ≡ Some x → slice_get xs j ≡ Some x → i ≡ j
one_place xs once i j x at_i at_j =
    let in_i : i < length xs = slice_get_within xs i x at_i in
    let in_j : j < length xs = slice_get_within xs j x at_j in
    let same : get_or xs i x ≡ get_or xs j x = get_or_from_slice_get xs i x x at_i ∙ sym (get_or_from_slice_get xs j x x at_j) in
    ⊎_elim (λ e. e) (λ apart. ⊎_elim (λ lt. absurd (once i j x lt in_j same)) (λ gt. absurd (once j i x gt in_i (sym same))) apart)
    (cases_order i j)

-- what each of a list determines, the list determines
pub same_zipped : {X Y : Type 0} (R : X → Y → Type 0) → ((x : X) (y z : Y) → R x y → R x z → y ≡ z)
    → (xs : List X) (ys zs : List Y) → AllZip R xs ys → AllZip R xs zs → ys ≡ zs
same_zipped R one [] [] [] hy hz = refl
same_zipped R one [] [] (z ∷ zs) hy hz = absurd hz
same_zipped R one [] (y ∷ ys) zs hy hz = absurd hy
same_zipped R one (x ∷ xs) [] zs hy hz = absurd hy
same_zipped R one (x ∷ xs) (y ∷ ys) [] hy hz = absurd hz
same_zipped R one (x ∷ xs) (y ∷ ys) (z ∷ zs) hy hz =
    let heads : y ≡ z = one x y z hy.0 hz.0 in
    let tails : ys ≡ zs = same_zipped R one xs ys zs hy.1 hz.1 in
    cc
