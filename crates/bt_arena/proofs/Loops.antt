-- What a loop adds, one place, or one item, after another.
use Rattle.std.proofs.Common.{◌≡◌, ℕ, ◌<◌, ◌≤◌, ◌+◌, ◌-◌, Bool, true, false, cond, List, [], ◌∷◌, ◌++◌, length, map, take, get_or, refl, ap, sym, ◌∙◌, arith, zero, suc, append_assoc, append-nil}
use Rattle.std.specs.List.{flat_map, filter, range_with_len, enumerate_from}
use Rattle.std.proofs.lemmas.List.{take_all, take_more, map_push}
use Rattle.std.proofs.lemmas.Grind.{flat_map-append}

-- one number more
pub range_more : (a n : ℕ) → range_with_len a (n + 1) ≡ range_with_len a n ++ (a + n) ∷ []
range_more a zero = ap (λ m. m ∷ []) (let e : a ≡ a + 0 = omega arith in e)
range_more a (suc n) =
    let split : range_with_len a (suc n + 1) ≡ a ∷ range_with_len (a + 1) (n + 1) = ap (range_with_len a) (let e : suc n + 1 ≡ suc (n + 1) = omega arith in e) in
    let place : a + 1 + n ≡ a + suc n = omega arith in
    split ∙ ap (λ l. a ∷ l) (range_more (a + 1) n ∙ ap (λ m. range_with_len (a + 1) n ++ m ∷ []) place)

-- what a place adds
pub place_more : {A : Type 0} (f : ℕ → List A) (old now new : List A) (n : ℕ) → now ≡ old ++ flat_map f (range_with_len 0 n) → new ≡ now ++ f n
    → new ≡ old ++ flat_map f (range_with_len 0 (n + 1))
place_more f old now new n e h =
    let more : flat_map f (range_with_len 0 (n + 1)) ≡ flat_map f (range_with_len 0 n) ++ f n =
    ap (flat_map f) (range_more 0 n ∙ ap (λ m. range_with_len 0 n ++ m ∷ []) (let z : 0 + n ≡ n = omega arith in z))
    ∙ flat_map-append f (range_with_len 0 n) (n ∷ []) ∙ ap (λ l. flat_map f (range_with_len 0 n) ++ l) (append-nil (f n)) in
    h ∙ ap (λ l. l ++ f n) e ∙ append_assoc old (flat_map f (range_with_len 0 n)) (f n) ∙ ap (λ l. old ++ l) (sym more)

-- what a place adds, one item
pub item_more : {A : Type 0} (f : ℕ → A) (old now new : List A) (n : ℕ) → now ≡ old ++ map f (range_with_len 0 n) → new ≡ now ++ f n ∷ []
    → new ≡ old ++ map f (range_with_len 0 (n + 1))
item_more f old now new n e h =
    let more : map f (range_with_len 0 (n + 1)) ≡ map f (range_with_len 0 n) ++ f n ∷ [] =
    ap (map f) (range_more 0 n ∙ ap (λ m. range_with_len 0 n ++ m ∷ []) (let z : 0 + n ≡ n = omega arith in z)) ∙ map_push f (range_with_len 0 n) n in
    h ∙ ap (λ l. l ++ f n ∷ []) e ∙ append_assoc old (map f (range_with_len 0 n)) (f n ∷ []) ∙ ap (λ l. old ++ l) (sym more)

-- what an item of a list adds
pub taken_more : {X A : Type 0} (f : X → List A) (xs : List X) (old now new : List A) (i : ℕ) (d : X) → i < length xs → now ≡ old ++ flat_map f (take i xs)
    → new ≡ now ++ f (get_or xs i d) → new ≡ old ++ flat_map f (take (i + 1) xs)
taken_more f xs old now new i d l e h =
    let more : flat_map f (take (i + 1) xs) ≡ flat_map f (take i xs) ++ f (get_or xs i d) =
    ap (flat_map f) (take_more xs i d l) ∙ flat_map-append f (take i xs) (get_or xs i d ∷ []) ∙ ap (λ l. flat_map f (take i xs) ++ l) (append-nil (f (get_or xs i d))) in
    h ∙ ap (λ l. l ++ f (get_or xs i d)) e ∙ append_assoc old (flat_map f (take i xs)) (f (get_or xs i d)) ∙ ap (λ l. old ++ l) (sym more)

-- what an item of a list adds, one item
pub mapped_more : {X A : Type 0} (f : X → A) (xs : List X) (old now new : List A) (i : ℕ) (d : X) → i < length xs → now ≡ old ++ map f (take i xs)
    → new ≡ now ++ f (get_or xs i d) ∷ [] → new ≡ old ++ map f (take (i + 1) xs)
mapped_more f xs old now new i d l e h =
    let more : map f (take (i + 1) xs) ≡ map f (take i xs) ++ f (get_or xs i d) ∷ [] =
    ap (map f) (take_more xs i d l) ∙ map_push f (take i xs) (get_or xs i d) in
    h ∙ ap (λ l. l ++ f (get_or xs i d) ∷ []) e ∙ append_assoc old (map f (take i xs)) (f (get_or xs i d) ∷ []) ∙ ap (λ l. old ++ l) (sym more)

-- what all items of a list add
pub taken_all : {X A : Type 0} (f : X → List A) (xs : List X) (old now : List A) (i : ℕ) → length xs ≤ i → now ≡ old ++ flat_map f (take i xs) → now ≡ old ++ flat_map f xs
taken_all f xs old now i l e = e ∙ ap (λ x. old ++ flat_map f x) (take_all i xs l)

-- what all items of a list add, one item each
pub mapped_all : {X A : Type 0} (f : X → A) (xs : List X) (old now : List A) (i : ℕ) → length xs ≤ i → now ≡ old ++ map f (take i xs) → now ≡ old ++ map f xs
mapped_all f xs old now i l e = e ∙ ap (λ x. old ++ map f x) (take_all i xs l)

-- a number more of those from 1 on
range_from_one : (n : ℕ) → 1 ≤ n → range_with_len 1 (n + 1 - 1) ≡ range_with_len 1 (n - 1) ++ n ∷ []
range_from_one n le =
    ap (range_with_len 1) (let e : n + 1 - 1 ≡ n - 1 + 1 = omega (arith, le) in e) ∙ range_more 1 (n - 1)
    ∙ ap (λ m. range_with_len 1 (n - 1) ++ m ∷ []) (let e : 1 + (n - 1) ≡ n = omega (arith, le) in e)

-- what a place from 1 on adds
pub from_more : {A : Type 0} (f : ℕ → List A) (old now new : List A) (n : ℕ) → 1 ≤ n → now ≡ old ++ flat_map f (range_with_len 1 (n - 1)) → new ≡ now ++ f n
    → new ≡ old ++ flat_map f (range_with_len 1 (n + 1 - 1))
from_more f old now new n le e h =
    let more : flat_map f (range_with_len 1 (n + 1 - 1)) ≡ flat_map f (range_with_len 1 (n - 1)) ++ f n =
    ap (flat_map f) (range_from_one n le) ∙ flat_map-append f (range_with_len 1 (n - 1)) (n ∷ []) ∙ ap (λ l. flat_map f (range_with_len 1 (n - 1)) ++ l) (append-nil (f n)) in
    h ∙ ap (λ l. l ++ f n) e ∙ append_assoc old (flat_map f (range_with_len 1 (n - 1))) (f n) ∙ ap (λ l. old ++ l) (sym more)

-- what a place from 1 on adds, one item
pub one_from_more : {A : Type 0} (f : ℕ → A) (old now new : List A) (n : ℕ) → 1 ≤ n → now ≡ old ++ map f (range_with_len 1 (n - 1)) → new ≡ now ++ f n ∷ []
    → new ≡ old ++ map f (range_with_len 1 (n + 1 - 1))
one_from_more f old now new n le e h =
    let more : map f (range_with_len 1 (n + 1 - 1)) ≡ map f (range_with_len 1 (n - 1)) ++ f n ∷ [] =
    ap (map f) (range_from_one n le) ∙ map_push f (range_with_len 1 (n - 1)) n in
    h ∙ ap (λ l. l ++ f n ∷ []) e ∙ append_assoc old (map f (range_with_len 1 (n - 1))) (f n ∷ []) ∙ ap (λ l. old ++ l) (sym more)

-- what all places from 1 on add
pub from_all : {A : Type 0} (f : ℕ → List A) (old now : List A) (n m : ℕ) → n - 1 ≡ m → now ≡ old ++ flat_map f (range_with_len 1 (n - 1)) → now ≡ old ++ flat_map f (range_with_len 1 m)
from_all f old now n m same e = e ∙ ap (λ k. old ++ flat_map f (range_with_len 1 k)) same

pub one_from_all : {A : Type 0} (f : ℕ → A) (old now : List A) (n m : ℕ) → n - 1 ≡ m → now ≡ old ++ map f (range_with_len 1 (n - 1)) → now ≡ old ++ map f (range_with_len 1 m)
one_from_all f old now n m same e = e ∙ ap (λ k. old ++ map f (range_with_len 1 k)) same

-- one more of the numbered items
numbers_more : {X : Type 0} (a : ℕ) (xs : List X) (i : ℕ) (d : X) → i < length xs → enumerate_from a (take (i + 1) xs) ≡ enumerate_from a (take i xs) ++ (a + i, get_or xs i d) ∷ []
numbers_more a [] i d lt = absurd (omega arith)
numbers_more a (x ∷ xs) zero d lt = ap (λ n. (n, x) ∷ []) (let e : a ≡ a + 0 = omega arith in e)
numbers_more a (x ∷ xs) (suc i) d lt =
    ap (λ n. enumerate_from a (take n (x ∷ xs))) (let e : suc i + 1 ≡ suc (i + 1) = omega arith in e)
    ∙ ap (λ l. (a, x) ∷ l) (numbers_more (a + 1) xs i d (omega arith) ∙ ap (λ n. enumerate_from (a + 1) (take i xs) ++ (n, get_or xs i d) ∷ []) (let e : a + 1 + i ≡ a + suc i = omega arith in e))

one_tested : {X : Type 0} (x : X) (xs ys : List X) (b : Bool) → xs ≡ ys → cond b (x ∷ xs) xs ≡ cond b (x ∷ []) [] ++ ys
one_tested x xs ys true e = ap (λ l. x ∷ l) e
one_tested x xs ys false e = e

-- the items that pass a test, as what each adds
pub filter_flat : {X : Type 0} (p : X → Bool) (xs : List X) → filter p xs ≡ flat_map (λ x. cond (p x) (x ∷ []) []) xs
filter_flat p [] = refl
filter_flat p (x ∷ xs) = one_tested x (filter p xs) (flat_map (λ y. cond (p y) (y ∷ []) []) xs) (p x) (filter_flat p xs)
