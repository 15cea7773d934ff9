-- What loops over lists have found so far.
use Rattle.std.proofs.Common.{◌≡◌, ℕ, zero, suc, ◌<◌, ◌+◌, Bool, true, false, cond, ◌||◌, List, [], ◌∷◌, ◌++◌, length, map, take, get_or, refl, ap, sym, ◌∙◌, subst, arith, append_assoc, append-nil, length-append}
use Rattle.std.specs.List.{AllByRecursion, flat_map, filter, list_any, range_with_len, count_by}
use Rattle.std.proofs.lemmas.List.{take_more, map-append}
use Rattle.std.proofs.lemmas.List.Elements.{filter-append}
use Rattle.std.proofs.lemmas.Grind.{flat_map-append}
use Rattle.std.proofs.lemmas.List.Sums.{length-filter}
use Rattle.std.proofs.lemmas.List.Folds.{list_any_more, list_any_at}
use Rattle.bt_arena.proofs.Loops.{range_more}

-- ---- that some item passes a test

pub none_more : {X : Type 0} (p : X → Bool) (xs : List X) (i : ℕ) (d : X) → i < length xs → list_any p (take i xs) ≡ false → p (get_or xs i d) ≡ false
    → list_any p (take (i + 1) xs) ≡ false
none_more p xs i d lt none here = list_any_more p xs i d lt ∙ ap (λ b. b || p (get_or xs i d)) none ∙ here

pub some_at : {X : Type 0} (p : X → Bool) (xs : List X) (i : ℕ) (d : X) → i < length xs → p (get_or xs i d) ≡ true → true ≡ list_any p xs
some_at p xs i d lt here = sym (list_any_at p xs i d lt here)

-- ---- the numbers that pass a test

pub number_kept : (p : ℕ → Bool) (now new : List ℕ) (n : ℕ) → now ≡ filter p (range_with_len 0 n) → new ≡ now ++ cond (p n) (n ∷ []) []
    → new ≡ filter p (range_with_len 0 (n + 1))
number_kept p now new n e h =
    let same : n ≡ 0 + n = omega arith in
    h ∙ ap (λ l. l ++ cond (p n) (n ∷ []) []) e ∙ sym (filter-append p (range_with_len 0 n) (n ∷ [])) ∙ ap (λ m. filter p (range_with_len 0 n ++ m ∷ [])) same ∙ ap (filter p) (sym (range_more 0 n))

-- how many they are
counted_more : (p : ℕ → Bool) (n : ℕ) → count_by p (range_with_len 0 (n + 1)) ≡ count_by p (range_with_len 0 n) + length (cond (p n) (n ∷ []) [])
counted_more p n =
    let one = cond (p n) (n ∷ []) [] in
    let kept = number_kept p (filter p (range_with_len 0 n)) (filter p (range_with_len 0 n) ++ one) n refl refl in
    sym (length-filter p (range_with_len 0 (n + 1))) ∙ ap length (sym kept) ∙ length-append (filter p (range_with_len 0 n)) one
    ∙ ap (λ m. m + length one) (length-filter p (range_with_len 0 n))

pub counted_yes : (p : ℕ → Bool) (n : ℕ) → p n ≡ true → count_by p (range_with_len 0 (n + 1)) ≡ count_by p (range_with_len 0 n) + 1
counted_yes p n t = counted_more p n ∙ ap (λ b. count_by p (range_with_len 0 n) + length (cond b (n ∷ []) [])) t

pub counted_no : (p : ℕ → Bool) (n : ℕ) → p n ≡ false → count_by p (range_with_len 0 (n + 1)) ≡ count_by p (range_with_len 0 n) + 0
counted_no p n t = counted_more p n ∙ ap (λ b. count_by p (range_with_len 0 n) + length (cond b (n ∷ []) [])) t

-- the things named by numbers that pass a test
pub named_kept : {X : Type 0} (p : X → Bool) (f : ℕ → X) (old now new : List X) (n : ℕ) → now ≡ old ++ filter p (map f (range_with_len 0 n))
    → new ≡ now ++ cond (p (f n)) (f n ∷ []) [] → new ≡ old ++ filter p (map f (range_with_len 0 (n + 1)))
named_kept p f old now new n e h =
    let xs = filter p (map f (range_with_len 0 n)) in
    let one = cond (p (f n)) (f n ∷ []) [] in
    let same : n ≡ 0 + n = omega arith in
    h ∙ ap (λ l. l ++ one) e ∙ append_assoc old xs one
    ∙ ap (λ l. old ++ l) (sym (filter-append p (map f (range_with_len 0 n)) (f n ∷ [])) ∙ ap (filter p) (sym (map-append f (range_with_len 0 n) (n ∷ []))) ∙ ap (λ m. filter p (map f (range_with_len 0 n ++ m ∷ []))) same ∙ ap (λ l. filter p (map f l)) (sym (range_more 0 n)))

-- and those that numbers give several of
pub flat_named_kept : {X : Type 0} (p : X → Bool) (f : ℕ → List X) (old now new : List X) (n : ℕ) → now ≡ old ++ filter p (flat_map f (range_with_len 0 n))
    → new ≡ now ++ filter p (f n) → new ≡ old ++ filter p (flat_map f (range_with_len 0 (n + 1)))
flat_named_kept p f old now new n e h =
    let xs = filter p (flat_map f (range_with_len 0 n)) in
    let same : n ≡ 0 + n = omega arith in
    let last : flat_map f (n ∷ []) ≡ f n = append-nil (f n) in
    h ∙ ap (λ l. l ++ filter p (f n)) e ∙ append_assoc old xs (filter p (f n))
    ∙ ap (λ l. old ++ l) (sym (filter-append p (flat_map f (range_with_len 0 n)) (f n)) ∙ ap (λ l. filter p (flat_map f (range_with_len 0 n) ++ l)) (sym last)
    ∙ ap (filter p) (sym (flat_map-append f (range_with_len 0 n) (n ∷ []))) ∙ ap (λ m. filter p (flat_map f (range_with_len 0 n ++ m ∷ []))) same ∙ ap (λ l. filter p (flat_map f l)) (sym (range_more 0 n)))

-- of things that are named, those that pass a test, one after another
flat_one : {X Y : Type 0} (f : X → Y) (x : X) (ys zs : List Y) (b : Bool) → ys ≡ zs → cond b (f x ∷ []) [] ++ ys ≡ cond b (f x ∷ zs) zs
flat_one f x ys zs true e = ap (λ l. f x ∷ l) e
flat_one f x ys zs false e = e

pub flat_kept : {X Y : Type 0} (p : Y → Bool) (f : X → Y) (xs : List X) → flat_map (λ x. cond (p (f x)) (f x ∷ []) []) xs ≡ filter p (map f xs)
flat_kept p f [] = refl
flat_kept p f (x ∷ xs) = flat_one f x (flat_map (λ y. cond (p (f y)) (f y ∷ []) []) xs) (filter p (map f xs)) (p (f x)) (flat_kept p f xs)

-- ---- what is made of the items that pass a test

one_made : {X Y : Type 0} (f : X → Y) (x : X) (xs : List X) (ys : List Y) (b : Bool) → map f xs ≡ ys → map f (cond b (x ∷ xs) xs) ≡ cond b (f x ∷ []) [] ++ ys
one_made f x xs ys true e = ap (λ l. f x ∷ l) e
one_made f x xs ys false e = e

pub made_flat : {X Y : Type 0} (f : X → Y) (p : X → Bool) (xs : List X) → map f (filter p xs) ≡ flat_map (λ x. cond (p x) (f x ∷ []) []) xs
made_flat f p [] = refl
made_flat f p (x ∷ xs) = one_made f x (filter p xs) (flat_map (λ y. cond (p y) (f y ∷ []) []) xs) (p x) (made_flat f p xs)

-- ---- lists of things that are so

-- what is so of each item is so of that at a place
pub all_get : {X : Type 0} (P : X → Type 0) (xs : List X) (i : ℕ) (d : X) → AllByRecursion P xs → i < length xs → P (get_or xs i d)
all_get P [] i d h lt = absurd (omega arith)
all_get P (x ∷ xs) zero d h lt = h.0
all_get P (x ∷ xs) (suc i) d h lt = all_get P xs i d h.1 (omega arith)

pub all_push : {X : Type 0} (P : X → Type 0) (xs : List X) (x : X) → AllByRecursion P xs → P x → AllByRecursion P (xs ++ x ∷ [])
all_push P [] x h p = (p, tt)
all_push P (y ∷ xs) x h p = (h.0, all_push P xs x h.1 p)

pub all_pushed : {X : Type 0} (P : X → Type 0) (xs new : List X) (x : X) → new ≡ xs ++ x ∷ [] → AllByRecursion P xs → P x → AllByRecursion P new
all_pushed P xs new x e h p = subst (λ l. AllByRecursion P l) (sym e) (all_push P xs x h p)

-- of the things made of items, what they are made of
pub made_more : {X Y : Type 0} (g : Y → X) (xs : List X) (now new : List Y) (i : ℕ) (d : X) (y : Y) → i < length xs → map g now ≡ take i xs → new ≡ now ++ y ∷ []
    → g y ≡ get_or xs i d → map g new ≡ take (i + 1) xs
made_more g xs now new i d y lt e h is =
    ap (map g) h ∙ map-append g now (y ∷ []) ∙ ap (λ l. l ++ g y ∷ []) e ∙ ap (λ z. take i xs ++ z ∷ []) is ∙ sym (take_more xs i d lt)

pub numbers_made : {Y : Type 0} (g : Y → ℕ) (now new : List Y) (n : ℕ) (y : Y) → map g now ≡ range_with_len 0 n → new ≡ now ++ y ∷ [] → g y ≡ n
    → map g new ≡ range_with_len 0 (n + 1)
numbers_made g now new n y e h is =
    ap (map g) h ∙ map-append g now (y ∷ []) ∙ ap (λ l. l ++ g y ∷ []) e ∙ ap (λ z. range_with_len 0 n ++ z ∷ []) (is ∙ (let same : n ≡ 0 + n = omega arith in same)) ∙ sym (range_more 0 n)

-- what a function of what things are made of adds
pub flat_of_made : {X Y A : Type 0} (f : X → List A) (g : Y → X) (ys : List Y) → flat_map (λ y. f (g y)) ys ≡ flat_map f (map g ys)
flat_of_made f g [] = refl
flat_of_made f g (y ∷ ys) = ap (λ l. f (g y) ++ l) (flat_of_made f g ys)

pub map_of_made : {X Y A : Type 0} (f : X → A) (g : Y → X) (ys : List Y) → map (λ y. f (g y)) ys ≡ map f (map g ys)
map_of_made f g [] = refl
map_of_made f g (y ∷ ys) = ap (λ l. f (g y) ∷ l) (map_of_made f g ys)

-- ---- rules that are added one list after another

pub two_added : {X : Type 0} (d d1 d2 x y : List X) → d1 ≡ d ++ x → d2 ≡ d1 ++ y → d2 ≡ d ++ (x ++ y)
two_added d d1 d2 x y e1 e2 = e2 ∙ ap (λ l. l ++ y) e1 ∙ append_assoc d x y

pub three_added : {X : Type 0} (d d1 d2 d3 x y z : List X) → d1 ≡ d ++ x → d2 ≡ d1 ++ y → d3 ≡ d2 ++ z → d3 ≡ d ++ (x ++ (y ++ z))
three_added d d1 d2 d3 x y z e1 e2 e3 = e3 ∙ ap (λ l. l ++ z) (two_added d d1 d2 x y e1 e2) ∙ append_assoc d (x ++ y) z ∙ ap (λ l. d ++ l) (append_assoc x y z)

-- a list and one of three, taken apart
pub four_added : {X : Type 0} (d d1 d2 s h u k : List X) → d1 ≡ d ++ s → d2 ≡ d1 ++ (h ++ u ++ k) → d2 ≡ d ++ (s ++ h ++ u ++ k)
four_added d d1 d2 s h u k e1 e2 = two_added d d1 d2 s (h ++ u ++ k) e1 e2 ∙ ap (λ l. d ++ l) (sym (append_assoc s (h ++ u) k) ∙ ap (λ l. l ++ k) (sym (append_assoc s h u)))

-- three lists, taken together from the left
pub three_together : {X : Type 0} (d d1 d2 d3 x y z : List X) → d1 ≡ d ++ x → d2 ≡ d1 ++ y → d3 ≡ d2 ++ z → d3 ≡ d ++ (x ++ y ++ z)
three_together d d1 d2 d3 x y z e1 e2 e3 = two_added d d2 d3 (x ++ y) z (two_added d d1 d2 x y e1 e2) e3

-- one list, and then three
pub four_in_turn : {X : Type 0} (d d1 d2 d3 d4 x a b c : List X) → d1 ≡ d ++ x → d2 ≡ d1 ++ a → d3 ≡ d2 ++ b → d4 ≡ d3 ++ c → d4 ≡ d ++ (x ++ (a ++ b ++ c))
four_in_turn d d1 d2 d3 d4 x a b c e1 e2 e3 e4 = two_added d d1 d4 x (a ++ b ++ c) e1 (three_together d1 d2 d3 d4 a b c e2 e3 e4)
