-- Items of lists of lists, by their numbers.
use Rattle.std.proofs.Common.{◌≡◌, ℕ, zero, suc, ◌<◌, ◌≤◌, ◌+◌, ◌*◌, List, [], ◌∷◌, ◌++◌, length, map, get_or, refl, ◌∙◌, ap, arith, length-append}
use Rattle.std.proofs.Math.Nat.{mul-le-mul_right}
use Rattle.std.specs.List.{flat_map, range_with_len}

get_left : {X : Type 0} (xs ys : List X) (k : ℕ) (d : X) → k < length xs → get_or (xs ++ ys) k d ≡ get_or xs k d
get_left [] ys k d lt = absurd (omega arith)
get_left (x ∷ xs) ys zero d lt = refl
get_left (x ∷ xs) ys (suc k) d lt = get_left xs ys k d (omega arith)

get_right : {X : Type 0} (xs ys : List X) (k : ℕ) (d : X) → get_or (xs ++ ys) (length xs + k) d ≡ get_or ys k d
get_right [] ys k d = ap (λ n. get_or ys n d) (let z : 0 + k ≡ k = omega arith in z)
get_right (x ∷ xs) ys k d = ap (λ n. get_or (x ∷ (xs ++ ys)) n d) (let z : suc (length xs) + k ≡ suc (length xs + k) = omega arith in z) ∙ get_right xs ys k d

pub get_map : {X Y : Type 0} (f : X → Y) (xs : List X) (k : ℕ) (d : Y) (e : X) → k < length xs → get_or (map f xs) k d ≡ f (get_or xs k e)
get_map f [] k d e lt = absurd (omega arith)
get_map f (x ∷ xs) zero d e lt = refl
get_map f (x ∷ xs) (suc k) d e lt = get_map f xs k d e (omega arith)

pub length_map : {X Y : Type 0} (f : X → Y) (xs : List X) → length (map f xs) ≡ length xs
length_map f [] = refl
length_map f (x ∷ xs) = ap suc (length_map f xs)

pub length_range : (a n : ℕ) → length (range_with_len a n) ≡ n
length_range a zero = refl
length_range a (suc n) = ap suc (length_range (a + 1) n)

pub get_range : (a n k d : ℕ) → k < n → get_or (range_with_len a n) k d ≡ a + k
get_range a zero k d lt = absurd (omega arith)
get_range a (suc n) zero d lt = omega arith
get_range a (suc n) (suc k) d lt = get_range (a + 1) n k d (omega arith) ∙ (let z : a + 1 + k ≡ a + suc k = omega arith in z)

pub length_flat : {X Y : Type 0} (f : X → List Y) (xs : List X) (n : ℕ) → ((x : X) → length (f x) ≡ n) → length (flat_map f xs) ≡ length xs * n
length_flat f [] n each = omega arith
length_flat f (x ∷ xs) n each =
    let h = each x in let more = length_flat f xs n each in
    length-append (f x) (flat_map f xs) ∙ (let z : length (f x) + length (flat_map f xs) ≡ suc (length xs) * n = omega (arith, h, more) in z)

pub get_flat : {X Y : Type 0} (f : X → List Y) (xs : List X) (n i j : ℕ) (d : Y) (e : X) → ((x : X) → length (f x) ≡ n) → i < length xs → j < n
    → get_or (flat_map f xs) (i * n + j) d ≡ get_or (f (get_or xs i e)) j d
get_flat f [] n i j d e each li lj = absurd (omega arith)
get_flat f (x ∷ xs) n zero j d e each li lj =
    let h = each x in
    ap (λ k. get_or (f x ++ flat_map f xs) k d) (let z : 0 * n + j ≡ j = omega arith in z) ∙ get_left (f x) (flat_map f xs) j d (omega (arith, h))
get_flat f (x ∷ xs) n (suc i) j d e each li lj =
    let h = each x in
    ap (λ k. get_or (f x ++ flat_map f xs) k d) (let z : suc i * n + j ≡ length (f x) + (i * n + j) = omega (arith, h) in z)
    ∙ get_right (f x) (flat_map f xs) (i * n + j) d ∙ get_flat f xs n i j d e each (omega arith) lj

-- a number of so many groups
pub group_within : (i j m n : ℕ) → i < m → j < n → i * n + j < m * n
group_within i j m n li lj =
    let le : suc i * n ≤ m * n = mul-le-mul_right n (let z : suc i ≤ m = omega arith in z) in omega (arith, le)

-- the items of lists, one list after another
abbrev pub joined : {X : Type 0} → List (List X) → List X
joined [] = []
joined (xs ∷ lists) = xs ++ joined lists

-- how many items come before a list
abbrev pub before_list : {X : Type 0} → List (List X) → ℕ → ℕ
before_list [] k = 0
before_list (xs ∷ lists) zero = 0
before_list (xs ∷ lists) (suc k) = length xs + before_list lists k

-- the list with this number
abbrev pub list_at : {X : Type 0} → List (List X) → ℕ → List X
list_at [] k = []
list_at (xs ∷ lists) zero = xs
list_at (xs ∷ lists) (suc k) = list_at lists k

pub get_joined : {X : Type 0} (lists : List (List X)) (k j : ℕ) (d : X) → j < length (list_at lists k)
    → (before_list lists k + j < length (joined lists)) × (get_or (joined lists) (before_list lists k + j) d ≡ get_or (list_at lists k) j d)
get_joined [] k j d lt = absurd (omega arith)
get_joined (xs ∷ lists) zero j d lt =
    let long = length-append xs (joined lists) in
    (omega (arith, long), ap (λ n. get_or (xs ++ joined lists) n d) (let z : 0 + j ≡ j = omega arith in z) ∙ get_left xs (joined lists) j d lt)
get_joined (xs ∷ lists) (suc k) j d lt =
    let more = get_joined lists k j d lt in
    let less = more.0 in
    let long = length-append xs (joined lists) in (
      omega (arith, long, less),
      ap (λ n. get_or (xs ++ joined lists) n d) (let z : length xs + before_list lists k + j ≡ length xs + (before_list lists k + j) = omega arith in z)
          ∙ get_right xs (joined lists) (before_list lists k + j) d ∙ more.1,
    )

pub length_joined : {X : Type 0} (lists : List (List X)) → length (joined lists) ≡ before_list lists (length lists)
length_joined [] = refl
length_joined (xs ∷ lists) = let more = length_joined lists in length-append xs (joined lists) ∙ ap (λ n. length xs + n) more
