-- How many items lists have at most.
use Rattle.std.proofs.Common.{◌≢◌, inl, inr, ℕ, ◌+◌, ◌*◌, ◌<◌, ◌≤◌, Bool, true, false, cond, List, [], ◌∷◌, ◌++◌, length, map, refl, sym, ◌∙◌, subst, ⊎_elim, arith, length-append}
use Rattle.std.specs.List.{All, AllPairs, flat_map, filter, range_with_len}
use Rattle.std.proofs.lemmas.Bool.{cases_lt}
use Rattle.std.proofs.Math.Nat.{mul-le-mul_right}
use Rattle.bt_model.proofs.PathLemmas.{crowded}
use Rattle.bt_parts.specs.declared.part.Cell.{Cell}
use Rattle.bt_parts.specs.declared.part.Rect.{Rect}
use Rattle.bt_facts.specs.declared.fact.Fact.{Fact}
use Rattle.bt_facts.specs.Rules.{not_all, at_most_one}
use Rattle.bt_facts.specs.Spots.{is_inside, where_inside, where_outside}
use Rattle.bt_place.proofs.Counting.{get_map, length_map, length_range}
use Rattle.bt_facts.proofs.Keeping.{In}

-- the list has at most so many items
pub record HasFew {X : Type 0} (xs : List X) (n : ℕ) : Type 0 where
  pub few : length xs ≤ n

pub few_more : {X : Type 0} {xs : List X} {m n : ℕ} → HasFew xs m → m ≤ n → HasFew xs n
few_more h le = let a = h.few in record { few = omega (arith, a, le) }

pub few_both : {X : Type 0} {xs ys : List X} {m n : ℕ} → HasFew xs m → HasFew ys n → HasFew (xs ++ ys) (m + n)
few_both {X} {xs} {ys} h k = let e = length-append xs ys in let a = h.few in let b = k.few in record { few = omega (arith, e, a, b) }

pub few_first : {X : Type 0} {xs : List X} {n : ℕ} (x : X) → HasFew xs n → HasFew (x ∷ xs) (1 + n)
few_first x h = let a = h.few in record { few = omega (arith, a) }

pub few_map : {X Y : Type 0} {xs : List X} {n : ℕ} (f : X → Y) → HasFew xs n → HasFew (map f xs) n
few_map {X} {Y} {xs} f h = let a = h.few in let e = length_map f xs in record { few = omega (arith, a, e) }

pub few_range : {m : ℕ} (a n : ℕ) → n ≤ m → HasFew (range_with_len a n) m
few_range a n le = let e = length_range a n in record { few = omega (arith, e, le) }

flat_length : {X Y : Type 0} (f : X → List Y) (xs : List X) (n : ℕ) → ((x : X) → In xs x → HasFew (f x) n) → length (flat_map f xs) ≤ length xs * n
flat_length f [] n each = omega arith
flat_length f (x ∷ xs) n each =
    let here = (each x (inl refl)).few in
    let later = flat_length f xs n (λ y h. each y (inr h)) in
    let e = length-append (f x) (flat_map f xs) in
    omega (arith, e, here, later)

pub few_flat : {X Y : Type 0} {xs : List X} {m : ℕ} (f : X → List Y) (n : ℕ) → HasFew xs m → ((x : X) → In xs x → HasFew (f x) n) → HasFew (flat_map f xs) (m * n)
few_flat {X} {Y} {xs} {m} f n h each =
    let all = flat_length f xs n each in let le : length xs * n ≤ m * n = mul-le-mul_right n h.few in record { few = omega (arith, all, le) }

pub few_filter : {X : Type 0} {xs : List X} {n : ℕ} (p : X → Bool) → HasFew xs n → HasFew (filter p xs) n
few_filter {X} {xs} p h = let a = h.few in let b = filter_length p xs in record { few = omega (arith, a, b) }
  where
    filter_length : {X : Type 0} (p : X → Bool) (xs : List X) → length (filter p xs) ≤ length xs
    filter_length p [] = omega arith
    filter_length {X} p (x ∷ xs) = by (p x) (filter_length p xs)
      where
        by : (b : Bool) → length (filter p xs) ≤ length xs → length (cond b (x ∷ filter p xs) (filter p xs)) ≤ length (x ∷ xs)
        by true le = omega (arith, le)
        by false le = omega (arith, le)

pub few_cond : {X : Type 0} {xs ys : List X} {n : ℕ} (b : Bool) → HasFew xs n → HasFew ys n → HasFew (cond b xs ys) n
few_cond true h k = h
few_cond false h k = k

pub few_inside : {X : Type 0} {xs : List X} {n : ℕ} (rect : Rect) (c : Cell) → HasFew xs n → HasFew (where_inside rect c xs) n
few_inside rect c h = few_cond (is_inside rect c) h (record { few = omega arith })

pub few_outside : {X : Type 0} {xs : List X} {n : ℕ} (rect : Rect) (c : Cell) → HasFew xs n → HasFew (where_outside rect c xs) n
few_outside rect c h = few_cond (is_inside rect c) (record { few = omega arith }) h

most_length : (facts : List Fact) (n : ℕ) → length facts ≤ n → length (at_most_one facts) ≤ length facts * n
most_length [] n le = omega arith
most_length (f ∷ facts) n le =
    let later = most_length facts n (omega (arith, le)) in
    let e = length-append (map (λ other. not_all (f ∷ other ∷ [])) facts) (at_most_one facts) in
    let k = length_map (λ other. not_all (f ∷ other ∷ [])) facts in
    omega (arith, e, k, later, le)

-- of facts of which at most one holds, each two give a rule
pub few_most : {facts : List Fact} {n : ℕ} → HasFew facts n → HasFew (at_most_one facts) (n * n)
few_most {facts} {n} h =
    let all = most_length facts n h.few in let le : length facts * n ≤ n * n = mul-le-mul_right n h.few in record { few = omega (arith, all, le) }

-- items that have different numbers below n are no more than n
pub few_apart : {X : Type 0} (number : X → ℕ) (xs : List X) (n : ℕ) → AllPairs (λ x y. number x ≢ number y) xs → All (λ x. number x < n) xs → length xs ≤ n
few_apart number [] n apart below = omega arith
few_apart number (x ∷ xs) n apart below =
    let long = length_map number (x ∷ xs) in
    ⊎_elim
    (λ many.
    let twice = crowded n (map number (x ∷ xs)) (omega (arith, many, long))
    (λ k l. let lk : k < length (x ∷ xs) = omega (arith, l, long) in subst (λ m. m < n) (sym (get_map number (x ∷ xs) k 0 x lk)) (below k x lk)) in
    let i = twice.0 in let j = twice.1 in let before = twice.2 in let in' = twice.3 in
    let lj : j < length (x ∷ xs) = omega (arith, in', long) in
    let li : i < length (x ∷ xs) = omega (arith, before, lj) in
    absurd (apart i j x before lj (sym (get_map number (x ∷ xs) i 0 x li) ∙ twice.4 ∙ get_map number (x ∷ xs) j 0 x lj)))
    (λ le. omega (arith, le))
    (cases_lt n (length (x ∷ xs)))
