-- Lists whose items are numbered.
use Rattle.std.proofs.Common.{◌≡◌, inl, inr, ℕ, zero, suc, ◌<◌, ◌≤◌, ◌+◌, ◌-◌, Bool, true, false, cond, List, [], ◌∷◌, length, map, get_or, refl, sym, ◌∙◌, ap, subst, arith}
use Rattle.std.specs.List.{enumerate_from, filter}
use Rattle.bt_facts.proofs.Keeping.{In, Distinct}

-- a numbered item of a list
pub from_enumerate : {X : Type 0} (a : ℕ) (xs : List X) (p : ℕ × X) → In (enumerate_from a xs) p → (a ≤ p.0) × (p.0 < a + length xs) × ((d : X) → get_or xs (p.0 - a) d ≡ p.1)
from_enumerate a [] p h = absurd h
from_enumerate a (x ∷ xs) p (inl e) =
    let n : p.0 ≡ a = ap (λ q. q.0) e in
    (omega (arith, n), omega (arith, n), λ d. ap (λ k. get_or (x ∷ xs) k d) (let z : p.0 - a ≡ 0 = omega (arith, n) in z) ∙ ap (λ q. q.1) (sym e))
from_enumerate a (x ∷ xs) p (inr h) =
    let rest = from_enumerate (a + 1) xs p h in
    let le = rest.0 in let lt = rest.1 in
    (omega (arith, le), omega (arith, lt), λ d. ap (λ k. get_or (x ∷ xs) k d) (let z : p.0 - a ≡ suc (p.0 - (a + 1)) = omega (arith, le) in z) ∙ rest.2 d)

pub in_enumerate : {X : Type 0} (a : ℕ) (xs : List X) (k : ℕ) (d : X) → k < length xs → In (enumerate_from a xs) (a + k, get_or xs k d)
in_enumerate a [] k d lt = absurd (omega arith)
in_enumerate a (x ∷ xs) zero d lt = inl (ap (λ n. (n, x)) (let z : a + 0 ≡ a = omega arith in z))
in_enumerate a (x ∷ xs) (suc k) d lt =
    inr (subst (λ n. In (enumerate_from (a + 1) xs) (n, get_or xs k d)) (let z : a + 1 + k ≡ a + suc k = omega arith in z) (in_enumerate (a + 1) xs k d (omega arith)))

pub distinct_enumerate : {X : Type 0} (a : ℕ) (xs : List X) → Distinct (enumerate_from a xs)
distinct_enumerate a [] = tt
distinct_enumerate a (x ∷ xs) = (
  λ h. let found = from_enumerate (a + 1) xs (a, x) h in let le = found.0 in omega (arith, le),
  distinct_enumerate (a + 1) xs,
)

-- an item has its number alone
pub one_numbered : {X : Type 0} (xs : List X) (p q : ℕ × X) → In (enumerate_from 0 xs) p → In (enumerate_from 0 xs) q → p.0 ≡ q.0 → p ≡ q
one_numbered xs p q h k e =
    let a = from_enumerate 0 xs p h in
    let b = from_enumerate 0 xs q k in
    let second : p.1 ≡ q.1 = sym (a.2 p.1) ∙ ap (λ n. get_or xs (n - 0) p.1) e ∙ b.2 p.1 in
    ap (λ n. (n, p.1)) e ∙ ap (λ x. (q.0, x)) second

-- the items that pass a test, with their numbers and without
pub numbered : {X : Type 0} (p : X → Bool) (a : ℕ) (xs : List X) → filter p xs ≡ map (λ n. n.1) (filter (λ n. p n.1) (enumerate_from a xs))
numbered p a [] = refl
numbered {X} p a (x ∷ xs) = by (p x) (numbered p (a + 1) xs)
  where
    by : (b : Bool) → filter p xs ≡ map (λ n. n.1) (filter (λ n. p n.1) (enumerate_from (a + 1) xs))
        → cond b (x ∷ filter p xs) (filter p xs) ≡ map (λ n. n.1) (cond b ((a, x) ∷ filter (λ n. p n.1) (enumerate_from (a + 1) xs)) (filter (λ n. p n.1) (enumerate_from (a + 1) xs)))
    by true e = ap (λ l. x ∷ l) e
    by false e = e

-- what a map makes of them
pub numbered_map : {X Y : Type 0} (f : X → Y) (xs : List (ℕ × X)) → map f (map (λ n. n.1) xs) ≡ map (λ n. f n.1) xs
numbered_map f [] = refl
numbered_map f (x ∷ xs) = ap (λ l. f x.1 ∷ l) (numbered_map f xs)
