-- What holds of each item of lists, and of the numbers of a network's edges.
use Rattle.std.proofs.Common.{◌≡◌, ℕ, ◌<◌, ◌≤◌, ◌+◌, Bool, true, false, List, [], ◌∷◌, ◌++◌, length, map, cond, subst, arith, zero, suc, get_or}
use Rattle.std.proofs.Common.{inl, inr}
use Rattle.std.proofs.lemmas.Bool.{cases_eq}
use Rattle.std.specs.List.{AllByRecursion, flat_map, range_with_len, count_by}
use Rattle.bt_net.specs.declared.network.Edge.{Edge}
use Rattle.bt_net.specs.Network.{Network, IsNetwork, is_input, is_output}
use Rattle.bt_flow.specs.Ports.{numbers_where}
use Rattle.bt_flow.specs.EndEdges.{input_edge, output_edge}

pub each-append : {X : Type 0} (P : X → Type 0) (xs ys : List X) → AllByRecursion P xs → AllByRecursion P ys → AllByRecursion P (xs ++ ys)
each-append P [] ys h g = g
each-append P (x ∷ xs) ys h g = (h.0, each-append P xs ys h.1 g)

pub each-three : {X : Type 0} (P : X → Type 0) (xs ys zs : List X) → AllByRecursion P xs → AllByRecursion P ys → AllByRecursion P zs → AllByRecursion P (xs ++ ys ++ zs)
each-three P xs ys zs h g k = each-append P (xs ++ ys) zs (each-append P xs ys h g) k

-- what holds of all of a list holds of all of its front and of all of its back
pub each-left : {X : Type 0} (P : X → Type 0) (xs ys : List X) → AllByRecursion P (xs ++ ys) → AllByRecursion P xs
each-left P [] ys h = tt
each-left P (x ∷ xs) ys h = (h.0, each-left P xs ys h.1)

pub each-right : {X : Type 0} (P : X → Type 0) (xs ys : List X) → AllByRecursion P (xs ++ ys) → AllByRecursion P ys
each-right P [] ys h = h
each-right P (x ∷ xs) ys h = each-right P xs ys h.1

-- what holds of all that each item gives
pub each-flat_map : {X Y : Type 0} (P : Y → Type 0) (Q : X → Type 0) (f : X → List Y) (xs : List X) → AllByRecursion Q xs → ((x : X) → Q x → AllByRecursion P (f x))
    → AllByRecursion P (flat_map f xs)
each-flat_map P Q f [] q h = tt
each-flat_map P Q f (x ∷ xs) q h = each-append P (f x) (flat_map f xs) (h x q.0) (each-flat_map P Q f xs q.1 h)

pub each-map : {X Y : Type 0} (P : Y → Type 0) (Q : X → Type 0) (f : X → Y) (xs : List X) → AllByRecursion Q xs → ((x : X) → Q x → P (f x)) → AllByRecursion P (map f xs)
each-map P Q f [] q h = tt
each-map P Q f (x ∷ xs) q h = (h x q.0, each-map P Q f xs q.1 h)

pub each-range : (P : ℕ → Type 0) (a n : ℕ) → ((k : ℕ) → a ≤ k → k < a + n → P k) → AllByRecursion P (range_with_len a n)
each-range P a zero h = tt
each-range P a (suc n) h = (h a (omega arith) (omega arith), each-range P (a + 1) n (λ k l m. h k (omega arith) (omega arith)))

-- what each item gives has it, and so has each that a list of numbers gives
pub from_flat_map : {X Y : Type 0} (P : Y → Type 0) (f : X → List Y) (xs : List X) → AllByRecursion P (flat_map f xs) → AllByRecursion (λ x. AllByRecursion P (f x)) xs
from_flat_map P f [] h = tt
from_flat_map P f (x ∷ xs) h = (each-left P (f x) (flat_map f xs) h, from_flat_map P f xs (each-right P (f x) (flat_map f xs) h))

pub from_map : {X Y : Type 0} (P : Y → Type 0) (f : X → Y) (xs : List X) → AllByRecursion P (map f xs) → AllByRecursion (λ x. P (f x)) xs
from_map P f [] h = tt
from_map P f (x ∷ xs) h = (h.0, from_map P f xs h.1)

pub at_range : (P : ℕ → Type 0) (a c k : ℕ) → AllByRecursion P (range_with_len a c) → a ≤ k → k < a + c → P k
at_range P a zero k h l m = absurd (omega arith)
at_range P a (suc c) k h l m = elim (cases_eq a k) [ inl e ↦ subst P e h.0 | inr o ↦ at_range P (a + 1) c k h.1 (omega (arith, o, l)) (omega (arith, m)) ]

pub in_range : {X : Type 0} (P : X → Type 0) (f : ℕ → X) (a c k : ℕ) → AllByRecursion P (map f (range_with_len a c)) → a ≤ k → k < a + c → P (f k)
in_range P f a c k h l m = at_range (λ i. P (f i)) a c k (from_map P f (range_with_len a c) h) l m

pub each_any : {X : Type 0} (xs : List X) → AllByRecursion (λ x. Unit {0}) xs
each_any [] = tt
each_any (x ∷ xs) = (tt, each_any xs)

-- the numbers of edges are below the number after the last
pub numbers_below : (p : Edge → Bool) (m n : ℕ) (es : List Edge) → m + length es ≤ n → AllByRecursion (λ x. x < n) (numbers_where p m es)
numbers_below p m n [] l = tt
numbers_below p m n (e ∷ es) l = elim (p e) as (λ b. AllByRecursion (λ x. x < n) (cond b (m ∷ numbers_where p (m + 1) es) (numbers_where p (m + 1) es))) [
  | true ↦ (omega arith, numbers_below p (m + 1) n es (omega arith))
  | false ↦ numbers_below p (m + 1) n es (omega arith)
]

first_below : (n : ℕ) (numbers : List ℕ) → 0 < n → AllByRecursion (λ x. x < n) numbers → get_or numbers 0 0 < n
first_below n [] l h = l
first_below n (x ∷ xs) l h = h.0

module _ (n : Network) (is : IsNetwork n) where
  some_edge : (es : List Edge) → count_by (is_input 0) es ≡ 1 → 0 < length es
  some_edge [] e = absurd (omega arith)
  some_edge (x ∷ es) e = omega arith

  pub has_edge : 0 < length n.edges
  has_edge = some_edge n.edges (is.wired.one_in 0 (let s = is.some_input in omega (arith, s)))

  pub all_below : (p : Edge → Bool) → AllByRecursion (λ x. x < length n.edges) (numbers_where p 0 n.edges)
  all_below p = numbers_below p 0 (length n.edges) n.edges (omega arith)

  pub input_below : (i : ℕ) → input_edge n i < length n.edges
  input_below i = first_below (length n.edges) _ has_edge (all_below (is_input i))

  pub output_below : (o : ℕ) → output_edge n o < length n.edges
  output_below o = first_below (length n.edges) _ has_edge (all_below (is_output o))
