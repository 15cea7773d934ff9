-- Lists of literals.
use Rattle.std.proofs.Common.{◌≡◌, ◌≢◌, ℕ, ◌<◌, ◌⊎◌, inl, inr, arith, List, [], ◌∷◌, length, Bool, true, false, get_or, zero, suc, sym, subst, refl, ap, ap₂, ◌∙◌, ◌≤◌, ◌+◌, Some, cond, not}
use Rattle.std.specs.Prelude.{Contains, slice_get, Some}
use Rattle.std.specs.List.{HoldsAt, All, filter}
use Rattle.std.proofs.lemmas.List.{get_or_default}
use Rattle.std.proofs.lemmas.List.Elements.{All-nil, All-cons}
use Rattle.bt_cnf.specs.declared.literal.Lit.{Lit}

-- what holds of the item at a place holds whatever stands for an item past the end
pub any_default : {X : Type 0} (P : X → Type 0) (xs : List X) (i : ℕ) (x : X) → i < length xs → get_or xs i x ≡ x → P x → HoldsAt P xs i
any_default P xs i x below is holds = λ d. subst P (sym (get_or_default xs i d x below ∙ is)) holds

pub contains_here : {X : Type 0} (x y : X) (xs : List X) → x ≡ y → Contains (x ∷ xs) y
contains_here x y xs same = (zero, omega arith, same)

pub contains_there : {X : Type 0} (x y : X) (xs : List X) → Contains xs y → Contains (x ∷ xs) y
contains_there x y xs among = (suc among.0, omega (arith, among.1), among.2)

-- an item of a list is the first or one of the others
pub first_or : {X : Type 0} (x y : X) (xs : List X) → Contains (x ∷ xs) y → (x ≡ y) ⊎ Contains xs y
first_or x y xs (zero, below, is) = inl is
first_or x y xs (suc k, below, is) = inr (k, omega (arith, below), is)

pub none_in : {X : Type 0} (y : X) → Contains [] y → ⊥
none_in y among = absurd (omega (arith, among.1))

bool_or : (a b : Bool) → (a ≡ b) ⊎ (a ≢ b)
bool_or true true = inl refl
bool_or true false = inr (λ e. cc)
bool_or false true = inr (λ e. cc)
bool_or false false = inl refl

pub nat_or : (m n : ℕ) → (m ≡ n) ⊎ (m ≢ n)
nat_or m n = grind arith

pub lit_or : (a b : Lit) → (a ≡ b) ⊎ (a ≢ b)
lit_or a b =
    elim (nat_or a.var b.var) [
      | inl var ↦ elim (bool_or a.positive b.positive) [
        | inl sign ↦ inl (same a b var sign)
        | inr differs ↦ inr (λ e. differs (ap (λ (l : Lit). l.positive) e))
      ]
      | inr differs ↦ inr (λ e. differs (ap (λ (l : Lit). l.var) e))
    ]
  where
    same : (a b : Lit) → a.var ≡ b.var → a.positive ≡ b.positive → a ≡ b
    same a b var sign = let make : ℕ → Bool → Lit = λ v p. record { var = v; positive = p } in ap₂ make var sign

-- a literal is among some, or it isn't
pub contains_or : (lits : List Lit) (l : Lit) → Contains lits l ⊎ (Contains lits l → ⊥)
contains_or [] l = inr (none_in l)
contains_or (m ∷ lits) l =
    elim (lit_or m l) [
      | inl same ↦ inl (contains_here m l lits same)
      | inr differs ↦ elim (contains_or lits l) [
        | inl among ↦ inl (contains_there m l lits among)
        | inr not ↦ inr (λ among. elim (first_or m l lits among) [ inl same ↦ differs same | inr rest ↦ not rest ])
      ]
    ]

-- what is found at a place is within the list
pub got_within : {X : Type 0} (xs : List X) (i : ℕ) (x : X) → slice_get xs i ≡ Some x → i < length xs
got_within [] i x is = cc
got_within (y ∷ xs) zero x is = omega arith
got_within (y ∷ xs) (suc i) x is = omega (arith, got_within xs i x is)

pub got_at : {X : Type 0} (xs : List X) (i : ℕ) (d x : X) → slice_get xs i ≡ Some x → get_or xs i d ≡ x
got_at [] i d x is = cc
got_at (y ∷ xs) zero d x is = cc
got_at (y ∷ xs) (suc i) d x is = got_at xs i d x is

pub past : {X : Type 0} (xs : List X) (i : ℕ) (d : X) → length xs ≤ i → get_or xs i d ≡ d
past [] i d small = refl
past (x ∷ xs) zero d small = absurd (omega (arith, small))
past (x ∷ xs) (suc i) d small = past xs i d (omega (arith, small))

pub lt_or : (m n : ℕ) → (m < n) ⊎ (n ≤ m)
lt_or m n = grind arith

either : {X : Type 0} (P : List X → Type 0) (b : Bool) (xs ys : List X) → (b ≡ true → P xs) → (b ≡ false → P ys) → P (cond b xs ys)
either P true xs ys on off = on refl
either P false xs ys on off = off refl

module _ (p : ℕ → Bool) where
  -- what passes is kept
  pub passes_kept : (xs : List ℕ) (v : ℕ) → p v ≡ true → Contains xs v → Contains (filter p xs) v
  passes_kept [] v passes among = among
  passes_kept (x ∷ xs) v passes among =
      elim (first_or x v xs among) [
        | inl same ↦ either (λ ys. Contains ys v) (p x) (x ∷ filter p xs) (filter p xs) (λ on. contains_here x v (filter p xs) same) (λ off. absurd (differ (sym (ap p same ∙ passes) ∙ off)))
        | inr later ↦ either (λ ys. Contains ys v) (p x) (x ∷ filter p xs) (filter p xs) (λ on. contains_there x v (filter p xs) (passes_kept xs v passes later)) (λ off. passes_kept xs v passes later)
      ]
    where
      differ : true ≡ false → ⊥
      differ e = cc

pub lt_or_eq : (k n : ℕ) → k < n + 1 → (k < n) ⊎ (k ≡ n)
lt_or_eq k n below = grind arith

-- each item of a list has P, where those that it contains do
pub all_of : {X : Type 0} (P : X → Type 0) (xs : List X) → ((x : X) → Contains xs x → P x) → All P xs
all_of P [] holds = All-nil P
all_of P (x ∷ xs) holds = All-cons P x xs (holds x (contains_here x x xs refl)) (all_of P xs (λ y among. holds y (contains_there x y xs among)))

-- what holds of each clause, and what follows from it
pub all_more : {X : Type 0} (P Q : X → Type 0) (xs : List X) → ((x : X) → P x → Q x) → All P xs → All Q xs
all_more P Q xs more all = λ k d below. more _ (all k d below)
