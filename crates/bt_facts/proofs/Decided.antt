-- What holds or doesn't.
use Rattle.std.proofs.Common.{◌≡◌, ◌⊎◌, inl, inr, ℕ, zero, suc, ◌<◌, ℤ, pos, negsuc, List, Option, Some, None, refl, ◌∙◌, ap, subst, ⊎_elim, arith}
use Rattle.std.specs.List.{Contains, slice_get}
use Rattle.std.proofs.lemmas.Bool.{cases_eq, cases_lt}
use Rattle.std.proofs.lemmas.Option.{none-some, slice_get_within, get_or_from_slice_get}
use Rattle.bt_parts.specs.declared.part.Cell.{Cell}
use Rattle.bt_parts.specs.declared.part.Dir.{Dir}
use Rattle.bt_parts.specs.declared.part.Dir.TheVariants.{North, East, South, West}

-- it holds, or it doesn't
abbrev pub Decided : Type 0 → Type 0
Decided P = P ⊎ (P → ⊥)

-- two that are decided
pub both : {P Q : Type 0} → Decided P → Decided Q → Decided (P × Q)
both (inl p) (inl q) = inl (p, q)
both (inl p) (inr n) = inr (λ h. n h.1)
both (inr n) q = inr (λ h. n h.0)

-- what is decided by what is the same
pub moved : {P Q : Type 0} → (P → Q) → (Q → P) → Decided P → Decided Q
moved to from (inl p) = inl (to p)
moved to from (inr n) = inr (λ q. n (from q))

-- ---- equations

same_int : (a b : ℤ) → Decided (a ≡ b)
same_int (pos a) (pos b) = moved (λ e. ap pos e) (λ e. cc) (cases_eq a b)
same_int (negsuc a) (negsuc b) = moved (λ e. ap negsuc e) (λ e. cc) (cases_eq a b)
same_int (pos a) (negsuc b) = inr (λ e. cc)
same_int (negsuc a) (pos b) = inr (λ e. cc)

pub same_cell : (a b : Cell) → Decided (a ≡ b)
same_cell a b =
    moved (λ h. ap (λ x. record { x = x; y = a.y }) h.0 ∙ ap (λ y. record { x = b.x; y = y }) h.1)
    (λ e. (ap (λ c. c.x) e, ap (λ c. c.y) e)) (both (same_int a.x b.x) (same_int a.y b.y))

pub same_dir : (a b : Dir) → Decided (a ≡ b)
same_dir North North = inl refl
same_dir East East = inl refl
same_dir South South = inl refl
same_dir West West = inl refl
same_dir a b = inr (λ e. cc)

-- ---- lists and numbers

pub listed : {X : Type 0} (xs : List X) (k : ℕ) → ((x : X) × (slice_get xs k ≡ Some x)) ⊎ ((x : X) → slice_get xs k ≡ Some x → ⊥)
listed {X} xs k = by (slice_get xs k)
  where
    by : (o : Option X) → ((x : X) × (o ≡ Some x)) ⊎ ((x : X) → o ≡ Some x → ⊥)
    by (Some x) = inl (x, refl)
    by None = inr (λ x e. none-some x e)

pub lt_decided : (a b : ℕ) → Decided (a < b)
lt_decided a b = ⊎_elim (λ lt. inl lt) (λ ge. inr (λ lt. omega arith)) (cases_lt a b)

pub contains_at : {X : Type 0} (xs : List X) (k : ℕ) (x : X) → slice_get xs k ≡ Some x → Contains xs x
contains_at xs k x e = (k, slice_get_within xs k x e, get_or_from_slice_get xs k x x e)

-- below a bound one number has P, or none has
pub some_below : (P : ℕ → Type 0) → ((k : ℕ) → Decided (P k)) → (n : ℕ) → ((k : ℕ) × (k < n) × P k) ⊎ ((k : ℕ) → k < n → P k → ⊥)
some_below P test zero = inr (λ k lt p. absurd (omega arith))
some_below P test (suc n) = by (some_below P test n) (test n)
  where
    by : ((k : ℕ) × (k < n) × P k) ⊎ ((k : ℕ) → k < n → P k → ⊥) → Decided (P n) → ((k : ℕ) × (k < suc n) × P k) ⊎ ((k : ℕ) → k < suc n → P k → ⊥)
    by (inl h) t = let lt = h.1 in inl (h.0, omega arith, h.2)
    by (inr none) (inl p) = inl (n, omega arith, p)
    by (inr none) (inr not) = inr (λ k lt p. ⊎_elim (λ less. none k less p) (λ ge. let e : k ≡ n = omega arith in not (subst P e p)) (cases_lt k n))
