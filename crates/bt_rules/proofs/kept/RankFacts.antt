-- The rank of an item of a list among those that pass a test.
use Rattle.std.proofs.Common.{◌≡◌, ℕ, zero, suc, ◌<◌, ◌≤◌, ◌&&◌, ◌||◌, Bool, true, false, List, [], ◌∷◌, cond, Some, refl, sym, ◌∙◌, ap, subst, arith}
use Rattle.std.specs.List.{slice_get, filter, list_any, count_by}
use Rattle.std.proofs.lemmas.Bool.{false≢true}
use Rattle.std.proofs.lemmas.List.Sums.{length-filter}
use Rattle.std.proofs.lemmas.Option.{same_Some, none-some, slice_get_within}

-- how many before it pass the test
abbrev pub rank : {X : Type 0} → (X → Bool) → List X → ℕ → ℕ
rank p [] e = 0
rank p (x ∷ xs) zero = 0
rank p (x ∷ xs) (suc e) = cond (p x) (suc (rank p xs e)) (rank p xs e)

-- it is at its rank in the list of those that pass
pub rank_at : {X : Type 0} (p : X → Bool) (xs : List X) (e : ℕ) (x : X) → slice_get xs e ≡ Some x → p x ≡ true
    → slice_get (filter p xs) (rank p xs e) ≡ Some x
rank_at p [] e x at t = absurd (none-some x at)
rank_at p (y ∷ ys) zero x at t =
    subst (λ b. slice_get (cond b (y ∷ filter p ys) (filter p ys)) 0 ≡ Some x) (sym (ap p (same_Some y x at) ∙ t)) at
rank_at {X} p (y ∷ ys) (suc e) x at t = by (p y) (rank_at p ys e x at t) where
  by : (b : Bool) → slice_get (filter p ys) (rank p ys e) ≡ Some x
      → slice_get (cond b (y ∷ filter p ys) (filter p ys)) (cond b (suc (rank p ys e)) (rank p ys e)) ≡ Some x
  by true h = h
  by false h = h

zero_suc : (n : ℕ) → 0 ≡ suc n → ⊥
zero_suc n e = absurd (omega arith)

-- no two have one rank
pub rank_one : {X : Type 0} (p : X → Bool) (xs : List X) (d e : ℕ) (a b : X) → slice_get xs d ≡ Some a → p a ≡ true
    → slice_get xs e ≡ Some b → p b ≡ true → rank p xs d ≡ rank p xs e → d ≡ e
rank_one p [] d e a b at_a t_a at_b t_b same = absurd (none-some a at_a)
rank_one p (y ∷ ys) zero zero a b at_a t_a at_b t_b same = refl
rank_one p (y ∷ ys) zero (suc e) a b at_a t_a at_b t_b same =
    absurd (zero_suc (rank p ys e) (same ∙ ap (λ z. cond z (suc (rank p ys e)) (rank p ys e)) (ap p (same_Some y a at_a) ∙ t_a)))
rank_one p (y ∷ ys) (suc d) zero a b at_a t_a at_b t_b same =
    absurd (zero_suc (rank p ys d) (sym same ∙ ap (λ z. cond z (suc (rank p ys d)) (rank p ys d)) (ap p (same_Some y b at_b) ∙ t_b)))
rank_one p (y ∷ ys) (suc d) (suc e) a b at_a t_a at_b t_b same =
    ap suc (rank_one p ys d e a b at_a t_a at_b t_b (by (p y) (rank p ys d) (rank p ys e) same))
  where
    by : (z : Bool) (m n : ℕ) → cond z (suc m) m ≡ cond z (suc n) n → m ≡ n
    by true m n e = omega arith
    by false m n e = e

-- each of the list of those that pass has its place in the list
pub at_rank : {X : Type 0} (p : X → Bool) (xs : List X) (j : ℕ) (x : X) → slice_get (filter p xs) j ≡ Some x
    → (e : ℕ) × (slice_get xs e ≡ Some x) × (p x ≡ true) × (rank p xs e ≡ j)
at_rank p [] j x at = absurd (none-some x at)
at_rank {X} p (y ∷ ys) j x at = by (p y) refl j at (at_rank p ys) where
  by : (b : Bool) → p y ≡ b → (j : ℕ) → slice_get (cond b (y ∷ filter p ys) (filter p ys)) j ≡ Some x
      → ((i : ℕ) (z : X) → slice_get (filter p ys) i ≡ Some z → (e : ℕ) × (slice_get ys e ≡ Some z) × (p z ≡ true) × (rank p ys e ≡ i))
      → (e : ℕ) × (slice_get (y ∷ ys) e ≡ Some x) × (p x ≡ true) × (rank p (y ∷ ys) e ≡ j)
  by true is zero at more = (0, at, sym (ap p (same_Some y x at)) ∙ is, refl)
  by true is (suc i) at more =
      let found = more i x at in
      (suc found.0, found.1, found.2, ap (λ z. cond z (suc (rank p ys found.0)) (rank p ys found.0)) is ∙ ap suc found.3)
  by false is i at more =
      let found = more i x at in
      (suc found.0, found.1, found.2, ap (λ z. cond z (suc (rank p ys found.0)) (rank p ys found.0)) is ∙ found.3)

-- of at most two that pass, the ranks are 0 and 1
pub rank_few : {X : Type 0} (p : X → Bool) (xs : List X) (e : ℕ) (x : X) → slice_get xs e ≡ Some x → p x ≡ true → count_by p xs ≤ 2
    → rank p xs e < 2
rank_few p xs e x at t few =
    let lt = slice_get_within (filter p xs) (rank p xs e) x (rank_at p xs e x at t) in
    let long = length-filter p xs in
    omega arith

-- ---- tests

pub true_both : (a b : Bool) → a ≡ true → b ≡ true → (a && b) ≡ true
true_both true b e f = f
true_both false b e f = absurd (false≢true e)

-- one that passes
pub any_has : {X : Type 0} (p : X → Bool) (xs : List X) → list_any p xs ≡ true → (e : ℕ) × (x : X) × (slice_get xs e ≡ Some x) × (p x ≡ true)
any_has p [] h = absurd (false≢true h)
any_has {X} p (y ∷ ys) h = by (p y) refl h (any_has p ys) where
  by : (b : Bool) → p y ≡ b → (b || list_any p ys) ≡ true → (list_any p ys ≡ true → (e : ℕ) × (x : X) × (slice_get ys e ≡ Some x) × (p x ≡ true))
      → (e : ℕ) × (x : X) × (slice_get (y ∷ ys) e ≡ Some x) × (p x ≡ true)
  by true is h more = (0, y, refl, is)
  by false is h more = let found = more h in (suc found.0, found.1, found.2, found.3)

pub has_any : {X : Type 0} (p : X → Bool) (xs : List X) (e : ℕ) (x : X) → slice_get xs e ≡ Some x → p x ≡ true → list_any p xs ≡ true
has_any p [] e x at t = absurd (none-some x at)
has_any p (y ∷ ys) zero x at t = ap (λ b. b || list_any p ys) (ap p (same_Some y x at) ∙ t)
has_any p (y ∷ ys) (suc e) x at t = by (p y) (has_any p ys e x at t) where
  by : (b : Bool) → list_any p ys ≡ true → (b || list_any p ys) ≡ true
  by true h = refl
  by false h = h
