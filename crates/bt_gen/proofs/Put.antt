-- Lists into which an item is put.
use Rattle.std.proofs.Common.{◌≡◌, ℕ, zero, suc, ◌<◌, ◌≤◌, ◌==◌, ◌⊎◌, inl, inr, Bool, false, List, [], ◌∷◌, length, get_or, slice_get, Some, ℤ, pos, ◌+ℤ◌, cond, ap, sym, ◌∙◌, refl, arith}
use Rattle.std.proofs.lemmas.Int.{ints}
use Rattle.std.proofs.lemmas.Bool.{cases_eq, eq-eqb, ne_eqb}
use Rattle.bt_net.specs.declared.network.Edge.{Edge}
use Rattle.bt_flow.specs.Steady.{sum_where}
use Rattle.bt_flow.specs.Properties.{total}
use Rattle.bt_gen.specs.Loops.{put_in, moved}

pub put_length : {X : Type 0} (k : ℕ) (x : X) (xs : List X) → length (put_in k x xs) ≡ suc (length xs)
put_length zero x xs = omega arith
put_length (suc k) x [] = omega arith
put_length (suc k) x (y ∷ ys) = let e = put_length k x ys in omega (arith, e)

-- what is put in stands at its place
pub put_at : {X : Type 0} (k : ℕ) (x : X) (xs : List X) (d : X) → k ≤ length xs → get_or (put_in k x xs) k d ≡ x
put_at zero x xs d l = refl
put_at (suc k) x [] d l = absurd (omega (arith, l))
put_at (suc k) x (y ∷ ys) d l = put_at k x ys d (omega (arith, l))

-- and each other item at the place to which it is moved
pub put_moved : {X : Type 0} (k : ℕ) (x : X) (xs : List X) (m : ℕ) (d : X) → k ≤ length xs → get_or (put_in k x xs) (moved k m) d ≡ get_or xs m d
put_moved zero x xs m d l = refl
put_moved (suc k) x [] m d l = absurd (omega (arith, l))
put_moved (suc k) x (y ∷ ys) zero d l = refl
put_moved (suc k) x (y ∷ ys) (suc m) d l = put_moved k x ys m d (omega (arith, l))

pub got_at : {X : Type 0} (k : ℕ) (x : X) (xs : List X) → k ≤ length xs → slice_get (put_in k x xs) k ≡ Some x
got_at zero x xs l = refl
got_at (suc k) x [] l = absurd (omega (arith, l))
got_at (suc k) x (y ∷ ys) l = got_at k x ys (omega (arith, l))

pub got_moved : {X : Type 0} (k : ℕ) (x : X) (xs : List X) (m : ℕ) → k ≤ length xs → slice_get (put_in k x xs) (moved k m) ≡ slice_get xs m
got_moved zero x xs m l = refl
got_moved (suc k) x [] m l = absurd (omega (arith, l))
got_moved (suc k) x (y ∷ ys) zero l = refl
got_moved (suc k) x (y ∷ ys) (suc m) l = got_moved k x ys m (omega (arith, l))

-- a number is that of the place, or one that is moved
pub at_or_moved : (k n : ℕ) → (n ≡ k) ⊎ ((m : ℕ) × (n ≡ moved k m))
at_or_moved zero zero = inl refl
at_or_moved zero (suc n) = inr (n, refl)
at_or_moved (suc k) zero = inr (zero, refl)
at_or_moved (suc k) (suc n) = elim (at_or_moved k n) [ inl e ↦ inl (ap (λ x. suc x) e) | inr h ↦ inr (suc h.0, ap (λ x. suc x) h.1) ]

moved_apart : (k m : ℕ) → moved k m ≡ k → ⊥
moved_apart zero m e = omega (arith, e)
moved_apart (suc k) zero e = omega (arith, e)
moved_apart (suc k) (suc m) e = moved_apart k m (omega (arith, e))

moved_once : (k m n : ℕ) → moved k m ≡ moved k n → m ≡ n
moved_once zero m n e = omega (arith, e)
moved_once (suc k) zero zero e = refl
moved_once (suc k) zero (suc n) e = absurd (omega (arith, e))
moved_once (suc k) (suc m) zero e = absurd (omega (arith, e))
moved_once (suc k) (suc m) (suc n) e = ap (λ x. suc x) (moved_once k m n (omega (arith, e)))

pub moved_below : (k m n : ℕ) → k ≤ n → moved k m < suc n → m < n
moved_below zero m n l h = omega (arith, h)
moved_below (suc k) zero n l h = omega (arith, l)
moved_below (suc k) (suc m) zero l h = absurd (omega (arith, l))
moved_below (suc k) (suc m) (suc n) l h = let r = moved_below k m n (omega (arith, l)) (omega (arith, h)) in omega (arith, r)

-- numbers that are moved are the same where they were
pub same_moved : (k m n : ℕ) → (moved k m == moved k n) ≡ (m == n)
same_moved k m n =
    elim (cases_eq m n) [
      | inl e ↦ eq-eqb (moved k m) (moved k n) (ap (λ x. moved k x) e) ∙ sym (eq-eqb m n e)
      | inr o ↦ ne_eqb (moved k m) (moved k n) (λ e. o (moved_once k m n e)) ∙ sym (ne_eqb m n o)
    ]

pub never_at : (k m : ℕ) → (moved k m == k) ≡ false
never_at k m = ne_eqb (moved k m) k (moved_apart k m)

pub never_moved : (k m : ℕ) → (k == moved k m) ≡ false
never_moved k m = ne_eqb k (moved k m) (λ e. moved_apart k m (sym e))

-- ---- sums

pub swapped : (x y t u : ℤ) → u ≡ x +ℤ t → y +ℤ u ≡ x +ℤ (y +ℤ t)
swapped x y t u e = omega (arith, ints, e)

pub total_put : (k : ℕ) (x : ℤ) (xs : List ℤ) → total (put_in k x xs) ≡ x +ℤ total xs
total_put zero x xs = refl
total_put (suc k) x [] = refl
total_put (suc k) x (y ∷ ys) = swapped x y (total ys) (total (put_in k x ys)) (total_put k x ys)

pub sum_put : (p : Edge → Bool) (k : ℕ) (e : Edge) (f : ℤ) (es : List Edge) (fs : List ℤ) → length fs ≡ length es
    → sum_where p (put_in k e es) (put_in k f fs) ≡ cond (p e) f (pos 0) +ℤ sum_where p es fs
sum_put p zero e f es fs l = refl
sum_put p (suc k) e f [] [] l = refl
sum_put p (suc k) e f [] (g ∷ fs) l = absurd (omega (arith, l))
sum_put p (suc k) e f (h ∷ es) [] l = absurd (omega (arith, l))
sum_put p (suc k) e f (h ∷ es) (g ∷ fs) l =
    swapped (cond (p e) f (pos 0)) (cond (p h) g (pos 0)) (sum_where p es fs) (sum_where p (put_in k e es) (put_in k f fs)) (sum_put p k e f es fs (omega (arith, l)))
