-- Sums of flows over the edges that pass a test, where two do.
use Rattle.std.proofs.Common.{◌≡◌, ℕ, zero, suc, ◌+◌, ◌<◌, ◌≤◌, Bool, true, false, ℤ, pos, ◌+ℤ◌, List, [], ◌∷◌, length, get_or, slice_get, Some, cond, ap, ◌∙◌, refl, arith}
use Rattle.std.specs.List.{count_by}
use Rattle.std.proofs.lemmas.Int.{ints}
use Rattle.std.proofs.lemmas.List.Sums.{sum_by-cons}
use Rattle.bt_net.specs.declared.network.Edge.{Edge}
use Rattle.bt_flow.specs.Steady.{sum_where}

none_step : (b : Bool) (f z : ℤ) (n m : ℕ) → m ≡ cond b 1 0 + n → m ≡ 0 → (n ≡ 0 → z ≡ pos 0) → cond b f (pos 0) +ℤ z ≡ pos 0
none_step true f z n m is c h = absurd (omega (arith, is, c))
none_step false f z n m is c h = let e : n ≡ 0 = omega (arith, is, c) in omega (arith, ints, h e)

later : (b : Bool) (n m : ℕ) → m ≡ cond b 1 0 + n → 1 ≤ n → 1 ≤ m
later true n m is l = omega (arith, is)
later false n m is l = omega (arith, is, l)

-- a test that the first passes counts one more
first_step : (b : Bool) (n m most : ℕ) → m ≡ cond b 1 0 + n → b ≡ true → m ≤ most + 1 → n ≤ most
first_step true n m most is t c = omega (arith, is, c)
first_step false n m most is t c = absurd cc

add_first : (b : Bool) (f z y : ℤ) → b ≡ true → z ≡ y → cond b f (pos 0) +ℤ z ≡ f +ℤ y
add_first true f z y t h = omega (arith, ints, h)
add_first false f z y t h = absurd cc

-- a test that a later one passes, of which there is one at most, isn't passed by the first
skip_one : (b : Bool) (f z y : ℤ) (n m : ℕ) → m ≡ cond b 1 0 + n → m ≤ 1 → 1 ≤ n → (n ≤ 1 → z ≡ y) → cond b f (pos 0) +ℤ z ≡ y
skip_one true f z y n m is c l h = absurd (omega (arith, is, c, l))
skip_one false f z y n m is c l h = let e : n ≤ 1 = omega (arith, is, c) in omega (arith, ints, h e)

skip_two : (b : Bool) (f z y : ℤ) (n m : ℕ) → m ≡ cond b 1 0 + n → m ≤ 2 → 2 ≤ n → (n ≤ 2 → z ≡ y) → cond b f (pos 0) +ℤ z ≡ y
skip_two true f z y n m is c l h = absurd (omega (arith, is, c, l))
skip_two false f z y n m is c l h = let e : n ≤ 2 = omega (arith, is, c) in omega (arith, ints, h e)

more_two : (b : Bool) (n m : ℕ) → m ≡ cond b 1 0 + n → 2 ≤ n → 2 ≤ m
more_two true n m is l = omega (arith, is, l)
more_two false n m is l = omega (arith, is, l)

first_two : (b : Bool) (n m : ℕ) → m ≡ cond b 1 0 + n → b ≡ true → 1 ≤ n → 2 ≤ m
first_two true n m is t l = omega (arith, is, l)
first_two false n m is t l = absurd cc

first_one : (b : Bool) (n m : ℕ) → m ≡ cond b 1 0 + n → b ≡ true → 1 ≤ m
first_one true n m is t = omega (arith, is)
first_one false n m is t = absurd cc

some_is : (x e : Edge) → Some x ≡ Some e → x ≡ e
some_is x e s = cc

module _ (p : Edge → Bool) where
  count_more : (e : Edge) (es : List Edge) → count_by p (e ∷ es) ≡ cond (p e) 1 0 + count_by p es
  count_more e es = sum_by-cons (λ x. cond (p x) 1 0) e es

  none : (es : List Edge) (fs : List ℤ) → count_by p es ≡ 0 → sum_where p es fs ≡ pos 0
  none [] fs c = refl
  none (e ∷ es) [] c = refl
  none (e ∷ es) (f ∷ fs) c = none_step (p e) f (sum_where p es fs) (count_by p es) (count_by p (e ∷ es)) (count_more e es) c (none es fs)

  passes_first : (x e : Edge) → Some x ≡ Some e → p e ≡ true → p x ≡ true
  passes_first x e s t = ap p (some_is x e s) ∙ t

  counted : (es : List Edge) (a : ℕ) (e : Edge) → slice_get es a ≡ Some e → p e ≡ true → 1 ≤ count_by p es
  counted [] a e s t = absurd cc
  counted (x ∷ es) zero e s t = first_one (p x) (count_by p es) (count_by p (x ∷ es)) (count_more x es) (passes_first x e s t)
  counted (x ∷ es) (suc a) e s t = later (p x) (count_by p es) (count_by p (x ∷ es)) (count_more x es) (counted es a e s t)

  counted_two : (es : List Edge) (a b : ℕ) (e f : Edge) → slice_get es a ≡ Some e → p e ≡ true → slice_get es b ≡ Some f → p f ≡ true → a < b → 2 ≤ count_by p es
  counted_two [] a b e f s t u v l = absurd cc
  counted_two (x ∷ es) a zero e f s t u v l = absurd (omega (arith, l))
  counted_two (x ∷ es) zero (suc b) e f s t u v l =
      first_two (p x) (count_by p es) (count_by p (x ∷ es)) (count_more x es) (passes_first x e s t) (counted es b f u v)
  counted_two (x ∷ es) (suc a) (suc b) e f s t u v l =
      more_two (p x) (count_by p es) (count_by p (x ∷ es)) (count_more x es) (counted_two es a b e f s t u v (omega (arith, l)))

  pub one : (es : List Edge) (fs : List ℤ) (a : ℕ) (e : Edge) → slice_get es a ≡ Some e → p e ≡ true → count_by p es ≤ 1 → length fs ≡ length es
      → sum_where p es fs ≡ get_or fs a (pos 0)
  one [] fs a e s t c l = absurd cc
  one (x ∷ es) [] a e s t c l = absurd (omega (arith, l))
  one (x ∷ es) (f ∷ fs) zero e s t c l =
      let h = passes_first x e s t in
      let few = first_step (p x) (count_by p es) (count_by p (x ∷ es)) 0 (count_more x es) h (omega (arith, c)) in
      add_first (p x) f (sum_where p es fs) (pos 0) h (none es fs (omega (arith, few))) ∙ omega (arith, ints)
  one (x ∷ es) (f ∷ fs) (suc a) e s t c l =
      skip_one (p x) f (sum_where p es fs) (get_or fs a (pos 0)) (count_by p es) (count_by p (x ∷ es)) (count_more x es) c (counted es a e s t)
      (λ few. one es fs a e s t few (omega (arith, l)))

  -- where two edges pass, and no more do, the sum is that of their flows
  pub two : (es : List Edge) (fs : List ℤ) (a b : ℕ) (e f : Edge) → slice_get es a ≡ Some e → p e ≡ true → slice_get es b ≡ Some f → p f ≡ true → a < b
      → count_by p es ≤ 2 → length fs ≡ length es → sum_where p es fs ≡ get_or fs a (pos 0) +ℤ get_or fs b (pos 0)
  two [] fs a b e f s t u v l c m = absurd cc
  two (x ∷ es) [] a b e f s t u v l c m = absurd (omega (arith, m))
  two (x ∷ es) (g ∷ fs) a zero e f s t u v l c m = absurd (omega (arith, l))
  two (x ∷ es) (g ∷ fs) zero (suc b) e f s t u v l c m =
      let h = passes_first x e s t in
      let few = first_step (p x) (count_by p es) (count_by p (x ∷ es)) 1 (count_more x es) h (omega (arith, c)) in
      add_first (p x) g (sum_where p es fs) (get_or fs b (pos 0)) h (one es fs b f u v few (omega (arith, m)))
  two (x ∷ es) (g ∷ fs) (suc a) (suc b) e f s t u v l c m =
      skip_two (p x) g (sum_where p es fs) (get_or fs a (pos 0) +ℤ get_or fs b (pos 0)) (count_by p es) (count_by p (x ∷ es)) (count_more x es) c
      (counted_two es a b e f s t u v (omega (arith, l))) (λ few. two es fs a b e f s t u v (omega (arith, l)) few (omega (arith, m)))
