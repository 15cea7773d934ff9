-- Sorted lists in which each thing stands as often are the same.
use Rattle.std.proofs.Common.{◌≡◌, ℕ, suc, ◌+◌, ◌<◌, List, [], ◌∷◌, get_or, cond, false, Ordering, Less, Equal, Greater, is_lt, refl, sym, ◌∙◌, ap, subst, IsPermutation, IsSortedBy, sum_by, arith}
use Rattle.std.specs.List.{Contains}
use Rattle.std.specs.Ordering.{ordering_reverse}
use Rattle.std.specs.Cmp.{IsTotalOrder}
use Rattle.std.proofs.lemmas.List.Sums.{sum_by-cons}
use Rattle.std.proofs.lemmas.List.Sorted.{sorted_far, ranks_by, sum_by-IsPermutation}
use Rattle.bt_model.proofs.Sorted.{contains_head, contains_more}

-- a total order in which only equal things tie
pub record IsExact {X : Type 0} (R : X → X → Ordering) : Type 0 where
  pub total : IsTotalOrder R
  pub same : (x y : X) → R x y ≡ Equal → x ≡ y

-- the two lists weigh the same, whatever each thing weighs
abbrev WeighSame : {X : Type 0} → List X → List X → Type 0
WeighSame {X} xs ys = (f : X → ℕ) → sum_by f xs ≡ sum_by f ys

none_weigh : {X : Type 0} (f : X → ℕ) (xs : List X) → ((x : X) → Contains xs x → f x ≡ 0) → sum_by f xs ≡ 0
none_weigh f [] none = refl
none_weigh f (x ∷ xs) none =
    let here = none x (contains_head x xs) in
    let rest = none_weigh f xs (λ y there. none y (contains_more x xs y there)) in
    let all = sum_by-cons f x xs in
    omega (arith, here, rest, all)

-- the test whether one thing is less than another, as a weight
less_weight : {X : Type 0} → (X → X → Ordering) → X → X → ℕ
less_weight R y z = cond (is_lt (R z y)) 1 0

module _ {X : Type 0} (R : X → X → Ordering) (exact : IsExact R) where
  Sorted : List X → Type 0
  Sorted = IsSortedBy (λ x y. is_lt (R x y))

  tail_sorted : (x : X) (xs : List X) → Sorted (x ∷ xs) → Sorted xs
  unfolding Sorted
  tail_sorted x xs up = λ k d low high. let e : suc k + 1 ≡ suc (k + 1) = omega arith in
      subst (λ n. is_lt (R (get_or (x ∷ xs) n d) (get_or xs k d)) ≡ false) e (up (suc k) d (omega arith) (omega arith))

  -- nothing is less than the first
  none_less : (y : X) (ys : List X) → Sorted (y ∷ ys) → (z : X) → Contains (y ∷ ys) z → is_lt (R z y) ≡ false
  unfolding Sorted
  none_less y ys up z there =
      let at = sorted_far (λ a b. is_lt (R a b)) (ranks_by exact.total (λ a. a)) (y ∷ ys) up 0 there.0 z (omega arith) there.1 in
      subst (λ w. is_lt (R w y) ≡ false) there.2 at

  light : (y : X) (ys : List X) → Sorted (y ∷ ys) → sum_by (less_weight R y) (y ∷ ys) ≡ 0
  unfolding less_weight
  light y ys up = none_weigh (less_weight R y) (y ∷ ys) (λ z there. ap (λ b. cond b 1 0) (none_less y ys up z there))

  heavy : (x y : X) (xs : List X) → R x y ≡ Less → 0 < sum_by (less_weight R y) (x ∷ xs)
  unfolding less_weight
  heavy x y xs less =
      let all = sum_by-cons (less_weight R y) x xs in
      let here : less_weight R y x ≡ 1 = ap (λ o. cond (is_lt o) 1 0) less in
      omega (arith, all, here)

  not_less : (x y : X) (xs ys : List X) → Sorted (y ∷ ys) → WeighSame (x ∷ xs) (y ∷ ys) → R x y ≡ Less → ⊥
  not_less x y xs ys up same less =
      let some = heavy x y xs less in
      let none = light y ys up in
      let both = same (less_weight R y) in
      omega (arith, some, none, both)

  heads : (x y : X) (xs ys : List X) → Sorted (x ∷ xs) → Sorted (y ∷ ys) → WeighSame (x ∷ xs) (y ∷ ys) → (o : Ordering) → R x y ≡ o → x ≡ y
  heads x y xs ys up_x up_y same Less e = absurd (not_less x y xs ys up_y same e)
  heads x y xs ys up_x up_y same Equal e = exact.same x y e
  heads x y xs ys up_x up_y same Greater e =
      absurd (not_less y x ys xs up_x (λ f. sym (same f)) (exact.total.antisymm y x ∙ ap ordering_reverse e))

  alike : (xs ys : List X) → Sorted xs → Sorted ys → WeighSame xs ys → xs ≡ ys
  alike [] [] up_x up_y same = refl
  alike [] (y ∷ ys) up_x up_y same = let e = same (λ _. 1) in let all = sum_by-cons (λ _. 1) y ys in absurd (omega (arith, e, all))
  alike (x ∷ xs) [] up_x up_y same = let e = same (λ _. 1) in let all = sum_by-cons (λ _. 1) x xs in absurd (omega (arith, e, all))
  alike (x ∷ xs) (y ∷ ys) up_x up_y same =
      let first : x ≡ y = heads x y xs ys up_x up_y same (R x y) refl in
      let rest : xs ≡ ys = alike xs ys (tail_sorted x xs up_x) (tail_sorted y ys up_y)
      (λ f. let one = sum_by-cons f x xs in let other = sum_by-cons f y ys in let both = same f in let here = ap f first in omega (arith, one, other, both, here)) in
      ap (λ z. z ∷ xs) first ∙ ap (λ zs. y ∷ zs) rest

  -- two lists that were sorted are the same where the one has what the other has, as often
  pub sorted_alike : (xs ys up down : List X) → IsPermutation xs up → IsPermutation ys down → IsSortedBy (λ x y. is_lt (R x y)) up
      → IsSortedBy (λ x y. is_lt (R x y)) down → IsPermutation xs ys → up ≡ down
  unfolding Sorted
  sorted_alike xs ys up down to_up to_down sorted_up sorted_down moved =
      alike up down sorted_up sorted_down (λ f. sum_by-IsPermutation f xs up to_up ∙ sym (sum_by-IsPermutation f xs ys moved) ∙ sym (sum_by-IsPermutation f ys down to_down))
