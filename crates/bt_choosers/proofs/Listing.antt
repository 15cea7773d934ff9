-- The order of variables, which has those that have no value.
use Rattle.std.proofs.Common.{◌≡◌, ℕ, zero, suc, ◌<◌, ◌≤◌, ◌+◌, arith, Bool, List, [], ◌∷◌, ◌++◌, ◌⊎◌, inl, inr, length, length-append, drop, get_or, sym, subst, Option, None, Some}
use Rattle.std.specs.Prelude.{Contains, slice_set}
use Rattle.std.specs.List.Sorted.{IsPermutation}
use Rattle.std.proofs.lemmas.List.Elements.{Contains-append_left, Contains-push}
use Rattle.std.proofs.lemmas.List.Sorted.{Contains-permutation, length_permutation}
use Rattle.bt_cnf.specs.declared.literal.Lit.{Lit}
use Rattle.bt_cnf.specs.Truths.{LacksValue}
use Rattle.bt_choosers.specs.inner.Orders.{FindsUnset, IsLitAt}
use Rattle.bt_choosers.specs.Orders.{HasFirst, HasUnset, IsNext}
use Rattle.bt_cnf.proofs.Lists.{contains_there, first_or, none_in, lt_or_eq}
use Rattle.bt_cnf.proofs.Lacking.{set_lacks}

-- those that have no value are still among these once one was set
pub set_has : (values : List (Option Bool)) (vars : List ℕ) (var : ℕ) (value : Bool) → HasUnset values vars → HasUnset (slice_set values var (Some value)) vars
set_has values vars var value has = λ v lacks. has v (set_lacks values var value v lacks)

-- the first so many are among these with one more behind
pub first_more : (vars : List ℕ) → HasFirst (length vars) vars → HasFirst (length (vars ++ length vars ∷ [])) (vars ++ length vars ∷ [])
first_more vars has = λ v small. elim (lt_or_eq v (length vars) (omega (arith, small, length-append vars (length vars ∷ [])))) [
  | inl earlier ↦ Contains-append_left vars (length vars ∷ []) v (has v earlier)
  | inr same ↦ subst (Contains (vars ++ length vars ∷ [])) (sym same) (Contains-push vars (length vars))
]

-- one of those from a place on is the one there, or one of those behind it
drop_or : (vars : List ℕ) (place v : ℕ) → place < length vars → Contains (drop place vars) v → (get_or vars place 0 ≡ v) ⊎ Contains (drop (suc place) vars) v
drop_or [] place v small among = absurd (omega (arith, small))
drop_or (x ∷ vars) zero v small among = first_or x v vars among
drop_or (x ∷ vars) (suc place) v small among = drop_or vars place v (omega (arith, small)) among

-- those from a place on are among all, in whatever order these are put
pub left_permuted : (old new : List ℕ) (at : ℕ) → IsPermutation old new → (v : ℕ) → Contains (drop at old) v → Contains new v
left_permuted old new at same v among = Contains-permutation old new v same (in_drop old at among)
  where
    in_drop : (xs : List ℕ) (n : ℕ) → Contains (drop n xs) v → Contains xs v
    in_drop [] zero there = there
    in_drop [] (suc n) there = there
    in_drop (x ∷ xs) zero there = there
    in_drop (x ∷ xs) (suc n) there = contains_there x v xs (in_drop xs n there)

-- the first so many are among all in whatever order these are put
pub first_permuted : (old new : List ℕ) → IsPermutation old new → HasFirst (length old) old → HasFirst (length new) new
first_permuted old new same has = λ v small. Contains-permutation old new v same (has v (omega (arith, small, length_permutation old new same)))

-- none is beyond the end
pub none_beyond : (vars : List ℕ) (place v : ℕ) → length vars ≤ place → Contains (drop place vars) v → ⊥
none_beyond [] zero v far among = none_in v among
none_beyond [] (suc place) v far among = none_in v among
none_beyond (x ∷ vars) zero v far among = absurd (omega (arith, far))
none_beyond (x ∷ vars) (suc place) v far among = none_beyond vars place v (omega (arith, far)) among

-- those from a place on that have no value are behind it where the one there has one
pub pass_more : (values : List (Option Bool)) (vars : List ℕ) (from place : ℕ) → place < length vars → (LacksValue values (get_or vars place 0) → ⊥)
    → ((v : ℕ) → LacksValue values v → Contains (drop from vars) v → Contains (drop place vars) v) → (v : ℕ) → LacksValue values v → Contains (drop from vars) v → Contains (drop (place + 1) vars) v
pass_more values vars from place small has left v lacks among =
    let e : suc place ≡ place + 1 = omega arith in
    elim (drop_or vars place v small (left v lacks among)) [
      | inl here ↦ absurd (has (subst (LacksValue values) (sym here) lacks))
      | inr behind ↦ subst (λ n. Contains (drop n vars) v) e behind
    ]

-- the place that is found has a variable without a value, or all have one
pub next_at : (values : List (Option Bool)) (vars : List ℕ) (from place : ℕ) (l : Option Lit) → FindsUnset values vars from place → HasUnset values (drop from vars) → IsLitAt vars place l → IsNext values l
next_at values vars from place None finds has far = λ v lacks. none_beyond vars place v far (finds.left v lacks (has v lacks))
next_at values vars from place (Some l) finds has (small, is) = subst (LacksValue values) is (finds.found l.var small)
