-- The variables that have no value, one by one.
use Rattle.std.proofs.Common.{◌≡◌, ℕ, ◌<◌, ◌+◌, inl, inr, arith, Bool, List, [], ◌∷◌, ◌++◌, length, get_or, suc, sym, subst, refl, ◌∙◌, Option, None, Some, length-set, ◌⊎◌}
use Rattle.std.specs.Prelude.{Contains, slice_set}
use Rattle.std.proofs.lemmas.List.Elements.{All-nil, All-push, Contains-append_left, Contains-push, Contains-push_cases}
use Rattle.std.proofs.lemmas.Grind.{get_or-set_at}
use Rattle.std.proofs.lemmas.List.{get_or-set_other}
use Rattle.bt_cnf.specs.Choosing.{Ascends}
use Rattle.bt_cnf.specs.inner.Unset.{AddsUnset}
use Rattle.bt_cnf.specs.Unset.{AreUnset}
use Rattle.bt_cnf.specs.Truths.{IsUnset, unset, LacksValue}
use Rattle.bt_cnf.proofs.Lists.{lt_or_eq, nat_or}

-- numbers ascend with a greater one behind
ascends_push : (xs : List ℕ) (x : ℕ) → Ascends xs → ((k : ℕ) → Contains xs k → k < x) → Ascends (xs ++ x ∷ [])
ascends_push [] x ascends below = (All-nil (λ m. x < m), tt)
ascends_push (y ∷ xs) x ascends below = (
  All-push (λ m. y < m) xs x ascends.0 (below y (0, omega arith, refl)),
  ascends_push xs x ascends.1 (λ k (i, small, is). below k (suc i, omega (arith, small), is)),
)

pub unset_next : (values : List (Option Bool)) (count : ℕ) (old new : List ℕ) → AreUnset values count old → AddsUnset values count old new → AreUnset values (count + 1) new
unset_next values count old new are (inl (none, is)) = subst (AreUnset values (count + 1)) (sym is) (record {
  ascends = ascends_push old count are.ascends (λ k among. (are.are k among).0);
  are = λ v among. elim (Contains-push_cases old count v among) [
    | inl before ↦
        let was = are.are v before in
        (omega (arith, was.0), was.1)
    | inr same ↦ (omega (arith, same), subst (IsUnset values) same none)
  ];
  complete = λ v small unset_v. elim (lt_or_eq v count small) [
    | inl earlier ↦ Contains-append_left old (count ∷ []) v (are.complete v earlier unset_v)
    | inr same ↦ subst (Contains (old ++ count ∷ [])) (sym same) (Contains-push old count)
  ];
})
unset_next values count old new are (inr (some, is)) = subst (AreUnset values (count + 1)) (sym is) (record {
  ascends = are.ascends;
  are = λ v among.
      let was = are.are v among in
      (omega (arith, was.0), was.1);
  complete = λ v small unset_v. elim (lt_or_eq v count small) [
    | inl earlier ↦ are.complete v earlier unset_v
    | inr same ↦ absurd (some (subst (IsUnset values) same unset_v))
  ];
})

pub none_or : (o : Option Bool) → (o ≡ None) ⊎ ((b : Bool) × (o ≡ Some b))
none_or None = inl refl
none_or (Some b) = inr (b, refl)

pub some_none : (b : Bool) → Some b ≡ None → ⊥
some_none b is = cc

-- a variable that has no value had none before one was set
pub set_lacks : (values : List (Option Bool)) (var : ℕ) (value : Bool) (v : ℕ) → LacksValue (slice_set values var (Some value)) v → LacksValue values v
set_lacks values var value v (small, none) =
    let below : v < length values = omega (arith, small, length-set values var (Some value)) in
    elim (none_or (get_or values v None)) [
      | inl unset ↦ (below, unset)
      | inr (b, is) ↦ elim (nat_or v var) [
        | inl same ↦ absurd (some_none value (sym (get_or-set_at values var v (Some value) None same (omega (arith, same, below))) ∙ none))
        | inr other ↦ (below, sym (get_or-set_other values var v (Some value) None other) ∙ none)
      ]
    ]
