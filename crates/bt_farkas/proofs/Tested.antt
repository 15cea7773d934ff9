-- A test of each item of a list, place by place.
use Rattle.std.proofs.Common.{◌≡◌, ℕ, ◌<◌, ◌+◌, arith, List, length, get_or, take, sym, ◌∙◌, refl, subst, ◌⊎◌, inl, inr}
use Rattle.std.specs.List.{All, Any}
use Rattle.std.proofs.lemmas.List.{get_or_default, get_or-take, length-take-le}
use Rattle.std.proofs.lemmas.List.Elements.{All-more}

module _ {X : Type 0} (P : X → Type 0) (xs : List X) (i : ℕ) (x : X) (inside : i < length xs) (here : get_or xs i x ≡ x) where
  -- an item that fails is one of all
  pub not_all : (P x → ⊥) → All P xs → ⊥
  not_all fails all = fails (subst P here (all i x inside))

  pub all_more : All P (take i xs) → P x → All P (take (i + 1) xs)
  all_more before p = All-more P xs i x inside before (subst P (sym here) p)

  pub some_found : P x → Any P xs
  some_found p = (i, x, inside, here, p)

  pub none_more : (Any P (take i xs) → ⊥) → (P x → ⊥) → Any P (take (i + 1) xs) → ⊥
  none_more before fails (k, y, below, is, p) =
      let size : length (take (i + 1) xs) ≡ i + 1 = length-take-le (i + 1) xs (omega arith) in
      let at : get_or xs k y ≡ y = sym (get_or-take (i + 1) xs k y (omega arith)) ∙ is in
      elim (earlier_or k (omega arith)) [
        | inl less ↦ before (k, y, omega (arith, length-take-le i xs (omega arith)), get_or-take i xs k y less ∙ at, p)
        | inr same ↦
            let is_x : y ≡ x = sym at ∙ subst (λ j. get_or xs k y ≡ get_or xs j y) same refl ∙ get_or_default xs i y x inside ∙ here in
            fails (subst P is_x p)
      ]
    where
      earlier_or : (k : ℕ) → k < i + 1 → (k < i) ⊎ (k ≡ i)
      earlier_or k h = grind arith
