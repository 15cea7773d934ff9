-- Distinct items of a list are no more than it has.
use Rattle.std.proofs.Common.{◌≡◌, ◌≢◌, ◌⊎◌, inl, inr, ℕ, suc, ◌+◌, ◌≤◌, true, not, ◌&&◌, ltb, List, [], ◌∷◌, length, map, refl, sym, ◌∙◌, ap, subst, ⊎_elim, arith}
use Rattle.std.specs.List.{AllPairs}
use Rattle.std.proofs.lemmas.Bool.{not-true, ltb-false, le-ltb}
use Rattle.bt_model.proofs.Sorted.{pairs_head, pairs_tail}
use Rattle.bt_demands.specs.Counting.{are_enough}
use Rattle.bt_facts.proofs.Keeping.{In, from_map, in_contains, both_true, Distinct}

-- an item taken out of a list
taken_out : {X : Type 0} (ys : List X) (x : X) → In ys x → (rest : List X) × (length ys ≡ suc (length rest)) × ((y : X) → In ys y → (y ≡ x) ⊎ In rest y)
taken_out [] x h = absurd h
taken_out (y ∷ ys) x (inl e) = (ys, refl, λ z h. ⊎_elim (λ s. inl (s ∙ sym e)) (λ m. inr m) h)
taken_out (y ∷ ys) x (inr h) =
    let more = taken_out ys x h in
    (y ∷ more.0, ap suc more.1, λ z g. ⊎_elim (λ s. inr (inl s)) (λ m. ⊎_elim (λ e. inl e) (λ k. inr (inr k)) (more.2 z m)) g)

pub no_longer : {X : Type 0} (xs ys : List X) → Distinct xs → ((x : X) → In xs x → In ys x) → length xs ≤ length ys
no_longer [] ys apart h = omega arith
no_longer (x ∷ xs) ys apart h =
    let out = taken_out ys x (h x (inl refl)) in
    let le = no_longer xs out.0 apart.1 (λ y at. ⊎_elim (λ e. absurd (apart.0 (subst (In xs) e at))) (λ k. k) (out.2 y (h y (inr at)))) in
    let long = out.1 in
    omega (arith, le, long)

-- what differs pair by pair is distinct
pub distinct_pairs : {X : Type 0} (xs : List X) → AllPairs ◌≢◌ xs → Distinct xs
distinct_pairs [] h = tt
distinct_pairs (x ∷ xs) h = ((λ there. pairs_head ◌≢◌ x xs x h (in_contains xs x there) refl), distinct_pairs xs (pairs_tail ◌≢◌ x xs h))

-- what is made of distinct items, where of no two the same is made
pub distinct_made : {X Y : Type 0} (f : X → Y) (xs : List X) → ((x y : X) → In xs x → In xs y → f x ≡ f y → x ≡ y) → Distinct xs → Distinct (map f xs)
distinct_made f [] one h = tt
distinct_made f (x ∷ xs) one h = (
  λ there. let found = from_map f xs (f x) there in h.0 (subst (In xs) (sym (one x found.0 (inl refl) (inr found.1) found.2)) found.1),
  distinct_made f xs (λ y z at_y at_z. one y z (inr at_y) (inr at_z)) h.1,
)

-- ---- room

pub from_enough : (cells border halves ends : ℕ) → are_enough cells border halves ends ≡ true → (ends ≤ border) × (halves + ends ≤ cells)
from_enough cells border halves ends t =
    let tests = both_true (not (ltb border ends)) (not (ltb cells (halves + ends))) t in
    (ltb-false border ends (not-true (ltb border ends) tests.0), ltb-false cells (halves + ends) (not-true (ltb cells (halves + ends)) tests.1))

pub enough_for : (cells border halves ends : ℕ) → ends ≤ border → halves + ends ≤ cells → are_enough cells border halves ends ≡ true
enough_for cells border halves ends few all =
    ap (λ b. not b && not (ltb cells (halves + ends))) (le-ltb border ends few) ∙ ap not (le-ltb cells (halves + ends) all)
