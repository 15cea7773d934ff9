-- The variables of the atoms, found one after another.
use Rattle.std.proofs.Common.{◌≡◌, ◌≢◌, ℕ, ◌<◌, ◌≤◌, ◌+◌, inl, inr, List, [], ◌∷◌, ◌++◌, get_or, ap, sym, ◌∙◌, refl, subst, arith, append_assoc, append-nil, zero, suc, true, false, Option, Some, None}
use Rattle.std.specs.Prelude.{Contains}
use Rattle.std.specs.List.{All}
use Rattle.std.specs.Option.{is_some}
use Rattle.std.proofs.lemmas.Bool.{false≢true}
use Rattle.std.proofs.lemmas.List.{get_or_default}
use Rattle.bt_cnf.specs.Places.{IsPlaceOf}
use Rattle.std.proofs.lemmas.List.Elements.{All-contains, All-push, All-weaker, Contains-append_cases, Contains-append_right, Contains-get_or}
use Rattle.bt_cnf.specs.Formulas.{AscendBelow}

-- these are the numbers below a place, and the others ascend from there on
pub record IsSplitAt (vars items : List ℕ) (place end : ℕ) : Type 0 where
  pub rest : List ℕ
  pub split : vars ≡ items ++ rest
  pub below : All (λ v. v < place) items
  pub ascends : AscendBelow place end rest

least_of : (place end v : ℕ) (rest : List ℕ) → AscendBelow place end rest → Contains rest v → place ≤ v
least_of place end v [] h c = let l = c.1 in absurd (omega arith)
least_of place end v (n ∷ rest) h (zero, l, e) = let a = h.0 in omega (arith, a, e)
least_of place end v (n ∷ rest) h (suc k, l, e) = let a = h.0 in let b = least_of (n + 1) end v rest h.2 (k, omega arith, e) in omega (arith, a, b)

-- the place is the first of the others, where it is one of them
first_is : (place end : ℕ) (rest : List ℕ) → AscendBelow place end rest → Contains rest place → (more : List ℕ) × (rest ≡ place ∷ more) × AscendBelow (place + 1) end more
first_is place end [] h c = let l = c.1 in absurd (omega arith)
first_is place end (n ∷ rest) h (zero, l, e) = (rest, ap (λ x. x ∷ rest) e, subst (λ x. AscendBelow (x + 1) end rest) e h.2)
first_is place end (n ∷ rest) h (suc k, l, e) = let a = h.0 in let b = least_of (n + 1) end place rest h.2 (k, omega arith, e) in absurd (omega (arith, a, b))

weaker : (place : ℕ) (items : List ℕ) → All (λ v. v < place) items → All (λ v. v < place + 1) items
weaker place items h = All-weaker (λ v. v < place) (λ v. v < place + 1) (λ v l. omega (arith, l)) items h

pub split_found : (vars items : List ℕ) (place end : ℕ) → IsSplitAt vars items place end → Contains vars place → IsSplitAt vars (items ++ place ∷ []) (place + 1) end
split_found vars items place end h c =
    let among : Contains h.rest place = elim (Contains-append_cases items h.rest place (subst (λ l. Contains l place) h.split c)) [
      | inl before ↦ absurd (let l = All-contains (λ v. v < place) items place h.below before in omega (arith, l))
      | inr after ↦ after
    ] in
    let first = first_is place end h.rest h.ascends among in
    record {
      rest = first.0;
      split = h.split ∙ ap (λ l. items ++ l) first.1 ∙ sym (append_assoc items (place ∷ []) first.0);
      below = All-push (λ v. v < place + 1) items place (weaker place items h.below) (omega arith);
      ascends = first.2;
    }

others_ascend : (place end : ℕ) (rest : List ℕ) → AscendBelow place end rest → All (λ v. v ≢ place) rest → AscendBelow (place + 1) end rest
others_ascend place end [] h o = tt
others_ascend place end (n ∷ rest) h o = let other = o 0 n (omega arith) in let a = h.0 in (omega (arith, a, other), h.1, h.2)

pub split_other : (vars items : List ℕ) (place end : ℕ) → IsSplitAt vars items place end → All (λ v. v ≢ place) vars → IsSplitAt vars items (place + 1) end
split_other vars items place end h o =
    record {
      rest = h.rest;
      split = h.split;
      below = weaker place items h.below;
      ascends = others_ascend place end h.rest h.ascends (λ k d l.
          All-contains (λ v. v ≢ place) vars (get_or h.rest k d) o (subst (λ x. Contains x (get_or h.rest k d)) (sym h.split) (Contains-append_right items h.rest (get_or h.rest k d) (Contains-get_or h.rest k d l))));
    }

-- a place that is found, or isn't
pub found_at : (vars : List ℕ) (v : ℕ) (o : Option ℕ) → IsPlaceOf vars v o → is_some o ≡ true → Contains vars v
found_at vars v None h e = absurd (false≢true e)
found_at vars v (Some p) h e = (p, h.0, get_or_default vars p v 0 h.0 ∙ h.1)

pub not_found : (vars : List ℕ) (v : ℕ) (o : Option ℕ) → IsPlaceOf vars v o → is_some o ≡ false → All (λ other. other ≢ v) vars
not_found vars v None h e = h
not_found vars v (Some p) h e = absurd (false≢true (sym e))

none_left : (end : ℕ) (rest : List ℕ) → AscendBelow end end rest → rest ≡ []
none_left end [] h = refl
none_left end (n ∷ rest) h = let a = h.0 in let b = h.1 in absurd (omega (arith, a, b))

pub split_all : (vars items : List ℕ) (end : ℕ) → IsSplitAt vars items end end → items ≡ vars
split_all vars items end h = sym (h.split ∙ ap (λ l. items ++ l) (none_left end h.rest h.ascends) ∙ append-nil items)
