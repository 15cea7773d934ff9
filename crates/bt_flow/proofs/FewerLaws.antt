-- A network of which some splitter may prefer any in edge has all steady states of one that asks more there.
use Rattle.std.proofs.Common.{◌≡◌, ℕ, true, false, Bool, List, Option, Some, None, ◌⊎◌, inl, inr, sym, subst, ◌∙◌}
use Rattle.bt_net.specs.Network.{Network, IsNetwork, TakesEvenly, take_of, merges_any}
use Rattle.bt_net.specs.Priorities.{preferring, merging}
use Rattle.bt_flow.specs.declared.property.Property.{Property}
use Rattle.bt_flow.specs.declared.property.Property.TheVariants.{Balanced, DrawnEvenly, Unlimited, Full, Fair, DrawnFairly}
use Rattle.bt_flow.specs.States.{Flows, IsStateOf}
use Rattle.bt_flow.specs.Steady.{IsSteady}
use Rattle.bt_flow.specs.Properties.{Concludes, Holds}
use Rattle.bt_flow.specs.FewerLaws.{FewerLaws}

both_values : {b : Bool} → b ≡ true → b ≡ false → ⊥
both_values one other = absurd (cc)

none_and_some : (o : Option ℕ) (a : ℕ) → o ≡ None → o ≡ Some a → ⊥
none_and_some o a none some = absurd (cc)

module _ (n : Network) (is : IsNetwork n) (takes : List (Option ℕ)) (merges : List Bool) where
  abbrev other : Network
  other = merging (preferring n n.gives takes) merges

  module _ (fewer : (k : ℕ) → (merges_any n k ≡ true) ⊎ ((take_of n k ≡ take_of other k) × (merges_any n k ≡ merges_any other k))) where
    evenly : (k : ℕ) → TakesEvenly n k → TakesEvenly other k
    evenly k even = elim (fewer k) [
      | inl any ↦ absurd (both_values any even.1)
      | inr same ↦ (sym same.0 ∙ even.0, sym same.1 ∙ even.1)
    ]

    named : (k a : ℕ) → take_of n k ≡ Some a → take_of other k ≡ Some a
    named k a some = elim (fewer k) [
      | inl any ↦ absurd (none_and_some (take_of n k) a (is.prioritised.one_of_both k any) some)
      | inr same ↦ sym same.0 ∙ some
    ]

    steady : (s : Flows) → IsSteady other s → IsSteady n s
    steady s h = record {
      range = h.range;
      conserve = h.conserve;
      even_out = h.even_out;
      even_in = λ a l k b e f x y o p q even m. h.even_in a l k b e f x y o p q (evenly k even) m;
      prior_out = h.prior_out;
      prior_in = λ a l k b e f x y o p q first m. h.prior_in a l k b e f x y o p q (named k a first) m;
      backing = h.backing;
      input = h.input;
      output = h.output;
    }

    state_of : (s : Flows) → IsStateOf other s → IsStateOf n s
    state_of s h = record { positive = h.positive; flows = h.flows; backed = h.backed; loads = h.loads; rooms = h.rooms }

    concluded : (p : Property) (s : Flows) → Concludes p n s → Concludes p other s
    concluded Balanced s h = h
    concluded DrawnEvenly s h = h
    concluded Unlimited s h = h
    concluded Full s h = h
    concluded Fair s h = h
    concluded DrawnFairly s h = h

    holds : (p : Property) → Holds n p → Holds other p
    holds p h s state admissible meets is_steady =
        concluded p s (h s (state_of s state) (record { loads = admissible.loads; rooms = admissible.rooms }) (record { loads = meets.loads; rooms = meets.rooms }) (steady s is_steady))

pub fewer_laws : FewerLaws
fewer_laws n m is fewer =
    let takes : (k : ℕ) → (merges_any n k ≡ true) ⊎ ((take_of n k ≡ take_of m k) × (merges_any n k ≡ merges_any m k)) = fewer.takes in (
      λ s h. steady n is m.takes m.merges takes s (subst (λ x. IsSteady x s) (sym fewer.rest) h),
      λ p h. subst (λ x. Holds x p) fewer.rest (holds n is m.takes m.merges takes p h),
    )
