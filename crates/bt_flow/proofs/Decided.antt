-- A property holds exactly where no state breaks it, since comparisons of whole numbers are decided.
use Rattle.std.proofs.Common.{◌≡◌, ◌+◌, ℤ, ◌≤ℤ◌, ◌↔◌, ◌⊎◌, inl, inr, arith}
use Rattle.std.proofs.lemmas.Int.{ints}
use Rattle.std.proofs.lemmas.Bool.{cases_lt}
use borrow.Author.Differences.{up, down}
use Rattle.bt_net.specs.Network.{Network}
use Rattle.bt_flow.specs.declared.property.Property.{Property}
use Rattle.bt_flow.specs.declared.property.Property.TheVariants.{Balanced, DrawnEvenly, Unlimited, Full, Fair, DrawnFairly}
use Rattle.bt_flow.specs.States.{Flows}
use Rattle.bt_flow.specs.Properties.{IsLesser, Concludes, Holds, Breaks}

le_or : (x y : ℤ) → (x ≤ℤ y) ⊎ (x ≤ℤ y → ⊥)
le_or x y =
    elim (cases_lt (up y + down x) (up x + down y)) [
      | inl l ↦ inr (λ h. absurd (omega (arith, ints, l, h)))
      | inr l ↦ inl (omega (arith, ints, l))
    ]

pub same_or : (x y : ℤ) → (x ≡ y) ⊎ (x ≡ y → ⊥)
same_or x y =
    elim (le_or x y) [
      | inl l ↦ elim (le_or y x) [ inl m ↦ inl (omega (arith, ints, l, m)) | inr o ↦ inr (λ e. o (omega (arith, ints, e))) ]
      | inr o ↦ inr (λ e. o (omega (arith, ints, e)))
    ]

same_unless : (x y : ℤ) → ((x ≡ y → ⊥) → ⊥) → x ≡ y
same_unless x y f = elim (same_or x y) [ inl e ↦ e | inr o ↦ absurd (f o) ]

le_unless : (x y : ℤ) → ((x ≤ℤ y → ⊥) → ⊥) → x ≤ℤ y
le_unless x y f = elim (le_or x y) [ inl l ↦ l | inr o ↦ absurd (f o) ]

both_or : {P Q : Type 0} → P ⊎ (P → ⊥) → Q ⊎ (Q → ⊥) → (P × Q) ⊎ ((P × Q) → ⊥)
both_or p q =
    elim p [ inl x ↦ elim q [ inl y ↦ inl (x, y) | inr o ↦ inr (λ z. o z.1) ] | inr o ↦ inr (λ z. o z.0) ]

lesser_unless : (z x y : ℤ) → ((IsLesser z x y → ⊥) → ⊥) → IsLesser z x y
lesser_unless z x y f =
    elim (both_or (same_or z x) (le_or x y)) [
      | inl h ↦ inl h
      | inr o ↦ elim (both_or (same_or z y) (le_or y x)) [
        | inl h ↦ inr h
        | inr q ↦ absurd (f (λ l. elim l [ inl h ↦ o h | inr h ↦ q h ]))
      ]
    ]

concludes_unless : (p : Property) (n : Network) (s : Flows) → ((Concludes p n s → ⊥) → ⊥) → Concludes p n s
concludes_unless Balanced n s f = λ o p a b e g x y u v. same_unless _ _ (λ q. f (λ all. q (all o p a b e g x y u v)))
concludes_unless DrawnEvenly n s f = λ i j a b e g x y u v. same_unless _ _ (λ q. f (λ all. q (all i j a b e g x y u v)))
concludes_unless Unlimited n s f = lesser_unless _ _ _ f
concludes_unless Full n s f = lesser_unless _ _ _ f
concludes_unless Fair n s f = λ o p a b e g x y u v less. le_unless _ _ (λ q. f (λ all. q (all o p a b e g x y u v less)))
concludes_unless DrawnFairly n s f = λ i j a b e g x y u v less. le_unless _ _ (λ q. f (λ all. q (all i j a b e g x y u v less)))

pub holds_exactly : (n : Network) (p : Property) → Holds n p ↔ ((s : Flows) → Breaks n p s → ⊥)
holds_exactly n p = (
  λ h s b. b.fails (h s b.state b.admissible b.meets b.steady),
  λ none s state admissible meets steady.
      concludes_unless p n s (λ f. none s (record { state = state; admissible = admissible; meets = meets; steady = steady; fails = f })),
)
