-- There is one right answer.
use Rattle.std.proofs.Common.{◌≡◌, ℕ, ◌<◌, ◌≤◌, ◌⊎◌, inl, inr, sym, subst, refl, ap, ◌∙◌, arith, Result, Ok, Err}
use Rattle.std.proofs.lemmas.Bool.{cases_order, false≢true}
use Rattle.bt_net.specs.Network.{Network}
use Rattle.bt_flow.specs.declared.property.Property.{Property}
use Rattle.bt_flow.specs.declared.property.Property.TheVariants.{Unlimited}
use Rattle.bt_flow.specs.declared.judgement.Test.{Test}
use Rattle.bt_flow.specs.declared.judgement.Test.TheVariants as test
use Rattle.bt_flow.specs.declared.judgement.Judgement.{Judgement}
use Rattle.bt_flow.specs.declared.judgement.Judgement.TheVariants.{Passes, Fails}
use Rattle.bt_flow.specs.declared.judgement.WideSum.{WideSum}
use Rattle.bt_flow.specs.States.{Flows, Fractions, StandsFor}
use Rattle.bt_flow.specs.Steady.{IsSteady}
use Rattle.bt_flow.specs.Properties.{IsAdmissible, Breaks}
use Rattle.bt_flow.specs.Tests.{order_of, places, PassesAt, IsAmong, IsEarlier, FailsFirst}
use Rattle.bt_text.specs.Answers.{HasOneAnswer}
use Rattle.bt_flow.specs.Sums.{sums_of, IsFirstWide}
use Rattle.bt_flow.specs.Judging.{JudgesBreaking, JudgesSteady, JudgesState, NeedsFit, IsWideSum, IsBreakingAnswer, IsSteadyAnswer, IsStateAnswer}
use Rattle.bt_flow.proofs.Judged.{same_order}
use Rattle.bt_flow.proofs.OneWide.{one_first_wide, all_fit_or_wide}

-- of two tests at places one comes first, or they are the same
compared : (t u : Test) (a b : ℕ) → IsEarlier t a u b ⊎ (IsEarlier u b t a ⊎ ((t ≡ u) × (a ≡ b)))
compared t u a b =
    elim (cases_order (order_of t) (order_of u)) [
      | inl same ↦ elim (cases_order a b) [
        | inl e ↦ inr (inr (same_order t u same, e))
        | inr o ↦ elim o [ inl l ↦ inl (inr (same, l)) | inr l ↦ inr (inl (inr (sym same, l))) ]
      ]
      | inr o ↦ elim o [ inl l ↦ inl (inl l) | inr l ↦ inr (inl (inl l)) ]
    ]

-- what a judgement says of one state, of those tests from the place `first` to the place `last` of the order
abbrev Says : Network → Property → Flows → ℕ → ℕ → Judgement → Type 0
Says n p s first last Passes = (u : Test) (b : ℕ) → IsAmong first last u → b < places n u → PassesAt n p s u b
Says n p s first last (Fails t a) = FailsFirst n p s first last t a

-- what an answer says of one state
abbrev Answers : Network → Property → Fractions → Flows → ℕ → ℕ → Result Judgement WideSum → Type 0
Answers n p t s first last (Ok j) = Says n p s first last j × NeedsFit n p t first last j
Answers n p t s first last (Err w) = IsWideSum n p t first last w

same_wide : (w v : WideSum) → w.test ≡ v.test → w.place ≡ v.place → w.left ≡ v.left → w.right ≡ v.right → w ≡ v
same_wide w v p q r x =
    ap (λ y. record { test = y; place = w.place; left = w.left; right = w.right }) p
    ∙ ap (λ y. record { test = v.test; place = y; left = w.left; right = w.right }) q
    ∙ ap (λ y. record { test = v.test; place = v.place; left = y; right = w.right }) r
    ∙ ap (λ y. record { test = v.test; place = v.place; left = v.left; right = y }) x

module _ (n : Network) (p : Property) (t : Fractions) (s : Flows) (g : StandsFor n t s) (first last : ℕ) where
  one_judgement : (j k : Judgement) → Says n p s first last j → Says n p s first last k → j ≡ k
  one_judgement Passes Passes h f = refl
  one_judgement Passes (Fails u a) h f = absurd (f.fails (h u a f.among f.place))
  one_judgement (Fails u a) Passes h f = absurd (h.fails (f u a h.among h.place))
  one_judgement (Fails u a) (Fails v b) h f =
      elim (compared u v a b) [
        | inl e ↦ absurd (h.fails (f.earlier u a h.among h.place e))
        | inr o ↦ elim o [
          | inl e ↦ absurd (f.fails (h.earlier v b f.among f.place e))
          | inr e ↦ ap (λ x. Fails x a) e.0 ∙ ap (λ x. Fails v x) e.1
        ]
      ]

  judged_or_wide : (j : Judgement) (w : WideSum) → Says n p s first last j → NeedsFit n p t first last j → IsWideSum n p t first last w → ⊥
  judged_or_wide Passes w h f k = all_fit_or_wide w.left w.right _ (f w.test w.place k.among k.place tt) k.first_wide
  judged_or_wide (Fails u a) w h f k =
      elim (compared u w.test a w.place) [
        | inl e ↦ h.fails (k.earlier.each s g u a h.among h.place e)
        | inr o ↦ elim o [
          | inl e ↦ all_fit_or_wide w.left w.right _ (f w.test w.place k.among k.place (inl e)) k.first_wide
          | inr e ↦ all_fit_or_wide w.left w.right _ (f w.test w.place k.among k.place (inr (sym e.0, sym e.1))) k.first_wide
        ]
      ]

  one_wide : (w v : WideSum) → IsWideSum n p t first last w → IsWideSum n p t first last v → w ≡ v
  one_wide w v h k =
      elim (compared w.test v.test w.place v.place) [
        | inl e ↦ absurd (all_fit_or_wide w.left w.right _ (k.earlier_fit w.test w.place h.among h.place e) h.first_wide)
        | inr o ↦ elim o [
          | inl e ↦ absurd (all_fit_or_wide v.left v.right _ (h.earlier_fit v.test v.place k.among k.place e) k.first_wide)
          | inr e ↦
              let q = one_first_wide w.left w.right v.left v.right (sums_of n p t v.test v.place)
              (subst (λ u. IsFirstWide w.left w.right (sums_of n p t u v.place)) e.0 (subst (λ a. IsFirstWide w.left w.right (sums_of n p t w.test a)) e.1 h.first_wide)) k.first_wide in
              same_wide w v e.0 e.1 q.0 q.1
        ]
      ]

  one_answer : (x y : Result Judgement WideSum) → Answers n p t s first last x → Answers n p t s first last y → x ≡ y
  one_answer (Ok j) (Ok k) h f = ap Ok (one_judgement j k h.0 f.0)
  one_answer (Ok j) (Err w) h f = absurd (judged_or_wide j w h.0 h.1 f)
  one_answer (Err w) (Ok k) h f = absurd (judged_or_wide k w f.0 f.1 h)
  one_answer (Err w) (Err v) h f = ap Err (one_wide w v h f)

laws_pass : (n : Network) (p : Property) (s : Flows) → IsSteady n s → (u : Test) (b : ℕ) → 2 ≤ order_of u → order_of u ≤ 10 → b < places n u → PassesAt n p s u b
laws_pass n p s h test.Load b low high l = absurd (omega (arith, low))
laws_pass n p s h test.Room b low high l = absurd (omega (arith, low))
laws_pass n p s h test.Range b low high l = h.range b l
laws_pass n p s h test.Conserve b low high l = h.conserve b l
laws_pass n p s h test.EvenOut b low high l = h.even_out b l
laws_pass n p s h test.EvenIn b low high l = h.even_in b l
laws_pass n p s h test.PriorOut b low high l = h.prior_out b l
laws_pass n p s h test.PriorIn b low high l = h.prior_in b l
laws_pass n p s h test.Backing b low high l = h.backing b l
laws_pass n p s h test.Input b low high l = h.input b l
laws_pass n p s h test.Output b low high l = h.output b l
laws_pass n p s h test.Conclusion b low high l = absurd (omega (arith, high))

-- a state that breaks the property passes each test
pub breaks_pass : (n : Network) (p : Property) (s : Flows) → Breaks n p s → (u : Test) (b : ℕ) → b < places n u → PassesAt n p s u b
breaks_pass n p s h test.Load b l = (h.admissible.loads b l, λ a. h.meets.loads a b l)
breaks_pass n p s h test.Room b l = (h.admissible.rooms b l, λ a. h.meets.rooms a b l)
breaks_pass n p s h test.Range b l = h.steady.range b l
breaks_pass n p s h test.Conserve b l = h.steady.conserve b l
breaks_pass n p s h test.EvenOut b l = h.steady.even_out b l
breaks_pass n p s h test.EvenIn b l = h.steady.even_in b l
breaks_pass n p s h test.PriorOut b l = h.steady.prior_out b l
breaks_pass n p s h test.PriorIn b l = h.steady.prior_in b l
breaks_pass n p s h test.Backing b l = h.steady.backing b l
breaks_pass n p s h test.Input b l = h.steady.input b l
breaks_pass n p s h test.Output b l = h.steady.output b l
breaks_pass n p s h test.Conclusion b l = h.fails

breaking_says : (n : Network) (p : Property) (s : Flows) (j : Judgement) → JudgesBreaking n p j s → Says n p s 0 11 j
breaking_says n p s Passes h = λ u b m l. breaks_pass n p s h u b l
breaking_says n p s (Fails t a) h = h

steady_says : (n : Network) (p : Property) (s : Flows) (j : Judgement) → JudgesSteady n j s → Says n p s 2 10 j
steady_says n p s Passes h = λ u b m l. laws_pass n p s h u b m.0 m.1 l
steady_says n p s (Fails t a) h = h p

breaking_answers : (n : Network) (p : Property) (t : Fractions) (s : Flows) → StandsFor n t s → (x : Result Judgement WideSum) → IsBreakingAnswer n p t x → Answers n p t s 0 11 x
breaking_answers n p t s g (Ok j) h = (breaking_says n p s j (h.0.each s g), h.1)
breaking_answers n p t s g (Err w) h = h

steady_answers : (n : Network) (t : Fractions) (s : Flows) → StandsFor n t s → (x : Result Judgement WideSum) → IsSteadyAnswer n t x → Answers n Unlimited t s 2 10 x
steady_answers n t s g (Ok j) h = (steady_says n Unlimited s j (h.0.each s g), h.1 Unlimited)
steady_answers n t s g (Err w) h = h Unlimited

breaking_some : (n : Network) (p : Property) (t : Fractions) (x : Result Judgement WideSum) → IsBreakingAnswer n p t x → (s : Flows) × StandsFor n t s
breaking_some n p t (Ok j) h = h.0.some
breaking_some n p t (Err w) h = h.earlier.some

steady_some : (n : Network) (t : Fractions) (x : Result Judgement WideSum) → IsSteadyAnswer n t x → (s : Flows) × StandsFor n t s
steady_some n t (Ok j) h = h.0.some
steady_some n t (Err w) h = (h Unlimited).earlier.some

-- `breaks` has one right answer
pub one_breaking_answer : (n : Network) (p : Property) (t : Fractions) → HasOneAnswer (IsBreakingAnswer n p t)
one_breaking_answer n p t x y h k =
    let some = breaking_some n p t x h in
    one_answer n p t some.0 some.1 0 11 x y (breaking_answers n p t some.0 some.1 x h) (breaking_answers n p t some.0 some.1 y k)

-- `steady` has one right answer
pub one_steady_answer : (n : Network) (t : Fractions) → HasOneAnswer (IsSteadyAnswer n t)
one_steady_answer n t x y h k =
    let some = steady_some n t x h in
    one_answer n Unlimited t some.0 some.1 2 10 x y (steady_answers n t some.0 some.1 x h) (steady_answers n t some.0 some.1 y k)

pub state_passes : (n : Network) (s : Flows) → IsAdmissible n s × IsSteady n s → (u : Test) (b : ℕ) → order_of u ≤ 10 → b < places n u → PassesAt n Unlimited s u b
state_passes n s h test.Load b high l = (h.0.loads b l, λ asks. absurd (false≢true asks))
state_passes n s h test.Room b high l = (h.0.rooms b l, λ asks. absurd (false≢true asks))
state_passes n s h test.Range b high l = h.1.range b l
state_passes n s h test.Conserve b high l = h.1.conserve b l
state_passes n s h test.EvenOut b high l = h.1.even_out b l
state_passes n s h test.EvenIn b high l = h.1.even_in b l
state_passes n s h test.PriorOut b high l = h.1.prior_out b l
state_passes n s h test.PriorIn b high l = h.1.prior_in b l
state_passes n s h test.Backing b high l = h.1.backing b l
state_passes n s h test.Input b high l = h.1.input b l
state_passes n s h test.Output b high l = h.1.output b l
state_passes n s h test.Conclusion b high l = absurd (omega (arith, high))

state_says : (n : Network) (s : Flows) (j : Judgement) → JudgesState n j s → Says n Unlimited s 0 10 j
state_says n s Passes h = λ u b m l. state_passes n s h u b m.1 l
state_says n s (Fails t a) h = h

state_answers : (n : Network) (t : Fractions) (s : Flows) → StandsFor n t s → (x : Result Judgement WideSum) → IsStateAnswer n t x → Answers n Unlimited t s 0 10 x
state_answers n t s g (Ok j) h = (state_says n s j (h.0.each s g), h.1)
state_answers n t s g (Err w) h = h

state_some : (n : Network) (t : Fractions) (x : Result Judgement WideSum) → IsStateAnswer n t x → (s : Flows) × StandsFor n t s
state_some n t (Ok j) h = h.0.some
state_some n t (Err w) h = h.earlier.some

-- `admissible_steady` has one right answer
pub one_state_answer : (n : Network) (t : Fractions) → HasOneAnswer (IsStateAnswer n t)
one_state_answer n t x y h k =
    let some = state_some n t x h in
    one_answer n Unlimited t some.0 some.1 0 10 x y (state_answers n t some.0 some.1 x h) (state_answers n t some.0 some.1 y k)
