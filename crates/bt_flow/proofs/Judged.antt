-- From the tests at their places to the judgement.
use Rattle.std.proofs.Common.{◌≡◌, ℕ, ◌<◌, ◌≤◌, ◌+◌, Bool, true, false, Result, Ok, Err, inl, inr, sym, subst, refl, ap, ◌∙◌, arith, zero, suc, lit<, lit≤, List, [], ◌∷◌, get_or}
use Rattle.std.proofs.lemmas.Bool.{false≢true, cases_lt, cases_eq}
use Rattle.bt_net.specs.Network.{Network}
use Rattle.bt_flow.specs.declared.property.Property.{Property}
use Rattle.bt_flow.specs.declared.property.Property.TheVariants.{Unlimited}
use Rattle.bt_flow.specs.declared.judgement.Test.{Test}
use Rattle.bt_flow.specs.declared.judgement.Test.TheVariants as test
use Rattle.bt_flow.specs.declared.judgement.Judgement.{Judgement}
use Rattle.bt_flow.specs.declared.judgement.Judgement.TheVariants.{Passes, Fails}
use Rattle.bt_flow.specs.declared.judgement.WideSum.{WideSum}
use Rattle.bt_flow.specs.States.{Flows, Fractions, StandsFor}
use Rattle.bt_flow.specs.Steady.{IsSteady}
use Rattle.bt_flow.specs.Properties.{IsAdmissible, Breaks}
use Rattle.bt_flow.specs.Tests.{order_of, places, PassesAt, IsAmong, IsEarlier, FailsFirst}
use Rattle.bt_flow.specs.Sums.{sums_of, AllFit, IsFirstWide}
use Rattle.bt_flow.specs.Judging.{IsWideSum, JudgesSteady, JudgesBreaking, JudgesState, NeedsFit, IsBreakingAnswer, IsSteadyAnswer, IsStateAnswer}
use Rattle.bt_flow.specs.inner.Trials.{Subject, IsTestedAt, IsClear, FailsAt, IsWideAt, IsJudged}

pub clear_more : (x : Subject) (u : Test) (place : ℕ) → ((a : ℕ) → a < place → IsClear x u a) → IsClear x u place → (a : ℕ) → a < place + 1 → IsClear x u a
clear_more x u place h k a l =
    elim (cases_eq a place) [ inl e ↦ subst (IsClear x u) (sym e) k | inr o ↦ h a (omega (arith, l, o)) ]

pub clear_here : (x : Subject) (u : Test) (place : ℕ) (b : Bool) → b ≡ true → IsTestedAt x u place (Ok b) → IsClear x u place
clear_here x u place b e h = record { passes = λ s g. (h.0 s g).0 e; fit = h.1 }

pub fails_here : (x : Subject) (u : Test) (place : ℕ) (b : Bool) → b ≡ false → place < places x.network u → IsTestedAt x u place (Ok b)
    → ((a : ℕ) → a < place → IsClear x u a) → FailsAt x u place
fails_here x u place b e l h before =
    record { place = l; fails = λ s g q. false≢true (sym e ∙ (h.0 s g).1 q); fit = h.1; earlier = before }

pub wide_here : (x : Subject) (u : Test) (place : ℕ) (w : WideSum) → place < places x.network u → ((a : ℕ) → a < place → IsClear x u a) → IsTestedAt x u place (Err w)
    → IsWideAt x u w
wide_here x u place w l before h =
    record {
      test = h.0;
      place = subst (λ a. a < places x.network u) (sym h.1) l;
      earlier = λ b m. before b (subst (λ a. b < a) h.1 m);
      first_wide = subst (λ a. IsFirstWide w.left w.right (sums_of x.network x.property x.state u a)) (sym h.1) h.2;
    }

test_at : ℕ → Test
test_at zero = test.Load
test_at (suc zero) = test.Room
test_at (suc (suc zero)) = test.Range
test_at (suc (suc (suc zero))) = test.Conserve
test_at (suc (suc (suc (suc zero)))) = test.EvenOut
test_at (suc (suc (suc (suc (suc zero))))) = test.EvenIn
test_at (suc (suc (suc (suc (suc (suc zero)))))) = test.PriorOut
test_at (suc (suc (suc (suc (suc (suc (suc zero))))))) = test.PriorIn
test_at (suc (suc (suc (suc (suc (suc (suc (suc zero)))))))) = test.Backing
test_at (suc (suc (suc (suc (suc (suc (suc (suc (suc zero))))))))) = test.Input
test_at (suc (suc (suc (suc (suc (suc (suc (suc (suc (suc zero)))))))))) = test.Output
test_at (suc (suc (suc (suc (suc (suc (suc (suc (suc (suc (suc n))))))))))) = test.Conclusion

at_order : (u : Test) → test_at (order_of u) ≡ u
unfolding test_at
at_order test.Load = refl
at_order test.Room = refl
at_order test.Range = refl
at_order test.Conserve = refl
at_order test.EvenOut = refl
at_order test.EvenIn = refl
at_order test.PriorOut = refl
at_order test.PriorIn = refl
at_order test.Backing = refl
at_order test.Input = refl
at_order test.Output = refl
at_order test.Conclusion = refl

-- all tests, in their order
abbrev pub all_tests : List Test
all_tests = test.Load ∷ test.Room ∷ test.Range ∷ test.Conserve ∷ test.EvenOut ∷ test.EvenIn ∷ test.PriorOut ∷ test.PriorIn ∷ test.Backing ∷ test.Input ∷ test.Output ∷ test.Conclusion ∷ []

pub order_at : (i : ℕ) (d : Test) → i < 12 → order_of (get_or all_tests i d) ≡ i
order_at zero d h = refl
order_at (suc zero) d h = refl
order_at (suc (suc zero)) d h = refl
order_at (suc (suc (suc zero))) d h = refl
order_at (suc (suc (suc (suc zero)))) d h = refl
order_at (suc (suc (suc (suc (suc zero))))) d h = refl
order_at (suc (suc (suc (suc (suc (suc zero)))))) d h = refl
order_at (suc (suc (suc (suc (suc (suc (suc zero))))))) d h = refl
order_at (suc (suc (suc (suc (suc (suc (suc (suc zero)))))))) d h = refl
order_at (suc (suc (suc (suc (suc (suc (suc (suc (suc zero))))))))) d h = refl
order_at (suc (suc (suc (suc (suc (suc (suc (suc (suc (suc zero)))))))))) d h = refl
order_at (suc (suc (suc (suc (suc (suc (suc (suc (suc (suc (suc zero))))))))))) d h = refl
order_at (suc (suc (suc (suc (suc (suc (suc (suc (suc (suc (suc (suc n)))))))))))) d h = absurd (omega arith)

-- tests are told apart by their places in the order
pub same_order : (u v : Test) → order_of u ≡ order_of v → u ≡ v
same_order u v e = sym (at_order u) ∙ ap test_at e ∙ at_order v

-- the tests before a place of the order are clear
abbrev pub ClearFrom : Subject → ℕ → ℕ → Type 0
ClearFrom x first next = (u : Test) (b : ℕ) → first ≤ order_of u → order_of u < next → b < places x.network u → IsClear x u b

pub clear_test : (x : Subject) (first next : ℕ) (v : Test) → order_of v ≡ next → ClearFrom x first next → ((a : ℕ) → a < places x.network v → IsClear x v a)
    → ClearFrom x first (next + 1)
clear_test x first next v e h k u b low high l =
    elim (cases_lt (order_of u) next) [
      | inl m ↦ h u b low m l
      | inr m ↦
          let same : u ≡ v = same_order u v (let q : order_of u ≡ order_of v = omega (arith, e, high, m) in q) in
          subst (λ y. IsClear x y b) (sym same) (k b (subst (λ y. b < places x.network y) same l))
    ]

pub judged_failed : (x : Subject) (first last next : ℕ) (v : Test) (a : ℕ) → order_of v ≡ next → first ≤ next → next ≤ last → ClearFrom x first next → FailsAt x v a
    → IsJudged x first last (Ok (Fails v a))
judged_failed x first last next v a e low l h k = (
  (omega (arith, e, low), omega (arith, e, l)),
  k,
  λ u b m q o. h u b m.0 (let y : order_of u < next = omega (arith, e, o) in y) q,
)

pub judged_passed : (x : Subject) (first last next : ℕ) → last < next → ClearFrom x first next → IsJudged x first last (Ok Passes)
judged_passed x first last next l h = λ u b m q. h u b m.0 (let z : order_of u < next = let y = m.1 in omega (arith, l, y) in z) q

-- whole numbers for which a state stands
abbrev Some : Subject → Type 0
Some x = (s : Flows) × StandsFor x.network x.state s

pub judged_wide : (x : Subject) (first last next : ℕ) (v : Test) (w : WideSum) → Some x → order_of v ≡ next → first ≤ next → next ≤ last → ClearFrom x first next
    → IsWideAt x v w → IsJudged x first last (Err w)
judged_wide x first last next v w some e low l h k =
    let o : order_of w.test ≡ next = ap order_of k.test ∙ e in
    let clear : (u : Test) (b : ℕ) → IsAmong first last u → b < places x.network u → IsEarlier u b w.test w.place → IsClear x u b =
    λ u b m q z. elim z [
      | inl y ↦ h u b m.0 (let z : order_of u < next = omega (arith, o, y) in z) q
      | inr y ↦
          let same : u ≡ v = same_order u w.test y.0 ∙ k.test in
          subst (λ y. IsClear x y b) (sym same) (k.earlier b y.1)
    ] in
    record {
      among = (omega (arith, o, low), omega (arith, o, l));
      place = subst (λ u. w.place < places x.network u) (sym k.test) k.place;
      earlier = record { some = some; each = λ s g u b m q z. (clear u b m q z).passes s g };
      earlier_fit = λ u b m q z. (clear u b m q z).fit;
      first_wide = subst (λ u. IsFirstWide w.left w.right (sums_of x.network x.property x.state u w.place)) (sym k.test) k.first_wide;
    }

-- what a judgement says of each state
first_fails : (x : Subject) (s : Flows) (first last : ℕ) (v : Test) (a : ℕ) → StandsFor x.network x.state s → IsJudged x first last (Ok (Fails v a))
    → FailsFirst x.network x.property s first last v a
first_fails x s first last v a g h =
    record {
      among = h.0;
      place = h.1.place;
      fails = h.1.fails s g;
      earlier = λ u b m q z. elim z [
        | inl y ↦ (h.2 u b m q y).passes s g
        | inr y ↦
            let same : u ≡ v = same_order u v y.0 in
            subst (λ z. PassesAt x.network x.property s z b) (sym same) ((h.1.earlier b y.1).passes s g)
      ];
    }

needs_fit : (x : Subject) (first last : ℕ) (j : Judgement) → IsJudged x first last (Ok j) → NeedsFit x.network x.property x.state first last j
needs_fit x first last Passes h = λ u b m q z. (h u b m q).fit
needs_fit x first last (Fails v a) h = λ u b m q z. elim z [
  | inl y ↦ elim y [
    | inl z ↦ (h.2 u b m q z).fit
    | inr z ↦
        let same : u ≡ v = same_order u v z.0 in
        subst (λ y. AllFit (sums_of x.network x.property x.state y b)) (sym same) (h.1.earlier b z.1).fit
  ]
  | inr y ↦ subst (λ z. AllFit (sums_of x.network x.property x.state z b)) (sym y.0) (subst (λ c. AllFit (sums_of x.network x.property x.state v c)) (sym y.1) h.1.fit)
]

steady_from : (n : Network) (p : Property) (s : Flows) → ((u : Test) (b : ℕ) → 2 ≤ order_of u → order_of u ≤ 10 → b < places n u → PassesAt n p s u b) → IsSteady n s
steady_from n p s f =
    record {
      range = λ a l. f test.Range a (lit≤ tt) (lit≤ tt) l;
      conserve = λ a l. f test.Conserve a (lit≤ tt) (lit≤ tt) l;
      even_out = λ a l. f test.EvenOut a (lit≤ tt) (lit≤ tt) l;
      even_in = λ a l. f test.EvenIn a (lit≤ tt) (lit≤ tt) l;
      prior_out = λ a l. f test.PriorOut a (lit≤ tt) (lit≤ tt) l;
      prior_in = λ a l. f test.PriorIn a (lit≤ tt) (lit≤ tt) l;
      backing = λ a l. f test.Backing a (lit≤ tt) (lit≤ tt) l;
      input = λ a l. f test.Input a (lit≤ tt) (lit≤ tt) l;
      output = λ a l. f test.Output a (lit≤ tt) (lit≤ tt) l;
    }

passed_breaks : (x : Subject) (s : Flows) → StandsFor x.network x.state s → IsJudged x 0 11 (Ok Passes) → Breaks x.network x.property s
passed_breaks x s g h =
    let passes : (u : Test) (b : ℕ) → order_of u ≤ 11 → b < places x.network u → PassesAt x.network x.property s u b = λ u b l q. (h u b (omega arith, l) q).passes s g in
    record {
      state = g.is_state;
      admissible = record { loads = λ i l. (passes test.Load i (lit≤ tt) l).0; rooms = λ i l. (passes test.Room i (lit≤ tt) l).0 };
      meets = record { loads = λ a i l. (passes test.Load i (lit≤ tt) l).1 a; rooms = λ a i l. (passes test.Room i (lit≤ tt) l).1 a };
      steady = steady_from x.network x.property s (λ u b low high q. passes u b (omega (arith, high)) q);
      fails = passes test.Conclusion 0 (lit≤ tt) (lit< tt);
    }

passed_steady : (x : Subject) (s : Flows) → StandsFor x.network x.state s → IsJudged x 2 10 (Ok Passes) → IsSteady x.network s
passed_steady x s g h = steady_from x.network x.property s (λ u b low high q. (h u b (low, high) q).passes s g)

judges_breaking : (x : Subject) (j : Judgement) → IsJudged x 0 11 (Ok j) → (s : Flows) → StandsFor x.network x.state s → JudgesBreaking x.network x.property j s
judges_breaking x Passes h s g = passed_breaks x s g h
judges_breaking x (Fails v a) h s g = first_fails x s 0 11 v a g h

-- a law speaks of no property
law_alone : (n : Network) (p q : Property) (s : Flows) (u : Test) (b : ℕ) → 2 ≤ order_of u → order_of u ≤ 10 → PassesAt n p s u b → PassesAt n q s u b
law_alone n p q s test.Load b low high h = absurd (omega (arith, low))
law_alone n p q s test.Room b low high h = absurd (omega (arith, low))
law_alone n p q s test.Range b low high h = h
law_alone n p q s test.Conserve b low high h = h
law_alone n p q s test.EvenOut b low high h = h
law_alone n p q s test.EvenIn b low high h = h
law_alone n p q s test.PriorOut b low high h = h
law_alone n p q s test.PriorIn b low high h = h
law_alone n p q s test.Backing b low high h = h
law_alone n p q s test.Input b low high h = h
law_alone n p q s test.Output b low high h = h
law_alone n p q s test.Conclusion b low high h = absurd (omega (arith, high))

sums_alone : (n : Network) (p q : Property) (t : Fractions) (u : Test) (b : ℕ) → 2 ≤ order_of u → order_of u ≤ 10 → sums_of n p t u b ≡ sums_of n q t u b
sums_alone n p q t test.Load b low high = refl
sums_alone n p q t test.Room b low high = refl
sums_alone n p q t test.Range b low high = refl
sums_alone n p q t test.Conserve b low high = refl
sums_alone n p q t test.EvenOut b low high = refl
sums_alone n p q t test.EvenIn b low high = refl
sums_alone n p q t test.PriorOut b low high = refl
sums_alone n p q t test.PriorIn b low high = refl
sums_alone n p q t test.Backing b low high = refl
sums_alone n p q t test.Input b low high = refl
sums_alone n p q t test.Output b low high = refl
sums_alone n p q t test.Conclusion b low high = absurd (omega (arith, high))

fails_alone : (n : Network) (p q : Property) (s : Flows) (v : Test) (a : ℕ) → FailsFirst n p s 2 10 v a → FailsFirst n q s 2 10 v a
fails_alone n p q s v a h =
    record {
      among = h.among;
      place = h.place;
      fails = λ x. h.fails (law_alone n q p s v a h.among.0 h.among.1 x);
      earlier = λ u b m l x. law_alone n p q s u b m.0 m.1 (h.earlier u b m l x);
    }

judges_steady : (x : Subject) (j : Judgement) → IsJudged x 2 10 (Ok j) → (s : Flows) → StandsFor x.network x.state s → JudgesSteady x.network j s
judges_steady x Passes h s g = passed_steady x s g h
judges_steady x (Fails v a) h s g = λ q. fails_alone x.network x.property q s v a (first_fails x s 2 10 v a g h)

fit_alone : (n : Network) (p q : Property) (t : Fractions) (j : Judgement) → NeedsFit n p t 2 10 j → NeedsFit n q t 2 10 j
fit_alone n p q t j h = λ u b m l x. subst AllFit (sums_alone n p q t u b m.0 m.1) (h u b m l x)

wide_alone : (n : Network) (p q : Property) (t : Fractions) (w : WideSum) → IsWideSum n p t 2 10 w → IsWideSum n q t 2 10 w
wide_alone n p q t w h =
    record {
      among = h.among;
      place = h.place;
      earlier = record { some = h.earlier.some; each = λ s g u b m l x. law_alone n p q s u b m.0 m.1 (h.earlier.each s g u b m l x) };
      earlier_fit = λ u b m l x. subst AllFit (sums_alone n p q t u b m.0 m.1) (h.earlier_fit u b m l x);
      first_wide = subst (IsFirstWide w.left w.right) (sums_alone n p q t w.test w.place h.among.0 h.among.1) h.first_wide;
    }

-- a judgement of all tests is a right answer of `breaks`
pub breaking_answer : (n : Network) (p : Property) (t : Fractions) (r : Result Judgement WideSum) → (s : Flows) × StandsFor n t s
    → IsJudged (record { network = n; property = p; state = t }) 0 11 r → IsBreakingAnswer n p t r
breaking_answer n p t (Ok j) some h = (record { some = some; each = judges_breaking _ j h }, needs_fit _ 0 11 j h)
breaking_answer n p t (Err w) some h = h

-- a judgement of the laws, for whatever property, is a right answer of `steady`
pub steady_answer : (n : Network) (p : Property) (t : Fractions) (r : Result Judgement WideSum) → (s : Flows) × StandsFor n t s
    → IsJudged (record { network = n; property = p; state = t }) 2 10 r → IsSteadyAnswer n t r
steady_answer n p t (Ok j) some h = (record { some = some; each = judges_steady _ j h }, λ q. fit_alone n p q t j (needs_fit _ 2 10 j h))
steady_answer n p t (Err w) some h = λ q. wide_alone n p q t w h

-- a judgement of loads, rooms and the laws is a right answer of `admissible_steady`
passed_state : (n : Network) (t : Fractions) (s : Flows) → StandsFor n t s → IsJudged (record { network = n; property = Unlimited; state = t }) 0 10 (Ok Passes) → IsAdmissible n s × IsSteady n s
passed_state n t s g h =
    let passes : (u : Test) (b : ℕ) → order_of u ≤ 10 → b < places n u → PassesAt n Unlimited s u b = λ u b l q. (h u b (omega arith, l) q).passes s g in (
      record { loads = λ i l. (passes test.Load i (lit≤ tt) l).0; rooms = λ i l. (passes test.Room i (lit≤ tt) l).0 },
      steady_from n Unlimited s (λ u b low high q. passes u b high q),
    )

judges_state : (n : Network) (t : Fractions) (j : Judgement) → IsJudged (record { network = n; property = Unlimited; state = t }) 0 10 (Ok j) → (s : Flows) → StandsFor n t s → JudgesState n j s
judges_state n t Passes h s g = passed_state n t s g h
judges_state n t (Fails v a) h s g = first_fails _ s 0 10 v a g h

pub state_answer : (n : Network) (t : Fractions) (r : Result Judgement WideSum) → (s : Flows) × StandsFor n t s
    → IsJudged (record { network = n; property = Unlimited; state = t }) 0 10 r → IsStateAnswer n t r
state_answer n t (Ok j) some h = (record { some = some; each = judges_state n t j h }, needs_fit _ 0 10 j h)
state_answer n t (Err w) some h = h
