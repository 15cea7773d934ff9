-- The right answer of `differs` is one, and which it is.
use Rattle.std.proofs.Common.{◌≡◌, ℕ, ◌⊎◌, ◌↔◌, Bool, true, false, IsTrue, Result, Ok, Err, inl, inr, ap, sym, ◌∙◌, refl, subst}
use Rattle.std.proofs.lemmas.Bool.{false≢true}
use Rattle.bt_text.specs.Answers.{HasOneAnswer}
use Rattle.bt_net.specs.Network.{Network, IsNetwork}
use Rattle.bt_flow.specs.declared.judgement.Test.{Test}
use Rattle.bt_flow.specs.declared.judgement.Test.TheVariants.{Conclusion}
use Rattle.bt_flow.specs.declared.judgement.Judgement.{Judgement}
use Rattle.bt_flow.specs.declared.judgement.Judgement.TheVariants as of_state
use Rattle.bt_flow.specs.declared.judgement.WideSum.{WideSum}
use Rattle.bt_flow.specs.States.{Fractions, AreLowest, Fits}
use Rattle.bt_flow.specs.Judging.{IsStateAnswer}
use Rattle.bt_flow.proofs.OneAnswer.{one_state_answer}
use Rattle.bt_same.specs.declared.pair.Which.{Which}
use Rattle.bt_same.specs.declared.pair.Which.TheVariants.{First, Second, Kept}
use Rattle.bt_same.specs.declared.pair.PairJudgement.{PairJudgement}
use Rattle.bt_same.specs.declared.pair.PairJudgement.TheVariants.{Holds, Fails}
use Rattle.bt_same.specs.declared.pair.PairWide.{PairWide}
use Rattle.bt_same.specs.Sameness.{HaveEqualEnds, ShowsDifference}
use Rattle.bt_same.specs.Pairs.{AreAlike, IsTrueOfBoth}
use Rattle.bt_same.specs.Judging.{Passes, IsFirstWideSum, IsPairAnswer}
use Rattle.bt_same.specs.inner.Comparing.{OutputsAlike}
use Rattle.bt_same.proofs.Pairs.{some_both, fed_alike, alike_fed, give_alike, alike_give}

-- what an answer on a state is of a pair, where it isn't that it passes
lifted : Which → Result Judgement WideSum → Result PairJudgement PairWide
lifted place (Ok of_state.Passes) = Ok Holds
lifted place (Ok (of_state.Fails test at)) = Ok (Fails place test at)
lifted place (Err sum) = Err (record { place = place; sum = sum })

has_passed : Result Judgement WideSum → Bool
has_passed (Ok of_state.Passes) = true
has_passed (Ok (of_state.Fails test at)) = false
has_passed (Err sum) = false

fails_not : (test : Test) (at : ℕ) → let r : Result Judgement WideSum = Ok (of_state.Fails test at) in let q : Result Judgement WideSum = Ok of_state.Passes in r ≡ q → ⊥
unfolding has_passed
fails_not test at e = false≢true (ap has_passed e)

wide_not : (sum : WideSum) → let r : Result Judgement WideSum = Err sum in let q : Result Judgement WideSum = Ok of_state.Passes in r ≡ q → ⊥
unfolding has_passed
wide_not sum e = false≢true (ap has_passed e)

-- a state doesn't pass, and the answer tells of it
record Stops (n : Network) (t : Fractions) (place : Which) (r : Result PairJudgement PairWide) : Type 0 where
  answer : Result Judgement WideSum
  right : IsStateAnswer n t answer
  stops : answer ≡ Ok of_state.Passes → ⊥
  told : r ≡ lifted place answer

module _ (a b : Network) (x y : Fractions) where
  abbrev Shows : Result PairJudgement PairWide → Type 0
  Shows r = IsTrueOfBoth a b x y (ShowsDifference a b) × (r ≡ Ok Holds)

  abbrev Keeps : Result PairJudgement PairWide → Type 0
  Keeps r = IsTrueOfBoth a b x y (λ s t. ShowsDifference a b s t → ⊥) × (r ≡ Ok (Fails Kept Conclusion 0))

  abbrev Ends : Result PairJudgement PairWide → Type 0
  Ends r = Stops b y Second r ⊎ (Passes b y × (Shows r ⊎ Keeps r))

  abbrev Told : Result PairJudgement PairWide → Type 0
  Told r = Stops a x First r ⊎ (Passes a x × Ends r)

  failed : (place : Which) (test : Test) (at : ℕ) → IsPairAnswer a b x y (Ok (Fails place test at)) → Told (Ok (Fails place test at))
  unfolding lifted
  failed First test at h = inl (record { answer = Ok (of_state.Fails test at); right = h; stops = fails_not test at; told = refl })
  failed Second test at h = inr (h.0, inl (record { answer = Ok (of_state.Fails test at); right = h.1; stops = fails_not test at; told = refl }))
  failed Kept test at h = inr (h.0, inr (h.1, inr (h.4, ap (λ u. Ok (Fails Kept u at)) h.2 ∙ ap (λ i. Ok (Fails Kept Conclusion i)) h.3)))

  too_wide : (place : Which) (sum : WideSum) → IsPairAnswer a b x y (Err (record { place = place; sum = sum })) → Told (Err (record { place = place; sum = sum }))
  unfolding lifted
  too_wide First sum h = inl (record { answer = Err sum; right = h; stops = wide_not sum; told = refl })
  too_wide Second sum h = inr (h.0, inl (record { answer = Err sum; right = h.1; stops = wide_not sum; told = refl }))
  too_wide Kept sum h = absurd h

  told_of : (r : Result PairJudgement PairWide) → IsPairAnswer a b x y r → Told r
  told_of (Ok Holds) h = inr (h.0, inr (h.1, inl (h.2, refl)))
  told_of (Ok (Fails place test at)) h = failed place test at h
  told_of (Err wide) h = too_wide wide.place wide.sum h

  -- two answers on one state
  both_stop : (n : Network) (t : Fractions) (place : Which) (r q : Result PairJudgement PairWide) → Stops n t place r → Stops n t place q → r ≡ q
  both_stop n t place r q h k = h.told ∙ ap (lifted place) (one_state_answer n t h.answer k.answer h.right k.right) ∙ sym k.told

  never_both : (n : Network) (t : Fractions) (place : Which) (r : Result PairJudgement PairWide) → Stops n t place r → Passes n t → ⊥
  never_both n t place r h k = h.stops (one_state_answer n t h.answer (Ok of_state.Passes) h.right k)

  one_verdict : (r q : Result PairJudgement PairWide) → Shows r ⊎ Keeps r → Shows q ⊎ Keeps q → r ≡ q
  one_verdict r q (inl h) (inl k) = h.1 ∙ sym k.1
  one_verdict r q (inl h) (inr k) = let s = h.0.some in absurd (k.0.each s.0 s.1.0 s.1.1 (h.0.each s.0 s.1.0 s.1.1))
  one_verdict r q (inr h) (inl k) = let s = h.0.some in absurd (h.0.each s.0 s.1.0 s.1.1 (k.0.each s.0 s.1.0 s.1.1))
  one_verdict r q (inr h) (inr k) = h.1 ∙ sym k.1

  one_end : (r q : Result PairJudgement PairWide) → Ends r → Ends q → r ≡ q
  one_end r q (inl h) (inl k) = both_stop b y Second r q h k
  one_end r q (inl h) (inr k) = absurd (never_both b y Second r h k.0)
  one_end r q (inr h) (inl k) = absurd (never_both b y Second q k h.0)
  one_end r q (inr h) (inr k) = one_verdict r q h.1 k.1

  one_told : (r q : Result PairJudgement PairWide) → Told r → Told q → r ≡ q
  one_told r q (inl h) (inl k) = both_stop a x First r q h k
  one_told r q (inl h) (inr k) = absurd (never_both a x First r h k.0)
  one_told r q (inr h) (inl k) = absurd (never_both a x First q k h.0)
  one_told r q (inr h) (inr k) = one_end r q h.1 k.1

-- `differs` has one right answer
pub one_pair_answer : (a b : Network) (x y : Fractions) → HasOneAnswer (IsPairAnswer a b x y)
one_pair_answer a b x y r q h k = one_told a b x y r q (told_of a b x y r h) (told_of a b x y q k)

-- which it is where both states pass
pub passed_both : (a b : Network) (x y : Fractions) (v : Bool) → IsNetwork a → IsNetwork b → HaveEqualEnds a b → AreLowest x → AreLowest y → Fits a x → Fits b y → Passes a x → Passes b y
    → IsTrue v ↔ (AreAlike x y × (OutputsAlike a b x y → ⊥))
    → (IsTrue v → IsPairAnswer a b x y (Ok Holds)) × (v ≡ false → IsPairAnswer a b x y (Ok (Fails Kept Conclusion 0)))
passed_both a b x y v first second ends low_x low_y fits_x fits_y p q h =
    let some = some_both a b x y low_x low_y fits_x fits_y in (
      λ is.
          let d = h.0 is in (
            p,
            q,
            record {
              some = some;
              each = λ s t both.
                  let one = p.0.each s both.first in
                  let other = q.0.each t both.second in
                  record {
                    first = record { state = both.first.is_state; admissible = one.0; steady = one.1 };
                    second = record { state = both.second.is_state; admissible = other.0; steady = other.1 };
                    fed = fed_alike a b first second ends x y low_x low_y fits_x fits_y s t both d.0;
                    fails = λ alike. d.1 (alike_give a b first second ends x y low_x low_y fits_x fits_y s t both alike);
                  };
            },
          ),
      λ isnt. (
        p,
        q,
        refl,
        refl,
        record {
          some = some;
          each = λ s t both shows.
              false≢true (sym isnt ∙ h.1 (
                alike_fed a b first second ends x y low_x low_y fits_x fits_y s t both shows.fed,
                λ outputs. shows.fails (give_alike a b first second ends x y low_x low_y fits_x fits_y s t both outputs),
              ));
        },
      ),
    )

-- what is told of one state, by the answer that was given
pub state_is : (n : Network) (t : Fractions) (answer : Result Judgement WideSum) (found judgement : Judgement) → IsStateAnswer n t answer → answer ≡ Ok found → found ≡ judgement
    → IsStateAnswer n t (Ok judgement)
state_is n t answer found judgement right e h = subst (IsStateAnswer n t) (e ∙ ap Ok h) right

pub first_wide : (a b : Network) (x y : Fractions) (answer : Result Judgement WideSum) (wide : PairWide) → IsStateAnswer a x answer → wide.place ≡ First → answer ≡ Err wide.sum
    → IsPairAnswer a b x y (Err wide)
first_wide a b x y answer wide right e h = subst (λ w. IsFirstWideSum a b x y w wide.sum) (sym e) (subst (IsStateAnswer a x) h right)

pub second_wide : (a b : Network) (x y : Fractions) (answer : Result Judgement WideSum) (wide : PairWide) → Passes a x → IsStateAnswer b y answer → wide.place ≡ Second → answer ≡ Err wide.sum
    → IsPairAnswer a b x y (Err wide)
second_wide a b x y answer wide first right e h = subst (λ w. IsFirstWideSum a b x y w wide.sum) (sym e) (first, subst (IsStateAnswer b y) h right)
