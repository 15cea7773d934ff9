-- What the judgement of a state says.
use Rattle.std.specs.Prelude.{Result, Ok, Err, ◌≡◌, ℕ, ◌<◌, ◌⊎◌, ⊤}
use Rattle.bt_net.specs.Network.{Network}
use Rattle.bt_flow.specs.declared.property.Property.{Property}
use Rattle.bt_flow.specs.declared.property.Property.TheVariants.{Unlimited}
use Rattle.bt_flow.specs.declared.judgement.TheConstants.{FIRST_LAW, LAST_LAW, LAST_TEST}
use Rattle.bt_flow.specs.declared.judgement.Test.{Test}
use Rattle.bt_flow.specs.declared.judgement.Judgement.{Judgement}
use Rattle.bt_flow.specs.declared.judgement.Judgement.TheVariants.{Passes, Fails}
use Rattle.bt_flow.specs.declared.judgement.WideSum.{WideSum}
use Rattle.bt_flow.specs.States.{Flows, Fractions, IsTrueOf}
use Rattle.bt_flow.specs.Steady.{IsSteady}
use Rattle.bt_flow.specs.Properties.{IsAdmissible, Breaks}
use Rattle.bt_flow.specs.Tests.{places, IsAmong, IsEarlier, PassesUpTo, FailsFirst}
use Rattle.bt_flow.specs.Sums.{sums_of, AllFit, IsFirstWide}

-- the judgement is that of the nine laws: they pass, and the state is steady; or this law is the first
-- that fails, at this place, whatever the property, of which no law speaks
abbrev pub JudgesSteady : Network → Judgement → Flows → Type 0
JudgesSteady n Passes s = IsSteady n s
JudgesSteady n (Fails t a) s = (p : Property) → FailsFirst n p s FIRST_LAW LAST_LAW t a

-- the judgement is that of all twelve tests: they pass, and the state breaks the property; or this test is
-- the first that fails, at this place
abbrev pub JudgesBreaking : Network → Property → Judgement → Flows → Type 0
JudgesBreaking n p Passes s = Breaks n p s
JudgesBreaking n p (Fails t a) s = FailsFirst n p s 0 LAST_TEST t a

-- the judgement needed this test at this place: all where it passes, else those up to the one that fails
abbrev pub Needs : Judgement → Test → ℕ → Type 0
Needs Passes u b = ⊤
Needs (Fails t a) u b = IsEarlier u b t a ⊎ ((u ≡ t) × (b ≡ a))

-- of the tests from the place `first` to the place `last` of the order, those that a judgement needed
-- formed no sum that leaves 128 bits
abbrev pub NeedsFit : Network → Property → Fractions → ℕ → ℕ → Judgement → Type 0
NeedsFit n p t first last j = (u : Test) (b : ℕ) → IsAmong first last u → b < places n u → Needs j u b → AllFit (sums_of n p t u b)

-- all tests before a test at a place pass and form no sum that leaves 128 bits, and this one's sums first
-- leave it at the addition of these two numbers
pub record IsWideSum (n : Network) (p : Property) (t : Fractions) (first last : ℕ) (w : WideSum) : Type 0 where
  pub among : IsAmong first last w.test
  pub place : w.place < places n w.test
  pub earlier : IsTrueOf n t (λ s. PassesUpTo n p s first last w.test w.place)
  pub earlier_fit : (u : Test) (b : ℕ) → IsAmong first last u → b < places n u → IsEarlier u b w.test w.place → AllFit (sums_of n p t u b)
  pub first_wide : IsFirstWide w.left w.right (sums_of n p t w.test w.place)

-- the right answer of `breaks`: a judgement that is true of the state and needed no sum that leaves 128
-- bits, or the first wide sum
abbrev pub IsBreakingAnswer : Network → Property → Fractions → Result Judgement WideSum → Type 0
IsBreakingAnswer n p t (Ok j) = IsTrueOf n t (JudgesBreaking n p j) × NeedsFit n p t 0 LAST_TEST j
IsBreakingAnswer n p t (Err w) = IsWideSum n p t 0 LAST_TEST w

-- the right answer of `steady`: the same for the nine laws alone, whatever the property
abbrev pub IsSteadyAnswer : Network → Fractions → Result Judgement WideSum → Type 0
IsSteadyAnswer n t (Ok j) = IsTrueOf n t (JudgesSteady n j) × ((p : Property) → NeedsFit n p t FIRST_LAW LAST_LAW j)
IsSteadyAnswer n t (Err w) = (p : Property) → IsWideSum n p t FIRST_LAW LAST_LAW w

-- the judgement is that of the tests of loads and rooms and of the nine laws: they pass, and the state is admissible
-- and steady; or this test is the first that fails, at this place. `unlimited` asks nothing of loads and rooms.
abbrev pub JudgesState : Network → Judgement → Flows → Type 0
JudgesState n Passes s = IsAdmissible n s × IsSteady n s
JudgesState n (Fails t a) s = FailsFirst n Unlimited s 0 LAST_LAW t a

-- the right answer of `admissible_steady`: the same for these tests
abbrev pub IsStateAnswer : Network → Fractions → Result Judgement WideSum → Type 0
IsStateAnswer n t (Ok j) = IsTrueOf n t (JudgesState n j) × NeedsFit n Unlimited t 0 LAST_LAW j
IsStateAnswer n t (Err w) = IsWideSum n Unlimited t 0 LAST_LAW w
