-- What the tests of a state say, one test at one place after another.
use Rattle.std.specs.Prelude.{Result, Ok, Err, Option, None, Some, List, Bool, ◌≡◌, ℕ, ◌<◌}
use Rattle.bt_frac.specs.Ratio.{Ratio}
use Rattle.bt_net.specs.Network.{Network}
use Rattle.bt_flow.specs.declared.property.Property.{Property}
use Rattle.bt_flow.specs.declared.judgement.Test.{Test}
use Rattle.bt_flow.specs.declared.judgement.Judgement.{Judgement}
use Rattle.bt_flow.specs.declared.judgement.Judgement.TheVariants.{Passes, Fails}
use Rattle.bt_flow.specs.declared.judgement.WideSum.{WideSum}
use Rattle.bt_flow.specs.declared.ports.Ports.{Ports}
use Rattle.bt_flow.specs.declared.sums.Wide.{Wide}
use Rattle.bt_flow.specs.States.{Flows, Fractions, AreLowest, StandsFor, Fits}
use Rattle.bt_flow.specs.Tests.{order_of, places, PassesAt, IsAmong}
use Rattle.bt_flow.specs.Sums.{sums_of, AllFit, IsFirstWide}
use Rattle.bt_flow.specs.Judging.{IsWideSum}
use Rattle.bt_flow.specs.Ports.{ArePorts}
use Rattle.bt_flow.specs.inner.AtPorts.{Tells, TellsBySums}

-- what a trial is of: a state of a network, for a property
pub record Subject : Type 0 where
  pub network : Network
  pub property : Property
  pub state : Fractions

-- the ports are those of the network, the state fits it and is in lowest terms, and these are its flows
pub record IsReady (n : Network) (these : Ports) (t : Fractions) (flows : List Ratio) : Type 0 where
  pub ports : ArePorts n these
  pub fits : Fits n t
  pub lowest : AreLowest t
  pub flows_are : flows ≡ t.flows

-- this is whether the state passes the test at the place
abbrev pub Decides : Subject → Test → ℕ → Bool → Type 0
Decides x u a result = Tells x.network x.state (λ s. PassesAt x.network x.property s u a) result

-- the same, where no sum of the test leaves 128 bits; or the two numbers at which one first does
abbrev pub IsTested : Subject → Test → ℕ → Result Bool Wide → Type 0
IsTested x u a result =
    TellsBySums x.network x.state (λ s. PassesAt x.network x.property s u a) (sums_of x.network x.property x.state u a) result

-- the same of a test and a place that a wide sum names
abbrev pub IsTestedAt : Subject → Test → ℕ → Result Bool WideSum → Type 0
IsTestedAt x u a (Ok b) = IsTested x u a (Ok b)
IsTestedAt x u a (Err w) = (w.test ≡ u) × (w.place ≡ a) × IsTested x u a (Err (record { left = w.left; right = w.right }))

-- a test at a place passes in every state that the fractions stand for, and forms no sum that leaves 128 bits
pub record IsClear (x : Subject) (u : Test) (a : ℕ) : Type 0 where
  pub passes : (s : Flows) → StandsFor x.network x.state s → PassesAt x.network x.property s u a
  pub fit : AllFit (sums_of x.network x.property x.state u a)

-- of the places of a test this is the first at which it fails
pub record FailsAt (x : Subject) (u : Test) (a : ℕ) : Type 0 where
  pub place : a < places x.network u
  pub fails : (s : Flows) → StandsFor x.network x.state s → PassesAt x.network x.property s u a → ⊥
  pub fit : AllFit (sums_of x.network x.property x.state u a)
  pub earlier : (b : ℕ) → b < a → IsClear x u b

-- of the places of a test this is the first at which its sums leave 128 bits, and none before fails
pub record IsWideAt (x : Subject) (u : Test) (w : WideSum) : Type 0 where
  pub test : w.test ≡ u
  pub place : w.place < places x.network u
  pub earlier : (b : ℕ) → b < w.place → IsClear x u b
  pub first_wide : IsFirstWide w.left w.right (sums_of x.network x.property x.state u w.place)

-- of the places of a test none fails, or this is the first; or the first whose sums leave 128 bits
abbrev pub IsSearched : Subject → Test → Result (Option ℕ) WideSum → Type 0
IsSearched x u (Ok None) = (a : ℕ) → a < places x.network u → IsClear x u a
IsSearched x u (Ok (Some a)) = FailsAt x u a
IsSearched x u (Err w) = IsWideAt x u w

-- a judgement of the tests from the place `first` to the place `last` of the order: it passes where all are
-- clear, or it names the first that fails, and the tests before it are clear; or a wide sum
abbrev pub IsJudged : Subject → ℕ → ℕ → Result Judgement WideSum → Type 0
IsJudged x first last (Ok Passes) = (u : Test) (b : ℕ) → IsAmong first last u → b < places x.network u → IsClear x u b
IsJudged x first last (Ok (Fails v a)) = IsAmong first last v × FailsAt x v a
    × ((u : Test) (b : ℕ) → IsAmong first last u → b < places x.network u → order_of u < order_of v → IsClear x u b)
IsJudged x first last (Err w) = IsWideSum x.network x.property x.state first last w
