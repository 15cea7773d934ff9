-- The tests of a state in their order, and the first that fails.
use Rattle.std.specs.Prelude.{◌≡◌, ℕ, ◌<◌, ◌≤◌, IsTrue, length, ◌⊎◌}
use Rattle.bt_net.specs.Network.{Network}
use Rattle.bt_flow.specs.declared.property.Property.{Property}
use Rattle.bt_flow.specs.declared.judgement.Test.{Test}
use Rattle.bt_flow.specs.declared.judgement.Test.TheVariants as test
use Rattle.bt_flow.specs.States.{Flows}
use Rattle.bt_flow.specs.Steady.{KeepsRange, Conserves, EvensOut, EvensIn, GivesFirst, TakesFirst, Backs, FeedsInput, FillsOutput}
use Rattle.bt_flow.specs.Properties.{AdmitsLoad, AdmitsRoom, IsLoaded, IsOpen, asks_loads, asks_rooms, Concludes}

-- the place of a test in the order of tests
abbrev pub order_of : Test → ℕ
order_of test.Load = 0
order_of test.Room = 1
order_of test.Range = 2
order_of test.Conserve = 3
order_of test.EvenOut = 4
order_of test.EvenIn = 5
order_of test.PriorOut = 6
order_of test.PriorIn = 7
order_of test.Backing = 8
order_of test.Input = 9
order_of test.Output = 10
order_of test.Conclusion = 11

-- how many places a test has: inputs, outputs, edges, splitters, or one
abbrev pub places : Network → Test → ℕ
places n test.Load = n.inputs
places n test.Room = n.outputs
places n test.Range = length n.edges
places n test.Conserve = n.splitters
places n test.EvenOut = length n.edges
places n test.EvenIn = length n.edges
places n test.PriorOut = length n.edges
places n test.PriorIn = length n.edges
places n test.Backing = length n.edges
places n test.Input = n.inputs
places n test.Output = n.outputs
places n test.Conclusion = 1

-- the state passes the test at the place: the last one where the conclusion of the property is false
abbrev pub PassesAt : Network → Property → Flows → Test → ℕ → Type 0
PassesAt n p s test.Load i = AdmitsLoad n s i × (IsTrue (asks_loads p) → IsLoaded n s i)
PassesAt n p s test.Room o = AdmitsRoom n s o × (IsTrue (asks_rooms p) → IsOpen n s o)
PassesAt n p s test.Range a = KeepsRange n s a
PassesAt n p s test.Conserve k = Conserves n s k
PassesAt n p s test.EvenOut a = EvensOut n s a
PassesAt n p s test.EvenIn a = EvensIn n s a
PassesAt n p s test.PriorOut a = GivesFirst n s a
PassesAt n p s test.PriorIn a = TakesFirst n s a
PassesAt n p s test.Backing a = Backs n s a
PassesAt n p s test.Input i = FeedsInput n s i
PassesAt n p s test.Output o = FillsOutput n s o
PassesAt n p s test.Conclusion a = Concludes p n s → ⊥

-- one test at a place comes before another at a place
abbrev pub IsEarlier : Test → ℕ → Test → ℕ → Type 0
IsEarlier t a u b = (order_of t < order_of u) ⊎ ((order_of t ≡ order_of u) × (a < b))

-- the test is among those from the place `first` to the place `last` of the order
abbrev pub IsAmong : ℕ → ℕ → Test → Type 0
IsAmong first last t = (first ≤ order_of t) × (order_of t ≤ last)

-- of the tests from the place `first` to the place `last` of the order, each that comes before a test at
-- a place passes
abbrev pub PassesUpTo : Network → Property → Flows → ℕ → ℕ → Test → ℕ → Type 0
PassesUpTo n p s first last t a = (u : Test) (b : ℕ) → IsAmong first last u → b < places n u → IsEarlier u b t a → PassesAt n p s u b

-- of the tests from the place `first` to the place `last` of the order, this is the first that fails, and
-- this is its least place
pub record FailsFirst (n : Network) (p : Property) (s : Flows) (first last : ℕ) (t : Test) (a : ℕ) : Type 0 where
  pub among : IsAmong first last t
  pub place : a < places n t
  pub fails : PassesAt n p s t a → ⊥
  pub earlier : PassesUpTo n p s first last t a
