-- Networks that behave the same, and pairs of states that show a difference.
use Rattle.std.specs.Prelude.{◌≡◌, ℕ, ℤ, pos, ◌*ℤ◌, IsTrue}
use Rattle.std.specs.List.{AllZip}
use Rattle.bt_net.specs.declared.network.Edge.{Edge}
use Rattle.bt_net.specs.Network.{Network, is_output}
use Rattle.bt_flow.specs.States.{Flows, flow_at}
use Rattle.bt_flow.specs.Steady.{HasEdge}
pub use Rattle.bt_flow.specs.Scaling.{IsSteadyState}

-- two networks have equal numbers of inputs and of outputs
pub record HaveEqualEnds (a b : Network) : Type 0 where
  pub inputs : a.inputs ≡ b.inputs
  pub outputs : a.outputs ≡ b.outputs

-- x over the denominator of s and y over that of t are the same number
abbrev pub AreEqual : Flows → Flows → ℤ → ℤ → Type 0
AreEqual s t x y = x *ℤ pos t.denominator ≡ y *ℤ pos s.denominator

-- two states have equal loads and equal rooms, each over its own denominator
pub record AreFedEqually (s t : Flows) : Type 0 where
  pub loads : AllZip (AreEqual s t) s.loads t.loads
  pub rooms : AllZip (AreEqual s t) s.rooms t.rooms

-- the flow of each output is equal in a state of the first network and one of the second
abbrev pub GiveEqually : Network → Network → Flows → Flows → Type 0
GiveEqually a b s t = (o x y : ℕ) (e f : Edge) → HasEdge a x e → HasEdge b y f → IsTrue (is_output o e) → IsTrue (is_output o f)
    → AreEqual s t (flow_at s x) (flow_at t y)

-- two networks behave the same: whatever steady states of equal loads and rooms they are in, the flow of each output is
-- equal.
-- Caps, loads, rooms and flows of both are in one unit, which is for the caller to see to: `same` counts in basic belts
abbrev pub AreSame : Network → Network → Type 0
AreSame a b = (s t : Flows) → IsSteadyState a s → IsSteadyState b t → AreFedEqually s t → GiveEqually a b s t

-- two states over one denominator have equal loads and equal rooms
pub record AreFedAlike (s t : Flows) : Type 0 where
  pub denominator : s.denominator ≡ t.denominator
  pub loads : s.loads ≡ t.loads
  pub rooms : s.rooms ≡ t.rooms

-- the flow of each output is equal in two states over one denominator, of the first network and of the second
abbrev pub GiveAlike : Network → Network → Flows → Flows → Type 0
GiveAlike a b s t = (o x y : ℕ) (e f : Edge) → HasEdge a x e → HasEdge b y f → IsTrue (is_output o e) → IsTrue (is_output o f)
    → flow_at s x ≡ flow_at t y

-- a pair of steady states over one denominator with equal loads and rooms in which the flow of some output differs
pub record ShowsDifference (a b : Network) (s t : Flows) : Type 0 where
  pub first : IsSteadyState a s
  pub second : IsSteadyState b t
  pub fed : AreFedAlike s t
  pub fails : GiveAlike a b s t → ⊥
