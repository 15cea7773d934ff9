-- The edges at one end of a network, and the four parts that an edge plays at its two ends.
use Rattle.std.specs.Prelude.{◌≡◌, ℕ, ◌+◌, ◌<◌, Bool, List, [], ◌∷◌, length, map, slice_index_or, if◌then◌else◌}
use Rattle.bt_frac.specs.Ratio.{Ratio}
use Rattle.bt_net.specs.declared.network.TheConstants.{MOST_OF_EACH}
use Rattle.bt_net.specs.declared.network.Edge.{Edge}
use Rattle.bt_net.specs.Network.{Network, IsNetwork, is_input, is_output, leaves, enters}
use Rattle.bt_flow.specs.Sums.{nothing}
use Rattle.bt_flow.specs.declared.ports.Port.{Port}
use Rattle.bt_flow.specs.declared.ports.Port.TheVariants.{Unused, One, Two}
use Rattle.bt_flow.specs.declared.ports.Ports.{Ports}
use Rattle.bt_flow.specs.declared.ports.End.{End}
use Rattle.bt_flow.specs.declared.ports.End.TheVariants.{Input, Output}
use Rattle.bt_flow.specs.declared.ports.Role.{Role}
use Rattle.bt_flow.specs.declared.ports.Role.TheVariants.{FromInput, ToOutput, OutOf, Into}

-- the numbers of the edges
abbrev pub numbers_of : Port → List ℕ
numbers_of Unused = []
numbers_of (One a) = a ∷ []
numbers_of (Two a b) = a ∷ b ∷ []

-- the flows of the edges
abbrev pub flows_of : List Ratio → Port → List Ratio
flows_of flows port = map (λ a. slice_index_or flows a nothing) (numbers_of port)

-- the edge is that of this input or output, or leaves or enters this splitter
abbrev pub plays : Role → ℕ → Edge → Bool
plays FromInput k = is_input k
plays ToOutput k = is_output k
plays OutOf k = leaves k
plays Into k = enters k

-- what the edges of ends are there
abbrev pub role_of : End → Role
role_of Input = FromInput
role_of Output = ToOutput

-- the numbers of the edges that pass a test, where the first has this number
abbrev pub numbers_where : (Edge → Bool) → ℕ → List Edge → List ℕ
numbers_where p n [] = []
numbers_where p n (e ∷ edges) = if p e then n ∷ numbers_where p (n + 1) edges else numbers_where p (n + 1) edges

-- these are the edges of the network with a role at a number
abbrev pub IsPort : Network → Role → ℕ → Port → Type 0
IsPort n r k port = numbers_of port ≡ numbers_where (plays r k) 0 n.edges

-- a list of `MOST_OF_EACH` ports: at each number the edges of the network with this role there
pub record AreAt (n : Network) (r : Role) (ports : List Port) : Type 0 where
  pub long : length ports ≡ MOST_OF_EACH
  pub at : (k : ℕ) → k < MOST_OF_EACH → (d : Port) → IsPort n r k (slice_index_or ports k d)

-- the ports of the network, which is one
pub record ArePorts (n : Network) (ports : Ports) : Type 0 where
  pub network : IsNetwork n
  pub inputs : AreAt n FromInput ports.inputs
  pub outputs : AreAt n ToOutput ports.outputs
  pub out_of : AreAt n OutOf ports.out_of
  pub into : AreAt n Into ports.into
