-- Networks while their edges are read.
use Rattle.std.specs.Prelude.{ℕ, ◌<◌, ◌≤◌, [], ◌∷◌, ◌++◌, count_by, All}
use Rattle.bt_net.specs.declared.network.Edge.{Edge}
use Rattle.bt_net.specs.declared.network.TheConstants.{MOST_OF_EACH}
use Rattle.bt_net.specs.Network.{Network, HasNoPriorities, StartsIn, EndsIn, IsCap, is_input, is_output, leaves, enters}

-- edges that may stand so far: they join what the network has and have caps from 1 to `MOST_CAP`, no
-- input and no output has a second edge, and no splitter a third in edge or a third out edge
pub record IsPartlyWired (n : Network) : Type 0 where
  pub starts : All (λ e. StartsIn n e.start) n.edges
  pub targets : All (λ e. EndsIn n e.target) n.edges
  pub caps : All (λ e. IsCap e.cap) n.edges
  pub one_in : (i : ℕ) → i < n.inputs → count_by (is_input i) n.edges ≤ 1
  pub one_out : (o : ℕ) → o < n.outputs → count_by (is_output o) n.edges ≤ 1
  pub few_in : (s : ℕ) → s < n.splitters → count_by (enters s) n.edges ≤ 2
  pub few_out : (s : ℕ) → s < n.splitters → count_by (leaves s) n.edges ≤ 2

-- one more edge, after the others
abbrev pub with_edge : Network → Edge → Network
with_edge n e = record n { edges = n.edges ++ e ∷ [] }

-- at most `MOST_OF_EACH` inputs, outputs and splitters, of which none prefers an edge
pub record HasSmallSizes (n : Network) : Type 0 where
  pub plain : HasNoPriorities n
  pub few_inputs : n.inputs ≤ MOST_OF_EACH
  pub few_outputs : n.outputs ≤ MOST_OF_EACH
  pub few_splitters : n.splitters ≤ MOST_OF_EACH
