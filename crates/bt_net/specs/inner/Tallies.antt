-- How many edges there are at each end, while they are read.
use Rattle.std.specs.Prelude.{◌≡◌, ℕ, ◌<◌, Bool, List, [], ◌∷◌, ◌++◌, length, slice_index, count_by}
use Rattle.bt_net.specs.declared.network.Edge.{Edge}
use Rattle.bt_net.specs.declared.network.Start.{Start}
use Rattle.bt_net.specs.declared.network.Start.TheVariants as from
use Rattle.bt_net.specs.declared.network.Target.{Target}
use Rattle.bt_net.specs.declared.network.Target.TheVariants as to
use Rattle.bt_net.specs.Network.{Network, is_input, is_output, leaves, enters, network_of}
use Rattle.bt_net.specs.Wiring.{IsPartlyWired}

-- the tally has for each number how many edges there are at that end
abbrev pub Tallies : (ℕ → Edge → Bool) → List Edge → List ℕ → Type 0
Tallies at edges tally = (k : ℕ) → k < length tally → slice_index tally k ≡ count_by (at k) edges

-- the network of these edges and of the ends that three tallies have
abbrev pub tallied : List ℕ → List ℕ → List ℕ → List Edge → Network
tallied inputs outputs leaving edges = network_of (length inputs) (length outputs) (length leaving) edges

-- four tallies of edges that may stand so far
pub record AreTallied (inputs outputs leaving entering : List ℕ) (edges : List Edge) : Type 0 where
  pub of_inputs : Tallies is_input edges inputs
  pub of_outputs : Tallies is_output edges outputs
  pub of_leaving : Tallies leaves edges leaving
  pub of_entering : Tallies enters edges entering
  pub splitters : length entering ≡ length leaving
  pub wired : IsPartlyWired (tallied inputs outputs leaving edges)

-- the tally has this place, with fewer than that many
abbrev pub IsBelow : List ℕ → ℕ → ℕ → Type 0
IsBelow tally place most = (place < length tally) × (slice_index tally place < most)

-- an edge may start there: at an input without an edge, or at a splitter with fewer than two out edges
abbrev pub IsFreeStart : List ℕ → List ℕ → Start → Type 0
IsFreeStart inputs leaving (from.Input i) = IsBelow inputs i 1
IsFreeStart inputs leaving (from.Split s) = IsBelow leaving s 2

-- an edge may end there: at a splitter with fewer than two in edges, or at an output without an edge
abbrev pub IsFreeTarget : List ℕ → List ℕ → Target → Type 0
IsFreeTarget entering outputs (to.Split s) = IsBelow entering s 2
IsFreeTarget entering outputs (to.Output o) = IsBelow outputs o 1

-- tallies of starts before and after one more edge with this start
pub record CountsStart (start : Start) (inputs leaving inputs_after leaving_after : List ℕ) : Type 0 where
  pub inputs_length : length inputs_after ≡ length inputs
  pub leaving_length : length leaving_after ≡ length leaving
  pub of_inputs : (edges : List Edge) (e : Edge) → e.start ≡ start → Tallies is_input edges inputs → Tallies is_input (edges ++ e ∷ []) inputs_after
  pub of_leaving : (edges : List Edge) (e : Edge) → e.start ≡ start → Tallies leaves edges leaving → Tallies leaves (edges ++ e ∷ []) leaving_after

-- tallies of targets before and after one more edge with this target
pub record CountsTarget (target : Target) (entering outputs entering_after outputs_after : List ℕ) : Type 0 where
  pub entering_length : length entering_after ≡ length entering
  pub outputs_length : length outputs_after ≡ length outputs
  pub of_entering : (edges : List Edge) (e : Edge) → e.target ≡ target → Tallies enters edges entering → Tallies enters (edges ++ e ∷ []) entering_after
  pub of_outputs : (edges : List Edge) (e : Edge) → e.target ≡ target → Tallies is_output edges outputs → Tallies is_output (edges ++ e ∷ []) outputs_after
