-- The chain of a number of splitters.
use Rattle.std.specs.Prelude.{ℕ, ◌+◌, nat_lt, if◌then◌else◌, List, [], ◌∷◌}
use Rattle.std.specs.List.{flat_map, range_with_len}
use Rattle.bt_net.specs.declared.network.Edge.{Edge}
use Rattle.bt_net.specs.declared.network.Target.{Target}
use Rattle.bt_net.specs.declared.network.Target.TheVariants as to
use Rattle.bt_net.specs.Network.{Network, network_of}
use Rattle.bt_gen.specs.Edges.{from_input, from_splitter}

-- where a splitter's second edge goes: to the next splitter, or from the last one to the last output
abbrev pub goes_on_to : ℕ → ℕ → Target
goes_on_to splitters place = if nat_lt (place + 1) splitters then to.Split (place + 1) else to.Output splitters

-- a splitter goes first to the output of its number, and then on
abbrev pub link_edges : ℕ → ℕ → List Edge
link_edges splitters place = from_splitter place (to.Output place) ∷ from_splitter place (goes_on_to splitters place) ∷ []

-- all edges, in the order of their sources: the input goes to splitter 0
abbrev pub chain_edges : ℕ → List Edge
chain_edges splitters = from_input 0 (to.Split 0) ∷ flat_map (link_edges splitters) (range_with_len 0 splitters)

-- the chain of so many splitters
abbrev pub chain_net : ℕ → Network
chain_net splitters = network_of 1 (splitters + 1) splitters (chain_edges splitters)
