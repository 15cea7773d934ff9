-- The edges at the ends of a network, and the columns of flows, loads and rooms.
use Rattle.std.specs.List.{range_with_len}
use Rattle.std.specs.Prelude.{ℕ, ◌+◌, List, length, map, slice_index_or}
use Rattle.bt_net.specs.Network.{Network, is_input, is_output}
use Rattle.bt_flow.specs.Ports.{numbers_where}

-- the number of the edge of an input
abbrev pub input_edge : Network → ℕ → ℕ
input_edge n i = slice_index_or (numbers_where (is_input i) 0 n.edges) 0 0

-- the number of the edge of an output
abbrev pub output_edge : Network → ℕ → ℕ
output_edge n o = slice_index_or (numbers_where (is_output o) 0 n.edges) 0 0

-- the edges of the inputs, in the order of inputs
abbrev pub input_edges : Network → List ℕ
input_edges n = map (input_edge n) (range_with_len 0 n.inputs)

-- the edges of the outputs, in the order of outputs
abbrev pub output_edges : Network → List ℕ
output_edges n = map (output_edge n) (range_with_len 0 n.outputs)

-- the cap of the edge with this number
abbrev pub cap_at : Network → ℕ → ℕ
cap_at n a = slice_index_or (map (λ e. e.cap) n.edges) a 0

-- the column of an input's load; that of an edge's flow is the edge's number
abbrev pub load_column : Network → ℕ → ℕ
load_column n i = length n.edges + i

-- the column of an output's room
abbrev pub room_column : Network → ℕ → ℕ
room_column n o = length n.edges + n.inputs + o
