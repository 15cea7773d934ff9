-- The butterfly of an order: stages of splitters, of which each has two lines.
use Rattle.std.specs.Prelude.{◌≡◌, ℕ, ◌+◌, ◌-◌, ◌*◌, ◌/◌, ◌%◌, ◌^◌, ◌⊎◌, nat_lt, if◌then◌else◌, List, [], ◌∷◌, ◌++◌, map}
use Rattle.std.specs.List.{flat_map, range_with_len}
use Rattle.bt_net.specs.declared.network.Edge.{Edge}
use Rattle.bt_net.specs.declared.network.Target.{Target}
use Rattle.bt_net.specs.declared.network.Target.TheVariants as to
use Rattle.bt_net.specs.Network.{Network, network_of}
use Rattle.bt_gen.specs.Edges.{from_input, from_splitter}

-- the number of a splitter: there are 2 ^ (order - 1) in each stage
abbrev pub number : ℕ → ℕ → ℕ → ℕ
number order stage place = stage * 2 ^ (order - 1) + place

-- the lesser line of a splitter of a stage
abbrev pub lesser_line : ℕ → ℕ → ℕ
lesser_line stage place = place / 2 ^ stage * 2 ^ (stage + 1) + place % 2 ^ stage

-- its greater line, which lies 2 ^ stage above
abbrev pub greater_line : ℕ → ℕ → ℕ
greater_line stage place = lesser_line stage place + 2 ^ stage

-- the splitter at this place of the stage has this line
abbrev pub HasLine : ℕ → ℕ → ℕ → Type 0
HasLine stage place line = (line ≡ lesser_line stage place) ⊎ (line ≡ greater_line stage place)

-- the place of the splitter of a stage that has this line
abbrev pub place_with_line : ℕ → ℕ → ℕ
place_with_line stage line = line / 2 ^ (stage + 1) * 2 ^ stage + line % 2 ^ stage

-- where a line leads behind a stage: to the splitter of the next stage that has it, or behind the last stage to this
-- output
abbrev pub leads_to : ℕ → ℕ → ℕ → ℕ → Target
leads_to order stage line output =
    if nat_lt (stage + 1) order then to.Split (number order (stage + 1) (place_with_line (stage + 1) line)) else to.Output output

-- input `line` goes to the splitter of stage 0 that has this line
abbrev pub input_edge : ℕ → Edge
input_edge line = from_input line (to.Split (place_with_line 0 line))

-- the edges of the 2 ^ order inputs
abbrev pub input_edges : ℕ → List Edge
input_edges order = map input_edge (range_with_len 0 (2 ^ order))

-- the two out edges of a splitter, lesser line first; in the last stage they go to outputs 2 * place and 2 * place + 1
abbrev pub out_edges : ℕ → ℕ → ℕ → List Edge
out_edges order stage place =
    from_splitter (number order stage place) (leads_to order stage (lesser_line stage place) (2 * place))
    ∷ from_splitter (number order stage place) (leads_to order stage (greater_line stage place) (2 * place + 1))
    ∷ []

-- the out edges of all splitters of a stage
abbrev pub stage_edges : ℕ → ℕ → List Edge
stage_edges order stage = flat_map (out_edges order stage) (range_with_len 0 (2 ^ (order - 1)))

-- all edges, in the order of their sources
abbrev pub butterfly_edges : ℕ → List Edge
butterfly_edges order = input_edges order ++ flat_map (stage_edges order) (range_with_len 0 order)

-- the butterfly of this order
abbrev pub butterfly_net : ℕ → Network
butterfly_net order = network_of (2 ^ order) (2 ^ order) (order * 2 ^ (order - 1)) (butterfly_edges order)
