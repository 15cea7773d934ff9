-- Pairs: a row and its opposite. The order of fractions is total, so one of the two holds of all values.
use Rattle.std.specs.Prelude.{ℕ, ◌==◌, Option, Some, None, List, [], ◌∷◌, if◌then◌else◌}
use Rattle.bt_frac.specs.Rows.{RowParts}
use Rattle.bt_net.specs.Network.{Network}
use Rattle.bt_flow_formula.specs.declared.state_literal.Side.{Side}
use Rattle.bt_flow_formula.specs.declared.state_literal.Pair.{Pair}
use Rattle.bt_flow_formula.specs.declared.state_literal.Pair.TheVariants.{Even, Empty, Full, Loaded, Filled}
use Rattle.bt_flow_formula.specs.declared.state_literal.StateLiteral.{StateLiteral}
use Rattle.bt_flow_formula.specs.declared.state_literal.StateLiteral.TheVariants.{Says}
use Rattle.bt_flow.specs.EndEdges.{input_edge, output_edge, cap_at, load_column, room_column}
use Rattle.bt_flow_formula.specs.Columns.{edges_at, preferred_at, at_least, at_most, below, beyond, not_below, above}

-- the first row of a pair: a flow is at least that of another edge, the edge's cap, the load or the room, or it is at
-- most 0
abbrev pub first_row : Pair → RowParts
first_row (Even side k a b) = not_below a b
first_row (Empty side k a) = at_most a 0
first_row (Full a cap) = at_least a cap
first_row (Loaded i a column) = not_below a column
first_row (Filled o a column) = not_below a column

-- its opposite: the flow is below that, or above 0
abbrev pub opposite_row : Pair → RowParts
opposite_row (Even side k a b) = above b a
opposite_row (Empty side k a) = beyond a 0
opposite_row (Full a cap) = below a cap
opposite_row (Loaded i a column) = above column a
opposite_row (Filled o a column) = above column a

-- the first row or its opposite, each a variable of its own
abbrev pub pair_clause : Pair → List StateLiteral
pair_clause pair = Says (first_row pair) ∷ Says (opposite_row pair) ∷ []

-- of two edges at a side of a splitter each with the other
abbrev pub even_pairs : Side → ℕ → List ℕ → List Pair
even_pairs side k (a ∷ b ∷ []) = Even side k a b ∷ Even side k b a ∷ []
even_pairs side k edges = []

-- of two edges the one beside this one
abbrev pub beside : ℕ → ℕ → ℕ → ℕ
beside x a b = if x == a then b else a

-- at a side of a splitter that prefers none of two edges each with the other, and where it prefers one, the other with
-- 0
abbrev pub side_pairs : Option ℕ → Side → ℕ → List ℕ → List Pair
side_pairs None side k edges = even_pairs side k edges
side_pairs (Some x) side k (a ∷ b ∷ []) = Empty side k (beside x a b) ∷ []
side_pairs (Some x) side k edges = []

-- the pairs at a side of a splitter
abbrev pub pairs_at : Network → Side → ℕ → List Pair
pairs_at n side k = side_pairs (preferred_at n side k) side k (edges_at n side k)

-- an edge is full
abbrev pub full : Network → ℕ → Pair
full n a = Full a (cap_at n a)

-- the edge of an input has all of the load
abbrev pub loaded : Network → ℕ → Pair
loaded n i = Loaded i (input_edge n i) (load_column n i)

-- the edge of an output has all of the room
abbrev pub filled : Network → ℕ → Pair
filled n o = Filled o (output_edge n o) (room_column n o)
