-- The columns of the flow formula, and rows over them.
use Rattle.std.specs.List.{range_with_len}
use Rattle.std.specs.Prelude.{ℕ, ◌+◌, nat_lt, pos, Bool, true, false, Option, List, [], ◌∷◌, ◌++◌, map, if◌then◌else◌}
use Rattle.bt_frac.specs.Ratio.{Ratio, negated}
use Rattle.bt_frac.specs.Rows.{RowParts}
use Rattle.bt_frac.specs.declared.relation.Relation.{Relation}
use Rattle.bt_frac.specs.declared.relation.Relation.TheVariants.{AtLeast, Above}
use Rattle.bt_net.specs.declared.network.Edge.{Edge}
use Rattle.bt_net.specs.Network.{Network, give_of, merges_any, take_of, leaves, enters}
use Rattle.bt_flow.specs.Ports.{numbers_where}
use Rattle.bt_flow.specs.Properties.{is_last}
use Rattle.bt_flow_formula.specs.declared.state_literal.Side.{Side}
use Rattle.bt_flow_formula.specs.declared.state_literal.Side.TheVariants.{Out, In}

-- the numbers of the edges that leave a splitter, in ascending order
abbrev pub out_edges : Network → ℕ → List ℕ
out_edges n k = numbers_where (leaves k) 0 n.edges

-- the numbers of the edges that enter a splitter, in ascending order
abbrev pub in_edges : Network → ℕ → List ℕ
in_edges n k = numbers_where (enters k) 0 n.edges

-- the edges, of which none is left where the splitter may prefer any
abbrev pub unless_any : Bool → List ℕ → List ℕ
unless_any true edges = []
unless_any false edges = edges

-- the numbers of the edges at a side of a splitter that share there as a law says, in ascending order
abbrev pub edges_at : Network → Side → ℕ → List ℕ
edges_at n Out k = out_edges n k
edges_at n In k = unless_any (merges_any n k) (in_edges n k)

-- the edge at a side of a splitter that it prefers there, where it prefers one
abbrev pub preferred_at : Network → Side → ℕ → Option ℕ
preferred_at n Out k = give_of n k
preferred_at n In k = take_of n k

-- a whole number as a fraction
abbrev pub whole : ℕ → Ratio
whole k = record { over = pos k; under = 1 }

-- a column, added
abbrev pub plus : ℕ → ℕ × Ratio
plus column = (column, whole 1)

-- a column, subtracted
abbrev pub minus : ℕ → ℕ × Ratio
minus column = (column, negated (whole 1))

-- the row of terms that are at least, above or equal to 0
abbrev pub zero_row : List (ℕ × Ratio) → Relation → RowParts
zero_row terms relation = record { terms = terms; relation = relation; bound = whole 0 }

-- a column is at least a whole number
abbrev pub at_least : ℕ → ℕ → RowParts
at_least column k = record { terms = plus column ∷ []; relation = AtLeast; bound = whole k }

-- a column is at most a whole number: its negative is at least the negative of that
abbrev pub at_most : ℕ → ℕ → RowParts
at_most column k = record { terms = minus column ∷ []; relation = AtLeast; bound = negated (whole k) }

-- a column is below a whole number: its negative is above the negative of that
abbrev pub below : ℕ → ℕ → RowParts
below column k = record { terms = minus column ∷ []; relation = Above; bound = negated (whole k) }

-- a column is above a whole number
abbrev pub beyond : ℕ → ℕ → RowParts
beyond column k = record { terms = plus column ∷ []; relation = Above; bound = whole k }

-- one column less another, the lower column first; nothing where they are one column
abbrev pub less : ℕ → ℕ → List (ℕ × Ratio)
less a b = if nat_lt a b then plus a ∷ minus b ∷ [] else (if nat_lt b a then minus b ∷ plus a ∷ [] else [])

-- a column is at least another
abbrev pub not_below : ℕ → ℕ → RowParts
not_below a b = zero_row (less a b) AtLeast

-- a column is above another
abbrev pub above : ℕ → ℕ → RowParts
above a b = zero_row (less a b) Above

-- the edge with this number, at a splitter: added where it enters it, subtracted where it leaves it, and left
-- out where it does both or neither
abbrev pub at_splitter : ℕ → ℕ → Edge → List (ℕ × Ratio)
at_splitter k a e = if enters k e then (if leaves k e then [] else plus a ∷ []) else (if leaves k e then minus a ∷ [] else [])

-- the flows into a splitter less those out of it, of edges of which the first has this number
abbrev pub in_less_out : ℕ → ℕ → List Edge → List (ℕ × Ratio)
in_less_out k a [] = []
in_less_out k a (e ∷ edges) = at_splitter k a e ++ in_less_out k (a + 1) edges

-- what so many columns from one on add up to, less the flows to outputs, is above 0
abbrev pub above_outputs : Network → ℕ → ℕ → RowParts
above_outputs n first count = zero_row (map minus (numbers_where is_last 0 n.edges) ++ map plus (range_with_len first count)) Above
