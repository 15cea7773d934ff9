-- The clauses that say that a state is admissible and steady, family by family.
use Rattle.std.specs.List.{range_with_len}
use Rattle.std.specs.Prelude.{ℕ, nat_lt, Option, Some, None, Bool, true, false, List, [], ◌∷◌, ◌++◌, length, map, flat_map, if◌then◌else◌}
use Rattle.bt_frac.specs.declared.relation.Relation.TheVariants.{Equal}
use Rattle.bt_net.specs.Network.{Network}
use Rattle.bt_flow_formula.specs.declared.state_literal.Side.{Side}
use Rattle.bt_flow_formula.specs.declared.state_literal.Side.TheVariants.{Out, In}
use Rattle.bt_flow_formula.specs.declared.state_literal.Pair.{Pair}
use Rattle.bt_flow_formula.specs.declared.state_literal.Pair.TheVariants.{Even, Empty}
use Rattle.bt_flow_formula.specs.declared.state_literal.StateLiteral.{StateLiteral}
use Rattle.bt_flow_formula.specs.declared.state_literal.StateLiteral.TheVariants.{Mark, Says, First}
use Rattle.bt_flow_formula.specs.declared.clause_family.ClauseFamily.{ClauseFamily}
use Rattle.bt_flow_formula.specs.declared.clause_family.ClauseFamily.TheVariants as of
use Rattle.bt_flow.specs.EndEdges.{input_edge, output_edge, cap_at, load_column, room_column}
use Rattle.bt_flow_formula.specs.Columns.{out_edges, in_edges, edges_at, preferred_at, zero_row, at_least, at_most, not_below, in_less_out}
use Rattle.bt_flow_formula.specs.Pairs.{pair_clause, pairs_at, beside, full, loaded, filled}

-- a column is from 0 to a cap
abbrev pub range_clauses : ℕ → ℕ → List (List StateLiteral)
range_clauses column cap = (Says (at_least column 0) ∷ []) ∷ (Says (at_most column cap) ∷ []) ∷ []

-- the mark with which an edge at a side of a splitter needn't be even: of an out edge that it is backed, of an in edge
-- that it is free
abbrev pub excuse : Side → Bool
excuse Out = true
excuse In = false

-- an edge has the mark, or a flow at least that of the other edge, or where its cap is less is full
abbrev pub even_clause : Network → Side → ℕ → ℕ → ℕ → List StateLiteral
even_clause n side k x y =
    Mark x (excuse side) ∷ First (Even side k x y) ∷ (if nat_lt (cap_at n x) (cap_at n y) then First (full n x) ∷ [] else [])

-- of two edges each is even, unless it has the mark
abbrev pub even_clauses : Network → Side → ℕ → List ℕ → List (List StateLiteral)
even_clauses n side k (a ∷ b ∷ []) = even_clause n side k a b ∷ even_clause n side k b a ∷ []
even_clauses n side k edges = []

-- a preferred edge has the mark, or is full, or the edge beside it is empty
abbrev pub prior_clause : Network → Side → ℕ → ℕ → ℕ → List StateLiteral
prior_clause n side k x y = Mark x (excuse side) ∷ First (full n x) ∷ First (Empty side k y) ∷ []

-- of two edges each is even, where the splitter prefers none there, and else the preferred one comes first
abbrev pub side_clauses : Option ℕ → Network → Side → ℕ → List ℕ → List (List StateLiteral)
side_clauses None n side k edges = even_clauses n side k edges
side_clauses (Some x) n side k (a ∷ b ∷ []) = prior_clause n side k x (beside x a b) ∷ []
side_clauses (Some x) n side k edges = []

-- how the edges at a side of a splitter share
abbrev pub sharing_clauses : Network → Side → ℕ → List (List StateLiteral)
sharing_clauses n side k = side_clauses (preferred_at n side k) n side k (edges_at n side k)

-- an in edge isn't backed, or an out edge is backed or full
abbrev pub backing_clause : Network → ℕ → ℕ → List StateLiteral
backing_clause n a x = Mark a false ∷ Mark x true ∷ First (full n x) ∷ []

-- an edge's flow is at most the load or room in a column, and as the pair says at least that, unless the edge has the
-- mark
abbrev pub end_clauses : ℕ → ℕ → Bool → Pair → List (List StateLiteral)
end_clauses column a mark pair = (Says (not_below column a) ∷ []) ∷ (Mark a mark ∷ First pair ∷ []) ∷ []

-- the clauses of a family at the place of an edge, an input, an output or a splitter
abbrev pub clauses_at : Network → ClauseFamily → ℕ → List (List StateLiteral)
clauses_at n of.Flows a = range_clauses a (cap_at n a)
clauses_at n of.Loads i = range_clauses (load_column n i) (cap_at n (input_edge n i))
clauses_at n of.Rooms o = range_clauses (room_column n o) (cap_at n (output_edge n o))
clauses_at n of.Conserve k = (Says (zero_row (in_less_out k 0 n.edges) Equal) ∷ []) ∷ []
clauses_at n of.OutPairs k = map pair_clause (pairs_at n Out k)
clauses_at n of.InPairs k = map pair_clause (pairs_at n In k)
clauses_at n of.FullPairs a = pair_clause (full n a) ∷ []
clauses_at n of.LoadPairs i = pair_clause (loaded n i) ∷ []
clauses_at n of.RoomPairs o = pair_clause (filled n o) ∷ []
clauses_at n of.EvenOut k = sharing_clauses n Out k
clauses_at n of.EvenIn k = sharing_clauses n In k
clauses_at n of.Backing k = flat_map (λ a. map (backing_clause n a) (out_edges n k)) (in_edges n k)
clauses_at n of.Inputs i = end_clauses (load_column n i) (input_edge n i) true (loaded n i)
clauses_at n of.Outputs o = end_clauses (room_column n o) (output_edge n o) false (filled n o)

-- how many places a family has
abbrev pub places : Network → ClauseFamily → ℕ
places n of.Flows = length n.edges
places n of.Loads = n.inputs
places n of.Rooms = n.outputs
places n of.Conserve = n.splitters
places n of.OutPairs = n.splitters
places n of.InPairs = n.splitters
places n of.FullPairs = length n.edges
places n of.LoadPairs = n.inputs
places n of.RoomPairs = n.outputs
places n of.EvenOut = n.splitters
places n of.EvenIn = n.splitters
places n of.Backing = n.splitters
places n of.Inputs = n.inputs
places n of.Outputs = n.outputs

-- the clauses of a family at all its places
abbrev pub family_clauses : Network → ClauseFamily → List (List StateLiteral)
family_clauses n f = flat_map (clauses_at n f) (range_with_len 0 (places n f))

-- the families of rows that no pair has
abbrev pub bounds : List ClauseFamily
bounds = of.Flows ∷ of.Loads ∷ of.Rooms ∷ of.Conserve ∷ []

-- the families of pairs
abbrev pub pair_families : List ClauseFamily
pair_families = of.OutPairs ∷ of.InPairs ∷ of.FullPairs ∷ of.LoadPairs ∷ of.RoomPairs ∷ []

-- the families that name pairs
abbrev pub laws : List ClauseFamily
laws = of.EvenOut ∷ of.EvenIn ∷ of.Backing ∷ of.Inputs ∷ of.Outputs ∷ []

-- the families in their order
abbrev pub families : List ClauseFamily
families = bounds ++ pair_families ++ laws
