-- The clauses that say that a state meets the condition of a property and fails its conclusion.
use Rattle.std.specs.List.{range_with_len}
use Rattle.std.specs.Prelude.{ℕ, List, [], ◌∷◌, ◌++◌, map, flat_map}
use Rattle.bt_net.specs.Network.{Network}
use Rattle.bt_flow.specs.declared.property.Property.{Property}
use Rattle.bt_flow.specs.declared.property.Property.TheVariants.{Balanced, DrawnEvenly, Unlimited, Full, Fair, DrawnFairly}
use Rattle.bt_flow_formula.specs.declared.state_literal.StateLiteral.{StateLiteral}
use Rattle.bt_flow_formula.specs.declared.state_literal.StateLiteral.TheVariants.{Says}
use Rattle.bt_flow.specs.EndEdges.{input_edge, output_edge, input_edges, output_edges, cap_at, load_column, room_column}
use Rattle.bt_flow_formula.specs.Columns.{at_least, above, above_outputs}

-- every load is at its cap
abbrev pub loaded_clauses : Network → List (List StateLiteral)
loaded_clauses n = map (λ i. Says (at_least (load_column n i) (cap_at n (input_edge n i))) ∷ []) (range_with_len 0 n.inputs)

-- every room is at its cap
abbrev pub open_clauses : Network → List (List StateLiteral)
open_clauses n = map (λ o. Says (at_least (room_column n o) (cap_at n (output_edge n o))) ∷ []) (range_with_len 0 n.outputs)

-- two flows differ: one is above the other
abbrev pub differ : ℕ → ℕ → List StateLiteral
differ a b = Says (above a b) ∷ Says (above b a) ∷ []

-- the flow of the first edge differs from that of another
abbrev pub unequal_clause : List ℕ → List StateLiteral
unequal_clause [] = []
unequal_clause (first ∷ others) = flat_map (differ first) others

-- the sum of output flows is below that of loads, and below that of rooms
abbrev pub short_clauses : Network → List (List StateLiteral)
short_clauses n = (Says (above_outputs n (load_column n 0) n.inputs) ∷ []) ∷ (Says (above_outputs n (room_column n 0) n.outputs) ∷ []) ∷ []

-- the clauses of a property; where ends are to share fairly a level says what is to be said, behind all clauses of
-- claims
abbrev pub property_clauses : Network → Property → List (List StateLiteral)
property_clauses n Balanced = open_clauses n ++ unequal_clause (output_edges n) ∷ []
property_clauses n DrawnEvenly = loaded_clauses n ++ unequal_clause (input_edges n) ∷ []
property_clauses n Unlimited = short_clauses n
property_clauses n Full = loaded_clauses n ++ open_clauses n ++ short_clauses n
property_clauses n Fair = []
property_clauses n DrawnFairly = []
