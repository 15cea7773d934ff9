-- The flow formula of a network of which no splitter prefers an edge: nothing in it speaks of preferred edges.
use Rattle.std.specs.List.{range_with_len}
use Rattle.std.specs.Prelude.{◌≡◌, ℕ, ◌+◌, length, List, [], ◌∷◌, ◌++◌, map, flat_map}
use Rattle.bt_net.specs.Network.{Network, HasNoPriorities}
use Rattle.bt_flow.specs.declared.property.Property.{Property}
use Rattle.bt_cnf.specs.Formulas.{FormulaParts}
use Rattle.bt_flow_formula.specs.declared.state_literal.Side.TheVariants.{Out, In}
use Rattle.bt_flow_formula.specs.declared.state_literal.Pair.{Pair}
use Rattle.bt_flow_formula.specs.declared.state_literal.Pair.TheVariants.{Even, Empty, Full, Loaded, Filled}
use Rattle.bt_flow_formula.specs.declared.state_literal.StateLiteral.{StateLiteral}
use Rattle.bt_flow_formula.specs.declared.clause_family.ClauseFamily.{ClauseFamily}
use Rattle.bt_flow_formula.specs.declared.clause_family.ClauseFamily.TheVariants as of
use Rattle.bt_flow_formula.specs.Columns.{out_edges, in_edges}
use Rattle.bt_flow_formula.specs.Pairs.{pair_clause, even_pairs}
use Rattle.bt_flow_formula.specs.Families.{clauses_at, even_clauses, places, bounds, families}
use Rattle.bt_flow_formula.specs.Properties.{property_clauses}
use Rattle.bt_flow_formula.specs.Numbering.{rows_in, formula_of}
use Rattle.bt_flow_formula.specs.FlowFormula.{lower_first, clauses_before, leveled, flow_formula}

-- the clauses of a family at a place: of two edges at a side of any splitter each is compared with the other, and each
-- is even
abbrev pub even_clauses_at : Network → ClauseFamily → ℕ → List (List StateLiteral)
even_clauses_at n of.OutPairs k = map pair_clause (even_pairs Out k (out_edges n k))
even_clauses_at n of.InPairs k = map pair_clause (even_pairs In k (in_edges n k))
even_clauses_at n of.EvenOut k = even_clauses n Out k (out_edges n k)
even_clauses_at n of.EvenIn k = even_clauses n In k (in_edges n k)
even_clauses_at n family place = clauses_at n family place

-- those at all its places
abbrev pub even_family : Network → ClauseFamily → List (List StateLiteral)
even_family n f = flat_map (even_clauses_at n f) (range_with_len 0 (places n f))

-- the clauses that stand before a place of a family, which has these families before it
abbrev pub even_till : Network → List ClauseFamily → ClauseFamily → ℕ → List (List StateLiteral)
even_till n before f place = flat_map (even_family n) before ++ flat_map (even_clauses_at n f) (range_with_len 0 place)

-- the clauses that stand before that of a pair; that an edge is empty is no pair of this formula
abbrev pub even_before : Network → Pair → List (List StateLiteral)
even_before n (Even Out k a b) = even_till n bounds of.OutPairs k ++ lower_first (Even Out k b a) a b
even_before n (Even In k a b) = even_till n (bounds ++ of.OutPairs ∷ []) of.InPairs k ++ lower_first (Even In k b a) a b
even_before n (Empty side k a) = clauses_before n (Empty side k a)
even_before n (Full a cap) = even_till n (bounds ++ of.OutPairs ∷ of.InPairs ∷ []) of.FullPairs a
even_before n (Loaded i a column) = even_till n (bounds ++ of.OutPairs ∷ of.InPairs ∷ of.FullPairs ∷ []) of.LoadPairs i
even_before n (Filled o a column) = even_till n (bounds ++ of.OutPairs ∷ of.InPairs ∷ of.FullPairs ∷ of.LoadPairs ∷ []) of.RoomPairs o

-- the formula of these clauses and those of a property: the marks come first, then the rows as they are mentioned, and
-- a level
abbrev pub even_formula : Network → Property → FormulaParts
even_formula n p = leveled n p (formula_of (λ pair. length n.edges + length (rows_in (even_before n pair))) (length n.edges) (flat_map (even_family n) families ++ property_clauses n p))

-- where no splitter prefers an edge, this is the flow formula
abbrev pub FlowFormulaIsEven : Type 0
FlowFormulaIsEven = (n : Network) (p : Property) → HasNoPriorities n → flow_formula n p ≡ even_formula n p
