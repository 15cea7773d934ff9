-- The flow formula of a network and a property, which the states that break the property meet.
use Rattle.std.specs.List.{range_with_len}
use Rattle.std.specs.Prelude.{ℕ, ◌+◌, nat_lt, length, List, [], ◌∷◌, ◌++◌, flat_map, if◌then◌else◌}
use Rattle.bt_net.specs.Network.{Network}
use Rattle.bt_flow.specs.declared.property.Property.{Property}
use Rattle.bt_flow.specs.declared.property.Property.TheVariants.{Balanced, DrawnEvenly, Unlimited, Full as FullProperty, Fair, DrawnFairly}
use Rattle.bt_flow.specs.declared.ports.End.TheVariants.{Input, Output}
use Rattle.bt_cnf.specs.Formulas.{FormulaParts}
use Rattle.bt_flow_formula.specs.declared.state_literal.Side.TheVariants.{Out, In}
use Rattle.bt_flow_formula.specs.declared.state_literal.Pair.{Pair}
use Rattle.bt_flow_formula.specs.declared.state_literal.Pair.TheVariants.{Even, Empty, Full, Loaded, Filled}
use Rattle.bt_flow_formula.specs.declared.state_literal.StateLiteral.{StateLiteral}
use Rattle.bt_flow_formula.specs.declared.clause_family.ClauseFamily.{ClauseFamily}
use Rattle.bt_flow_formula.specs.declared.clause_family.ClauseFamily.TheVariants as of
use Rattle.bt_flow_formula.specs.Families.{clauses_at, family_clauses, bounds, families}
use Rattle.bt_flow_formula.specs.Pairs.{pair_clause}
use Rattle.bt_flow_formula.specs.Properties.{property_clauses}
use Rattle.bt_flow_formula.specs.Levels.{with_level}
use Rattle.bt_flow_formula.specs.Numbering.{rows_in, formula_of}

-- the clauses of the network's laws, family by family
abbrev pub steady_clauses : Network → List (List StateLiteral)
steady_clauses n = flat_map (family_clauses n) families

-- the clauses of the network's laws, and then those of the property
abbrev pub flow_clauses : Network → Property → List (List StateLiteral)
flow_clauses n p = steady_clauses n ++ property_clauses n p

-- the clauses that stand before a place of a family, which has these families before it
abbrev pub clauses_till : Network → List ClauseFamily → ClauseFamily → ℕ → List (List StateLiteral)
clauses_till n before f place = flat_map (family_clauses n) before ++ flat_map (clauses_at n f) (range_with_len 0 place)

-- at a splitter the clause of the lower edge's pair stands before that of the higher edge's
abbrev pub lower_first : Pair → ℕ → ℕ → List (List StateLiteral)
lower_first lower a b = if nat_lt a b then [] else pair_clause lower ∷ []

-- the clauses that stand before that of a pair
abbrev pub clauses_before : Network → Pair → List (List StateLiteral)
clauses_before n (Even Out k a b) = clauses_till n bounds of.OutPairs k ++ lower_first (Even Out k b a) a b
clauses_before n (Even In k a b) = clauses_till n (bounds ++ of.OutPairs ∷ []) of.InPairs k ++ lower_first (Even In k b a) a b
clauses_before n (Empty Out k a) = clauses_till n bounds of.OutPairs k
clauses_before n (Empty In k a) = clauses_till n (bounds ++ of.OutPairs ∷ []) of.InPairs k
clauses_before n (Full a cap) = clauses_till n (bounds ++ of.OutPairs ∷ of.InPairs ∷ []) of.FullPairs a
clauses_before n (Loaded i a column) = clauses_till n (bounds ++ of.OutPairs ∷ of.InPairs ∷ of.FullPairs ∷ []) of.LoadPairs i
clauses_before n (Filled o a column) = clauses_till n (bounds ++ of.OutPairs ∷ of.InPairs ∷ of.FullPairs ∷ of.LoadPairs ∷ []) of.RoomPairs o

-- the variable of a pair's first row: the marks and the rows that were mentioned before have those before it
abbrev pub variable_of : Network → Pair → ℕ
variable_of n pair = length n.edges + length (rows_in (clauses_before n pair))

-- a formula with the level of a property behind it, where the property compares ends with one
abbrev pub leveled : Network → Property → FormulaParts → FormulaParts
leveled n Balanced f = f
leveled n DrawnEvenly f = f
leveled n Unlimited f = f
leveled n FullProperty f = f
leveled n Fair f = with_level n Output f
leveled n DrawnFairly f = with_level n Input f

-- the flow formula: variable e is the mark of edge e, true where it is backed, and the rows follow
abbrev pub flow_formula : Network → Property → FormulaParts
flow_formula n p = leveled n p (formula_of (variable_of n) (length n.edges) (flow_clauses n p))

-- the formula of the network's admissible steady states, numbered in the same way
abbrev pub steady_formula : Network → FormulaParts
steady_formula n = formula_of (variable_of n) (length n.edges) (steady_clauses n)
