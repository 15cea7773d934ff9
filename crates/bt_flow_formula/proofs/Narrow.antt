-- The columns of the rows of a network's steady states are below 2 ^ 16, since the network is small.
use Rattle.std.proofs.Common.{ℕ, ◌<◌, ◌≤◌, ◌+◌, ◌^◌, Bool, true, false, Option, Some, None, List, [], ◌∷◌, ◌++◌, length, map, cond, ltb, arith}
use Rattle.std.specs.List.{AllByRecursion, flat_map, range_with_len}
use Rattle.bt_frac.specs.Ratio.{Ratio}
use Rattle.bt_frac.specs.Rows.{RowParts, columns_of}
use Rattle.bt_net.specs.declared.network.Edge.{Edge}
use Rattle.bt_net.specs.Network.{Network, IsNetwork, merges_any, leaves, enters}
use Rattle.bt_flow.specs.Ports.{numbers_where}
use Rattle.bt_flow_formula.specs.declared.state_literal.Side.{Side}
use Rattle.bt_flow_formula.specs.declared.state_literal.Side.TheVariants.{Out, In}
use Rattle.bt_flow_formula.specs.declared.state_literal.Pair.{Pair}
use Rattle.bt_flow_formula.specs.declared.state_literal.StateLiteral.{StateLiteral}
use Rattle.bt_flow_formula.specs.declared.state_literal.StateLiteral.TheVariants.{Says, First}
use Rattle.bt_flow_formula.specs.declared.clause_family.ClauseFamily.{ClauseFamily}
use Rattle.bt_flow_formula.specs.declared.clause_family.ClauseFamily.TheVariants as of
use Rattle.bt_flow.specs.EndEdges.{input_edge, output_edge, cap_at, load_column, room_column}
use Rattle.bt_flow_formula.specs.Columns.{in_edges, out_edges, edges_at, preferred_at, plus, minus, not_below, above, in_less_out}
use Rattle.bt_flow_formula.specs.Families.{clauses_at, places, family_clauses, families, range_clauses, end_clauses, even_clauses, side_clauses, backing_clause}
use Rattle.bt_flow_formula.specs.Pairs.{pair_clause, side_pairs, full, loaded, filled}
use Rattle.bt_flow_formula.specs.FlowFormula.{steady_clauses}
use Rattle.bt_flow_formula.specs.Numbering.{mentioned, rows_in}
use Rattle.bt_flow_formula.proofs.Sides.{left_all, beside_edge}
use Rattle.bt_flow_formula.proofs.Withins.{each-flat_map, each-map, each-range, each_any, numbers_below, input_below, output_below}

-- a column that is far below what 64 bits hold
abbrev pub IsNarrow : ℕ → Type 0
IsNarrow column = column < 2 ^ 16

-- a row of such columns
abbrev pub IsNarrowRow : RowParts → Type 0
IsNarrowRow row = AllByRecursion IsNarrow (columns_of row.terms)

-- the row that a claim mentions is one
abbrev MentionsNarrow : StateLiteral → Type 0
MentionsNarrow claim = AllByRecursion IsNarrowRow (mentioned claim)

abbrev MentionNarrow : List (List StateLiteral) → Type 0
MentionNarrow clauses = AllByRecursion (AllByRecursion MentionsNarrow) clauses

less_narrow : (a b : ℕ) → IsNarrow a → IsNarrow b → (t u : Bool) → AllByRecursion IsNarrow (columns_of (cond t (plus a ∷ minus b ∷ []) (cond u (minus b ∷ plus a ∷ []) [])))
less_narrow a b l m true u = (l, (m, tt))
less_narrow a b l m false true = (m, (l, tt))
less_narrow a b l m false false = tt

not_below_narrow : (a b : ℕ) → IsNarrow a → IsNarrow b → IsNarrowRow (not_below a b)
not_below_narrow a b l m = less_narrow a b l m (ltb a b) (ltb b a)

above_narrow : (a b : ℕ) → IsNarrow a → IsNarrow b → IsNarrowRow (above a b)
above_narrow a b l m = less_narrow a b l m (ltb a b) (ltb b a)

edge_narrow : (b c : Bool) (m : ℕ) (terms : List (ℕ × Ratio)) → IsNarrow m → AllByRecursion IsNarrow (columns_of terms)
    → AllByRecursion IsNarrow (columns_of (cond b (cond c [] (plus m ∷ [])) (cond c (minus m ∷ []) []) ++ terms))
edge_narrow true true m terms l h = h
edge_narrow true false m terms l h = (l, h)
edge_narrow false true m terms l h = (l, h)
edge_narrow false false m terms l h = h

splitter_narrow : (k m : ℕ) (es : List Edge) → m + length es ≤ 2 ^ 16 → AllByRecursion IsNarrow (columns_of (in_less_out k m es))
splitter_narrow k m [] l = tt
splitter_narrow k m (e ∷ es) l = edge_narrow (enters k e) (leaves k e) m (in_less_out k (m + 1) es) (omega (arith, l)) (splitter_narrow k (m + 1) es (omega (arith, l)))

module _ (n : Network) (is : IsNetwork n) where
  flow_narrow : (a : ℕ) → a < length n.edges → IsNarrow a
  flow_narrow a l = let e = is.few_edges in omega (arith, e, l)

  load_narrow : (i : ℕ) → i < n.inputs → IsNarrow (load_column n i)
  load_narrow i l =
      let e = is.few_edges in
      let f = is.few_inputs in
      omega (arith, e, f, l)

  room_narrow : (o : ℕ) → o < n.outputs → IsNarrow (room_column n o)
  room_narrow o l =
      let e = is.few_edges in
      let f = is.few_inputs in
      let g = is.few_outputs in
      omega (arith, e, f, g, l)

  input_narrow : (i : ℕ) → IsNarrow (input_edge n i)
  input_narrow i = flow_narrow (input_edge n i) (input_below n is i)

  pub output_narrow : (o : ℕ) → IsNarrow (output_edge n o)
  output_narrow o = flow_narrow (output_edge n o) (output_below n is o)

  edges_narrow : (p : Edge → Bool) → AllByRecursion IsNarrow (numbers_where p 0 n.edges)
  edges_narrow p =
      let few = is.few_edges in
      numbers_below p 0 (2 ^ 16) n.edges (omega (arith, few))

  range_narrow : (c k : ℕ) → IsNarrow c → MentionNarrow (range_clauses c k)
  range_narrow c k l = ((((l, tt), tt), tt), ((((l, tt), tt), tt), tt))

  two_narrow : (a b : ℕ) → IsNarrow a → IsNarrow b → AllByRecursion MentionsNarrow (Says (not_below a b) ∷ Says (above b a) ∷ [])
  two_narrow a b l m = ((not_below_narrow a b l m, tt), ((above_narrow b a m l, tt), tt))

  pairs_narrow : (o : Option ℕ) (side : Side) (k : ℕ) (edges : List ℕ) → AllByRecursion IsNarrow edges → MentionNarrow (map pair_clause (side_pairs o side k edges))
  pairs_narrow None side k [] h = tt
  pairs_narrow None side k (a ∷ []) h = tt
  pairs_narrow None side k (a ∷ b ∷ []) h = (two_narrow a b h.0 h.1.0, (two_narrow b a h.1.0 h.0, tt))
  pairs_narrow None side k (a ∷ b ∷ c ∷ edges) h = tt
  pairs_narrow (Some x) side k [] h = tt
  pairs_narrow (Some x) side k (a ∷ []) h = tt
  pairs_narrow (Some x) side k (a ∷ b ∷ []) h =
      let column = beside_edge IsNarrow x a b h.0 h.1.0 in
      ((((column, tt), tt), (((column, tt), tt), tt)), tt)
  pairs_narrow (Some x) side k (a ∷ b ∷ c ∷ edges) h = tt

  last_narrow : (b : Bool) (x : ℕ) → AllByRecursion MentionsNarrow (cond b (First (full n x) ∷ []) [])
  last_narrow true x = (tt, tt)
  last_narrow false x = tt

  even_narrow : (side : Side) (k : ℕ) (edges : List ℕ) → MentionNarrow (even_clauses n side k edges)
  even_narrow side k [] = tt
  even_narrow side k (a ∷ []) = tt
  even_narrow side k (a ∷ b ∷ []) = ((tt, (tt, last_narrow (ltb (cap_at n a) (cap_at n b)) a)), ((tt, (tt, last_narrow (ltb (cap_at n b) (cap_at n a)) b)), tt))
  even_narrow side k (a ∷ b ∷ c ∷ edges) = tt

  sharing_narrow : (o : Option ℕ) (side : Side) (k : ℕ) (edges : List ℕ) → MentionNarrow (side_clauses o n side k edges)
  sharing_narrow None side k edges = even_narrow side k edges
  sharing_narrow (Some x) side k [] = tt
  sharing_narrow (Some x) side k (a ∷ []) = tt
  sharing_narrow (Some x) side k (a ∷ b ∷ []) = ((tt, (tt, (tt, tt))), tt)
  sharing_narrow (Some x) side k (a ∷ b ∷ c ∷ edges) = tt

  ends_narrow : (c a : ℕ) (mark : Bool) (pair : Pair) → IsNarrow c → IsNarrow a → MentionNarrow (end_clauses c a mark pair)
  ends_narrow c a mark pair l m = (((not_below_narrow c a l m, tt), tt), ((tt, (tt, tt)), tt))

  conserve_narrow : (k : ℕ) → AllByRecursion IsNarrow (columns_of (in_less_out k 0 n.edges))
  conserve_narrow k = let few = is.few_edges in splitter_narrow k 0 n.edges (omega (arith, few))

  at_narrow : (f : ClauseFamily) (k : ℕ) → k < places n f → MentionNarrow (clauses_at n f k)
  at_narrow of.Flows a l = range_narrow a (cap_at n a) (flow_narrow a l)
  at_narrow of.Loads i l = range_narrow (load_column n i) (cap_at n (input_edge n i)) (load_narrow i l)
  at_narrow of.Rooms o l = range_narrow (room_column n o) (cap_at n (output_edge n o)) (room_narrow o l)
  at_narrow of.Conserve k l = (((conserve_narrow k, tt), tt), tt)
  at_narrow of.OutPairs k l = pairs_narrow (preferred_at n Out k) Out k (out_edges n k) (edges_narrow (leaves k))
  at_narrow of.InPairs k l = pairs_narrow (preferred_at n In k) In k (edges_at n In k) (left_all IsNarrow (merges_any n k) (in_edges n k) (edges_narrow (enters k)))
  at_narrow of.FullPairs a l = let c = flow_narrow a l in ((((c, tt), tt), (((c, tt), tt), tt)), tt)
  at_narrow of.LoadPairs i l = (two_narrow (input_edge n i) (load_column n i) (input_narrow i) (load_narrow i l), tt)
  at_narrow of.RoomPairs o l = (two_narrow (output_edge n o) (room_column n o) (output_narrow o) (room_narrow o l), tt)
  at_narrow of.EvenOut k l = sharing_narrow (preferred_at n Out k) Out k (out_edges n k)
  at_narrow of.EvenIn k l = sharing_narrow (preferred_at n In k) In k (edges_at n In k)
  at_narrow of.Backing k l =
      each-flat_map _ (λ x. Unit {0}) _ (in_edges n k) (each_any (in_edges n k))
      (λ a l. each-map _ (λ x. Unit {0}) (backing_clause n a) (out_edges n k) (each_any (out_edges n k)) (λ x m. (tt, (tt, (tt, tt)))))
  at_narrow of.Inputs i l = ends_narrow (load_column n i) (input_edge n i) true (loaded n i) (load_narrow i l) (input_narrow i)
  at_narrow of.Outputs o l = ends_narrow (room_column n o) (output_edge n o) false (filled n o) (room_narrow o l) (output_narrow o)

  family_narrow : (f : ClauseFamily) → MentionNarrow (family_clauses n f)
  family_narrow f =
      each-flat_map _ (λ k. k < places n f) (clauses_at n f) (range_with_len 0 (places n f)) (each-range (λ k. k < places n f) 0 (places n f) (λ k l m. omega (arith, m)))
      (λ k l. at_narrow f k l)

  -- the rows that the clauses of the laws mention
  pub steady_narrow : AllByRecursion IsNarrowRow (rows_in (steady_clauses n))
  steady_narrow =
      each-flat_map IsNarrowRow (AllByRecursion MentionsNarrow) (flat_map mentioned) (steady_clauses n)
      (each-flat_map (AllByRecursion MentionsNarrow) (λ x. Unit {0}) (family_clauses n) families (each_any families) (λ f t. family_narrow f))
      (λ claims h. each-flat_map IsNarrowRow MentionsNarrow mentioned claims h (λ claim r. r))
