-- The rows of the flow formula are rows: their columns ascend, and their numbers are in lowest terms.
use Rattle.std.proofs.Common.{◌≡◌, ℕ, ◌<◌, ◌≤◌, ◌+◌, ◌-◌, ◌^◌, Bool, true, false, Option, Some, None, pos, neg_ℤ, List, [], ◌∷◌, ◌++◌, length, map, cond, ltb, refl, arith, zero, suc, lit<, get_or}
use Rattle.std.specs.List.{AllByRecursion, flat_map, range_with_len}
use Rattle.std.proofs.lemmas.Int.{ints}
use Rattle.std.proofs.lemmas.Bool.{ltb-true}
use Rattle.bt_frac.specs.Ratio.{Ratio, IsLowest, negated}
use Rattle.bt_frac.specs.Columns.{AreColumnsFrom}
use Rattle.bt_frac.specs.Rows.{IsRow, columns_of}
use Rattle.bt_frac.specs.declared.relation.Relation.{Relation}
use Rattle.bt_frac.specs.declared.relation.Relation.TheVariants.{AtLeast, Above, Equal}
use Rattle.bt_frac.proofs.Gcds.{whole_lowest}
use Rattle.bt_net.specs.declared.network.Edge.{Edge}
use Rattle.bt_net.specs.Network.{Network, IsNetwork, IsCap, merges_any, leaves, enters}
use Rattle.bt_flow.specs.declared.property.Property.{Property}
use Rattle.bt_flow.specs.declared.property.Property.TheVariants.{Balanced, DrawnEvenly, Unlimited, Full, Fair, DrawnFairly}
use Rattle.bt_flow.specs.Ports.{numbers_where}
use Rattle.bt_flow.specs.Properties.{is_last}
use Rattle.bt_flow_formula.specs.declared.state_literal.Side.{Side}
use Rattle.bt_flow_formula.specs.declared.state_literal.Side.TheVariants.{Out, In}
use Rattle.bt_flow_formula.specs.declared.state_literal.Pair.{Pair}
use Rattle.bt_flow_formula.specs.declared.state_literal.StateLiteral.{StateLiteral}
use Rattle.bt_flow_formula.specs.declared.state_literal.StateLiteral.TheVariants.{Says, First}
use Rattle.bt_flow_formula.specs.declared.clause_family.ClauseFamily.{ClauseFamily}
use Rattle.bt_flow_formula.specs.declared.clause_family.ClauseFamily.TheVariants as of
use Rattle.bt_flow.specs.EndEdges.{input_edge, output_edge, input_edges, output_edges, cap_at, load_column, room_column}
use Rattle.bt_flow_formula.specs.Columns.{in_edges, out_edges, edges_at, preferred_at, whole, plus, minus, zero_row, at_least, at_most, below, beyond, less, not_below, above, in_less_out, above_outputs}
use Rattle.bt_flow_formula.specs.Families.{clauses_at, places, family_clauses, families, range_clauses, end_clauses, even_clauses, side_clauses, backing_clause}
use Rattle.bt_flow_formula.proofs.Sides.{left_all, beside_edge}
use Rattle.bt_flow_formula.specs.Pairs.{pair_clause, beside, side_pairs, full, loaded, filled}
use Rattle.bt_flow_formula.specs.Properties.{property_clauses, loaded_clauses, open_clauses, short_clauses, unequal_clause, differ}
use Rattle.bt_flow_formula.specs.FlowFormula.{steady_clauses, flow_clauses}
use Rattle.bt_flow_formula.specs.Numbering.{mentioned, rows_in}
use Rattle.bt_flow_formula.proofs.Numbers.{all_from, all_to}
use Rattle.bt_flow_formula.proofs.Columns.{splitter_columns, output_columns}
use Rattle.bt_flow_formula.proofs.Withins.{each-append, each-three, each-flat_map, each-map, each-range, each_any, numbers_below, input_below, output_below}

-- a number that may stand as a column of a row
abbrev pub IsColumn : ℕ → Type 0
IsColumn column = column < 2 ^ 64 - 1

abbrev pub AreLowest : List (ℕ × Ratio) → Type 0
AreLowest terms = AllByRecursion (λ t. IsLowest t.1) terms

whole_is : (k : ℕ) → k < 2 ^ 127 → IsLowest (whole k)
whole_is k l = whole_lowest (pos k) (omega (arith, ints, l))

negated_is : (k : ℕ) → k < 2 ^ 127 → IsLowest (negated (whole k))
negated_is k l = whole_lowest (neg_ℤ (pos k)) (omega (arith, ints, l))

one_is : IsLowest (whole 1)
one_is = whole_is 1 (lit< tt)

none_is : IsLowest (whole 0)
none_is = whole_is 0 (lit< tt)

minus_is : IsLowest (negated (whole 1))
minus_is = negated_is 1 (lit< tt)

is_row : (terms : List (ℕ × Ratio)) (r : Relation) (bound : Ratio) → AreColumnsFrom 0 (columns_of terms) → AreLowest terms → IsLowest bound
    → IsRow (record { terms = terms; relation = r; bound = bound })
is_row terms r bound c l b = record { columns = c; coefficients = all_from (λ t. IsLowest t.1) terms l; bound = b }

at_least_row : (c k : ℕ) → IsColumn c → k < 2 ^ 127 → IsRow (at_least c k)
at_least_row c k l m = is_row (plus c ∷ []) AtLeast (whole k) (omega arith, l, tt) (one_is, tt) (whole_is k m)

at_most_row : (c k : ℕ) → IsColumn c → k < 2 ^ 127 → IsRow (at_most c k)
at_most_row c k l m = is_row (minus c ∷ []) AtLeast (negated (whole k)) (omega arith, l, tt) (minus_is, tt) (negated_is k m)

below_row : (c k : ℕ) → IsColumn c → k < 2 ^ 127 → IsRow (below c k)
below_row c k l m = is_row (minus c ∷ []) Above (negated (whole k)) (omega arith, l, tt) (minus_is, tt) (negated_is k m)

beyond_row : (c k : ℕ) → IsColumn c → k < 2 ^ 127 → IsRow (beyond c k)
beyond_row c k l m = is_row (plus c ∷ []) Above (whole k) (omega arith, l, tt) (one_is, tt) (whole_is k m)

less_columns : (a b : ℕ) → IsColumn a → IsColumn b → (t u : Bool) → ltb a b ≡ t → ltb b a ≡ u
    → AreColumnsFrom 0 (columns_of (cond t (plus a ∷ minus b ∷ []) (cond u (minus b ∷ plus a ∷ []) [])))
less_columns a b l m true u e f = (omega arith, l, (omega (arith, ltb-true a b e), m, tt))
less_columns a b l m false true e f = (omega arith, m, (omega (arith, ltb-true b a f), l, tt))
less_columns a b l m false false e f = tt

less_lowest : (a b : ℕ) (t u : Bool) → AreLowest (cond t (plus a ∷ minus b ∷ []) (cond u (minus b ∷ plus a ∷ []) []))
less_lowest a b true u = (one_is, (minus_is, tt))
less_lowest a b false true = (minus_is, (one_is, tt))
less_lowest a b false false = tt

pub not_below_row : (a b : ℕ) → IsColumn a → IsColumn b → IsRow (not_below a b)
not_below_row a b l m = is_row (less a b) AtLeast (whole 0) (less_columns a b l m (ltb a b) (ltb b a) refl refl) (less_lowest a b (ltb a b) (ltb b a)) none_is

pub above_row : (a b : ℕ) → IsColumn a → IsColumn b → IsRow (above a b)
above_row a b l m = is_row (less a b) Above (whole 0) (less_columns a b l m (ltb a b) (ltb b a) refl refl) (less_lowest a b (ltb a b) (ltb b a)) none_is

edge_lowest : (b c : Bool) (m : ℕ) (terms : List (ℕ × Ratio)) → AreLowest terms → AreLowest (cond b (cond c [] (plus m ∷ [])) (cond c (minus m ∷ []) []) ++ terms)
edge_lowest true true m terms h = h
edge_lowest true false m terms h = (one_is, h)
edge_lowest false true m terms h = (minus_is, h)
edge_lowest false false m terms h = h

splitter_lowest : (k m : ℕ) (es : List Edge) → AreLowest (in_less_out k m es)
splitter_lowest k m [] = tt
splitter_lowest k m (e ∷ es) = edge_lowest (enters k e) (leaves k e) m (in_less_out k (m + 1) es) (splitter_lowest k (m + 1) es)

all_plus : (columns : List ℕ) → AreLowest (map plus columns)
all_plus [] = tt
all_plus (c ∷ columns) = (one_is, all_plus columns)

all_minus : (columns : List ℕ) → AreLowest (map minus columns)
all_minus [] = tt
all_minus (c ∷ columns) = (minus_is, all_minus columns)

-- the row that a claim mentions is a row
abbrev pub MentionsRow : StateLiteral → Type 0
MentionsRow claim = AllByRecursion IsRow (mentioned claim)

abbrev MentionRows : List (List StateLiteral) → Type 0
MentionRows clauses = AllByRecursion (AllByRecursion MentionsRow) clauses

small_cap : (es : List Edge) → AllByRecursion (λ e. IsCap e.cap) es → (a : ℕ) → get_or (map (λ e. e.cap) es) a 0 < 2 ^ 127
small_cap [] h zero = lit< tt
small_cap [] h (suc a) = lit< tt
small_cap (e ∷ es) h zero = let l = h.0.1 in omega (arith, l)
small_cap (e ∷ es) h (suc a) = small_cap es h.1 a

module _ (n : Network) (is : IsNetwork n) where
  cap_fits : (a : ℕ) → cap_at n a < 2 ^ 127
  cap_fits a = small_cap n.edges (all_to (λ e. IsCap e.cap) n.edges is.wired.caps) a

  flow_column : (a : ℕ) → a < length n.edges → IsColumn a
  flow_column a l = let e = is.few_edges in omega (arith, e, l)

  load_is : (i : ℕ) → i < n.inputs → IsColumn (load_column n i)
  load_is i l =
      let e = is.few_edges in
      let f = is.few_inputs in
      omega (arith, e, f, l)

  room_is : (o : ℕ) → o < n.outputs → IsColumn (room_column n o)
  room_is o l =
      let e = is.few_edges in
      let f = is.few_inputs in
      let g = is.few_outputs in
      omega (arith, e, f, g, l)

  input_is : (i : ℕ) → IsColumn (input_edge n i)
  input_is i = flow_column (input_edge n i) (input_below n is i)

  output_is : (o : ℕ) → IsColumn (output_edge n o)
  output_is o = flow_column (output_edge n o) (output_below n is o)

  edges_are : (p : Edge → Bool) → AllByRecursion IsColumn (numbers_where p 0 n.edges)
  edges_are p =
      let few = is.few_edges in
      numbers_below p 0 (2 ^ 64 - 1) n.edges (omega (arith, few))

  range_rows : (c k : ℕ) → IsColumn c → k < 2 ^ 127 → MentionRows (range_clauses c k)
  range_rows c k l m = (((at_least_row c 0 l (lit< tt), tt), tt), (((at_most_row c k l m, tt), tt), tt))

  -- a pair of two columns
  two_rows : (a b : ℕ) → IsColumn a → IsColumn b → AllByRecursion MentionsRow (Says (not_below a b) ∷ Says (above b a) ∷ [])
  two_rows a b l m = ((not_below_row a b l m, tt), ((above_row b a m l, tt), tt))

  pair_rows : (o : Option ℕ) (side : Side) (k : ℕ) (edges : List ℕ) → AllByRecursion IsColumn edges → MentionRows (map pair_clause (side_pairs o side k edges))
  pair_rows None side k [] h = tt
  pair_rows None side k (a ∷ []) h = tt
  pair_rows None side k (a ∷ b ∷ []) h = (two_rows a b h.0 h.1.0, (two_rows b a h.1.0 h.0, tt))
  pair_rows None side k (a ∷ b ∷ c ∷ edges) h = tt
  pair_rows (Some x) side k [] h = tt
  pair_rows (Some x) side k (a ∷ []) h = tt
  pair_rows (Some x) side k (a ∷ b ∷ []) h =
      let column = beside_edge IsColumn x a b h.0 h.1.0 in
      (((at_most_row (beside x a b) 0 column (lit< tt), tt), ((beyond_row (beside x a b) 0 column (lit< tt), tt), tt)), tt)
  pair_rows (Some x) side k (a ∷ b ∷ c ∷ edges) h = tt

  last_row : (b : Bool) (x : ℕ) → AllByRecursion MentionsRow (cond b (First (full n x) ∷ []) [])
  last_row true x = (tt, tt)
  last_row false x = tt

  even_rows : (side : Side) (k : ℕ) (edges : List ℕ) → MentionRows (even_clauses n side k edges)
  even_rows side k [] = tt
  even_rows side k (a ∷ []) = tt
  even_rows side k (a ∷ b ∷ []) = ((tt, (tt, last_row (ltb (cap_at n a) (cap_at n b)) a)), ((tt, (tt, last_row (ltb (cap_at n b) (cap_at n a)) b)), tt))
  even_rows side k (a ∷ b ∷ c ∷ edges) = tt

  sharing_rows : (o : Option ℕ) (side : Side) (k : ℕ) (edges : List ℕ) → MentionRows (side_clauses o n side k edges)
  sharing_rows None side k edges = even_rows side k edges
  sharing_rows (Some x) side k [] = tt
  sharing_rows (Some x) side k (a ∷ []) = tt
  sharing_rows (Some x) side k (a ∷ b ∷ []) = ((tt, (tt, (tt, tt))), tt)
  sharing_rows (Some x) side k (a ∷ b ∷ c ∷ edges) = tt

  end_rows : (c a : ℕ) (mark : Bool) (pair : Pair) → IsColumn c → IsColumn a → MentionRows (end_clauses c a mark pair)
  end_rows c a mark pair l m = (((not_below_row c a l m, tt), tt), ((tt, (tt, tt)), tt))

  conserve_row : (k : ℕ) → IsRow (zero_row (in_less_out k 0 n.edges) Equal)
  conserve_row k =
      let few = is.few_edges in
      is_row (in_less_out k 0 n.edges) Equal (whole 0) (splitter_columns k 0 n.edges (omega (arith, few))) (splitter_lowest k 0 n.edges) none_is

  at_rows : (f : ClauseFamily) (k : ℕ) → k < places n f → MentionRows (clauses_at n f k)
  at_rows of.Flows a l = range_rows a (cap_at n a) (flow_column a l) (cap_fits a)
  at_rows of.Loads i l = range_rows (load_column n i) (cap_at n (input_edge n i)) (load_is i l) (cap_fits (input_edge n i))
  at_rows of.Rooms o l = range_rows (room_column n o) (cap_at n (output_edge n o)) (room_is o l) (cap_fits (output_edge n o))
  at_rows of.Conserve k l = (((conserve_row k, tt), tt), tt)
  at_rows of.OutPairs k l = pair_rows (preferred_at n Out k) Out k (out_edges n k) (edges_are (leaves k))
  at_rows of.InPairs k l = pair_rows (preferred_at n In k) In k (edges_at n In k) (left_all IsColumn (merges_any n k) (in_edges n k) (edges_are (enters k)))
  at_rows of.FullPairs a l = (((at_least_row a (cap_at n a) (flow_column a l) (cap_fits a), tt), ((below_row a (cap_at n a) (flow_column a l) (cap_fits a), tt), tt)), tt)
  at_rows of.LoadPairs i l = (two_rows (input_edge n i) (load_column n i) (input_is i) (load_is i l), tt)
  at_rows of.RoomPairs o l = (two_rows (output_edge n o) (room_column n o) (output_is o) (room_is o l), tt)
  at_rows of.EvenOut k l = sharing_rows (preferred_at n Out k) Out k (out_edges n k)
  at_rows of.EvenIn k l = sharing_rows (preferred_at n In k) In k (edges_at n In k)
  at_rows of.Backing k l =
      each-flat_map _ (λ x. Unit {0}) _ (in_edges n k) (each_any (in_edges n k))
      (λ a l. each-map _ (λ x. Unit {0}) (backing_clause n a) (out_edges n k) (each_any (out_edges n k)) (λ x m. (tt, (tt, (tt, tt)))))
  at_rows of.Inputs i l = end_rows (load_column n i) (input_edge n i) true (loaded n i) (load_is i l) (input_is i)
  at_rows of.Outputs o l = end_rows (room_column n o) (output_edge n o) false (filled n o) (room_is o l) (output_is o)

  family_rows : (f : ClauseFamily) → MentionRows (family_clauses n f)
  family_rows f =
      each-flat_map _ (λ k. k < places n f) (clauses_at n f) (range_with_len 0 (places n f)) (each-range (λ k. k < places n f) 0 (places n f) (λ k l m. omega (arith, m)))
      (λ k l. at_rows f k l)

  families_rows : MentionRows (flat_map (family_clauses n) families)
  families_rows = each-flat_map (AllByRecursion MentionsRow) (λ x. Unit {0}) (family_clauses n) families (each_any families) (λ f t. family_rows f)

  loaded_rows : MentionRows (loaded_clauses n)
  loaded_rows =
      each-map _ (λ i. i < n.inputs) _ (range_with_len 0 n.inputs) (each-range (λ i. i < n.inputs) 0 n.inputs (λ i l m. omega (arith, m)))
      (λ i l. ((at_least_row (load_column n i) (cap_at n (input_edge n i)) (load_is i l) (cap_fits (input_edge n i)), tt), tt))

  open_rows : MentionRows (open_clauses n)
  open_rows =
      each-map _ (λ o. o < n.outputs) _ (range_with_len 0 n.outputs) (each-range (λ o. o < n.outputs) 0 n.outputs (λ o l m. omega (arith, m)))
      (λ o l. ((at_least_row (room_column n o) (cap_at n (output_edge n o)) (room_is o l) (cap_fits (output_edge n o)), tt), tt))

  outputs_row : (first count : ℕ) → length n.edges ≤ first → first + count < 2 ^ 64 → IsRow (above_outputs n first count)
  outputs_row first count l few =
      is_row (map minus (numbers_where is_last 0 n.edges) ++ map plus (range_with_len first count)) Above (whole 0) (output_columns is_last 0 n.edges first count (omega (arith, l)) few)
      (each-append (λ t. IsLowest t.1) (map minus (numbers_where is_last 0 n.edges)) (map plus (range_with_len first count)) (all_minus (numbers_where is_last 0 n.edges)) (all_plus (range_with_len first count)))
      none_is

  short_rows : MentionRows (short_clauses n)
  short_rows =
      let e = is.few_edges in
      let f = is.few_inputs in
      let g = is.few_outputs in (
        ((outputs_row (load_column n 0) n.inputs (omega arith) (omega (arith, e, f)), tt), tt),
        (((outputs_row (room_column n 0) n.outputs (omega arith) (omega (arith, e, f, g)), tt), tt), tt),
      )

  unequal_rows : (edges : List ℕ) → AllByRecursion IsColumn edges → AllByRecursion MentionsRow (unequal_clause edges)
  unequal_rows [] h = tt
  unequal_rows (first ∷ others) h =
      each-flat_map _ IsColumn (differ first) others h.1 (λ b l. ((above_row first b h.0 l, tt), ((above_row b first l h.0, tt), tt)))

  input_columns : AllByRecursion IsColumn (input_edges n)
  input_columns = each-map IsColumn (λ i. Unit {0}) (input_edge n) (range_with_len 0 n.inputs) (each_any (range_with_len 0 n.inputs)) (λ i t. input_is i)

  output_numbers : AllByRecursion IsColumn (output_edges n)
  output_numbers = each-map IsColumn (λ o. Unit {0}) (output_edge n) (range_with_len 0 n.outputs) (each_any (range_with_len 0 n.outputs)) (λ o t. output_is o)

  property_rows : (p : Property) → MentionRows (property_clauses n p)
  property_rows Balanced = each-append (AllByRecursion MentionsRow) (open_clauses n) (unequal_clause (output_edges n) ∷ []) open_rows (unequal_rows (output_edges n) output_numbers, tt)
  property_rows DrawnEvenly = each-append (AllByRecursion MentionsRow) (loaded_clauses n) (unequal_clause (input_edges n) ∷ []) loaded_rows (unequal_rows (input_edges n) input_columns, tt)
  property_rows Unlimited = short_rows
  property_rows Full = each-three (AllByRecursion MentionsRow) (loaded_clauses n) (open_clauses n) (short_clauses n) loaded_rows open_rows short_rows
  property_rows Fair = tt
  property_rows DrawnFairly = tt

  -- the rows that the flow formula's clauses mention are rows
  pub flow_rows : (p : Property) → AllByRecursion IsRow (rows_in (flow_clauses n p))
  flow_rows p =
      each-flat_map IsRow (AllByRecursion MentionsRow) (flat_map mentioned) (flow_clauses n p)
      (each-append (AllByRecursion MentionsRow) (flat_map (family_clauses n) families) (property_clauses n p) families_rows (property_rows p))
      (λ claims h. each-flat_map IsRow MentionsRow mentioned claims h (λ claim r. r))

  -- so are those that the clauses of the laws mention
  pub steady_rows : AllByRecursion IsRow (rows_in (steady_clauses n))
  steady_rows =
      each-flat_map IsRow (AllByRecursion MentionsRow) (flat_map mentioned) (steady_clauses n) families_rows (λ claims h. each-flat_map IsRow MentionsRow mentioned claims h (λ claim r. r))
