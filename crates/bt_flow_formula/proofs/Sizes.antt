-- A network's flow formulas are small, since the network is.
use Rattle.std.proofs.Common.{◌≡◌, ℕ, ◌<◌, ◌≤◌, ◌+◌, ◌*◌, Bool, true, false, Option, Some, None, List, [], ◌∷◌, ◌++◌, length, map, cond, ltb, ap, ◌∙◌, refl, arith, zero, suc, length-append}
use Rattle.std.specs.List.{flat_map, range_with_len}
use Rattle.std.proofs.lemmas.Grind.{flat_map-append}
use Rattle.std.proofs.lemmas.List.FromFn.{length-map-range_with_len}
use Rattle.bt_net.specs.Network.{Network, IsNetwork}
use Rattle.bt_flow.specs.declared.ports.Role.{Role}
use Rattle.bt_flow.specs.declared.ports.Role.TheVariants.{OutOf, Into}
use Rattle.bt_flow.specs.declared.property.Property.{Property}
use Rattle.bt_flow.specs.declared.property.Property.TheVariants.{Balanced, DrawnEvenly, Unlimited, Full, Fair, DrawnFairly}
use Rattle.bt_flow.specs.Ports.{numbers_where, plays}
use Rattle.bt_flow.proofs.Numbers.{length-numbers_where, few_at, ends_of}
use Rattle.bt_flow_formula.specs.declared.state_literal.Side.{Side}
use Rattle.bt_flow_formula.specs.declared.state_literal.Side.TheVariants.{Out, In}
use Rattle.bt_flow_formula.specs.declared.state_literal.Pair.{Pair}
use Rattle.bt_flow_formula.specs.declared.state_literal.StateLiteral.{StateLiteral}
use Rattle.bt_flow_formula.specs.declared.state_literal.StateLiteral.TheVariants.{First}
use Rattle.bt_flow_formula.specs.Pairs.{pair_clause, side_pairs, full}
use Rattle.bt_flow_formula.specs.declared.clause_family.ClauseFamily.{ClauseFamily}
use Rattle.bt_flow_formula.specs.declared.clause_family.ClauseFamily.TheVariants as of
use Rattle.bt_flow.specs.EndEdges.{input_edge, output_edge, input_edges, output_edges, cap_at}
use Rattle.bt_flow_formula.specs.Columns.{in_edges, out_edges, edges_at, preferred_at}
use Rattle.bt_flow_formula.specs.Families.{clauses_at, places, family_clauses, families, even_clause, even_clauses, side_clauses, backing_clause}
use Rattle.bt_flow_formula.specs.Properties.{property_clauses, loaded_clauses, open_clauses, short_clauses, unequal_clause, differ}
use Rattle.bt_flow_formula.specs.Numbering.{mentioned, rows_in, clauses_from, formula_of}
use Rattle.bt_flow.specs.declared.ports.End.{End}
use Rattle.bt_flow.specs.declared.ports.End.TheVariants.{Input, Output}
use Rattle.bt_cnf.specs.Formulas.{FormulaParts}
use Rattle.bt_flow_formula.specs.Levels.{end_count, some_of, implies, each_implies, level_clauses, with_level}
use Rattle.bt_flow_formula.specs.FlowFormula.{steady_clauses, flow_clauses, leveled, variable_of}
use Rattle.bt_flow_formula.specs.Sizes.{IsSmall, FlowFormulasAreSmall, SteadyFormulasAreSmall}
use Rattle.bt_flow_formula.proofs.Leveled.{level_count}

-- there are at most so many clauses, which mention at most so many rows
pub record AreFew (clauses : List (List StateLiteral)) (c r : ℕ) : Type 0 where
  pub count : length clauses ≤ c
  pub rows : length (rows_in clauses) ≤ r

few-append : (xs ys : List (List StateLiteral)) (c r d s : ℕ) → AreFew xs c r → AreFew ys d s → AreFew (xs ++ ys) (c + d) (r + s)
few-append xs ys c r d s h g =
    let long = length-append xs ys in
    let more = ap length (flat_map-append (flat_map mentioned) xs ys) ∙ length-append (rows_in xs) (rows_in ys) in
    let a = h.count in
    let b = g.count in
    let e = h.rows in
    let f = g.rows in
    record { count = omega (arith, long, a, b); rows = omega (arith, more, e, f) }

few_more : (xs : List (List StateLiteral)) (c r d s : ℕ) → c ≤ d → r ≤ s → AreFew xs c r → AreFew xs d s
few_more xs c r d s l m h = let a = h.count in let b = h.rows in record { count = omega (arith, a, l); rows = omega (arith, b, m) }

few_range : (f : ℕ → List (List StateLiteral)) (a m : ℕ) → ((k : ℕ) → a ≤ k → k < a + m → AreFew (f k) 4 4) → AreFew (flat_map f (range_with_len a m)) (4 * m) (4 * m)
few_range f a zero h = record { count = omega arith; rows = omega arith }
few_range f a (suc m) h =
    let rest = few_range f (a + 1) m (λ k l b. h k (omega (arith, l)) (omega (arith, b))) in
    few_more (flat_map f (range_with_len a (suc m))) (4 + 4 * m) (4 + 4 * m) (4 * suc m) (4 * suc m) (omega arith) (omega arith)
    (few-append (f a) (flat_map f (range_with_len (a + 1) m)) 4 4 (4 * m) (4 * m) (h a (omega arith) (omega arith)) rest)

no_last_row : (t : Bool) (pair : Pair) → length (flat_map mentioned (cond t (First pair ∷ []) [])) ≡ 0
no_last_row true pair = refl
no_last_row false pair = refl

module _ (n : Network) (is : IsNetwork n) where
  pairs_few : (o : Option ℕ) (side : Side) (k : ℕ) (edges : List ℕ) → AreFew (map pair_clause (side_pairs o side k edges)) 4 4
  pairs_few None side k [] = record { count = omega arith; rows = omega arith }
  pairs_few None side k (a ∷ []) = record { count = omega arith; rows = omega arith }
  pairs_few None side k (a ∷ b ∷ []) = record { count = omega arith; rows = omega arith }
  pairs_few None side k (a ∷ b ∷ c ∷ edges) = record { count = omega arith; rows = omega arith }
  pairs_few (Some x) side k [] = record { count = omega arith; rows = omega arith }
  pairs_few (Some x) side k (a ∷ []) = record { count = omega arith; rows = omega arith }
  pairs_few (Some x) side k (a ∷ b ∷ []) = record { count = omega arith; rows = omega arith }
  pairs_few (Some x) side k (a ∷ b ∷ c ∷ edges) = record { count = omega arith; rows = omega arith }

  evens_few : (side : Side) (k : ℕ) (edges : List ℕ) → AreFew (even_clauses n side k edges) 4 4
  evens_few side k [] = record { count = omega arith; rows = omega arith }
  evens_few side k (a ∷ []) = record { count = omega arith; rows = omega arith }
  evens_few side k (a ∷ b ∷ []) =
      let first = no_last_row (ltb (cap_at n a) (cap_at n b)) (full n a) in
      let second = no_last_row (ltb (cap_at n b) (cap_at n a)) (full n b) in
      let more = length-append (flat_map mentioned (even_clause n side k a b)) (flat_map mentioned (even_clause n side k b a) ++ []) in
      let last = length-append (flat_map mentioned (even_clause n side k b a)) [] in
      record { count = omega arith; rows = omega (arith, first, second, more, last) }
  evens_few side k (a ∷ b ∷ c ∷ edges) = record { count = omega arith; rows = omega arith }

  sharing_few : (o : Option ℕ) (side : Side) (k : ℕ) (edges : List ℕ) → AreFew (side_clauses o n side k edges) 4 4
  sharing_few None side k edges = evens_few side k edges
  sharing_few (Some x) side k [] = record { count = omega arith; rows = omega arith }
  sharing_few (Some x) side k (a ∷ []) = record { count = omega arith; rows = omega arith }
  sharing_few (Some x) side k (a ∷ b ∷ []) = record { count = omega arith; rows = omega arith }
  sharing_few (Some x) side k (a ∷ b ∷ c ∷ edges) = record { count = omega arith; rows = omega arith }

  backing_few : (ins outs : List ℕ) → length ins ≤ 2 → length outs ≤ 2 → AreFew (flat_map (λ a. map (backing_clause n a) outs) ins) 4 4
  backing_few [] outs l m = record { count = omega arith; rows = omega arith }
  backing_few (a ∷ []) [] l m = record { count = omega arith; rows = omega arith }
  backing_few (a ∷ []) (x ∷ []) l m = record { count = omega arith; rows = omega arith }
  backing_few (a ∷ []) (x ∷ y ∷ []) l m = record { count = omega arith; rows = omega arith }
  backing_few (a ∷ []) (x ∷ y ∷ z ∷ outs) l m = absurd (omega (arith, m))
  backing_few (a ∷ b ∷ []) [] l m = record { count = omega arith; rows = omega arith }
  backing_few (a ∷ b ∷ []) (x ∷ []) l m = record { count = omega arith; rows = omega arith }
  backing_few (a ∷ b ∷ []) (x ∷ y ∷ []) l m = record { count = omega arith; rows = omega arith }
  backing_few (a ∷ b ∷ []) (x ∷ y ∷ z ∷ outs) l m = absurd (omega (arith, m))
  backing_few (a ∷ b ∷ c ∷ ins) outs l m = absurd (omega (arith, l))

  few_edges : (r : Role) (k : ℕ) → k < ends_of r n → length (numbers_where (plays r k) 0 n.edges) ≤ 2
  few_edges r k l = let few = few_at n r is k l in let long = length-numbers_where (plays r k) 0 n.edges in omega (arith, few, long)

  at_few : (f : ClauseFamily) (k : ℕ) → k < places n f → AreFew (clauses_at n f k) 4 4
  at_few of.Flows k l = record { count = omega arith; rows = omega arith }
  at_few of.Loads k l = record { count = omega arith; rows = omega arith }
  at_few of.Rooms k l = record { count = omega arith; rows = omega arith }
  at_few of.Conserve k l = record { count = omega arith; rows = omega arith }
  at_few of.OutPairs k l = pairs_few (preferred_at n Out k) Out k (out_edges n k)
  at_few of.InPairs k l = pairs_few (preferred_at n In k) In k (edges_at n In k)
  at_few of.FullPairs k l = record { count = omega arith; rows = omega arith }
  at_few of.LoadPairs k l = record { count = omega arith; rows = omega arith }
  at_few of.RoomPairs k l = record { count = omega arith; rows = omega arith }
  at_few of.EvenOut k l = sharing_few (preferred_at n Out k) Out k (out_edges n k)
  at_few of.EvenIn k l = sharing_few (preferred_at n In k) In k (edges_at n In k)
  at_few of.Backing k l = backing_few (in_edges n k) (out_edges n k) (few_edges Into k l) (few_edges OutOf k l)
  at_few of.Inputs k l = record { count = omega arith; rows = omega arith }
  at_few of.Outputs k l = record { count = omega arith; rows = omega arith }

  few_places : (f : ClauseFamily) → places n f ≤ 2048
  few_places of.Flows = is.few_edges
  few_places of.Loads = is.few_inputs
  few_places of.Rooms = is.few_outputs
  few_places of.Conserve = is.few_splitters
  few_places of.OutPairs = is.few_splitters
  few_places of.InPairs = is.few_splitters
  few_places of.FullPairs = is.few_edges
  few_places of.LoadPairs = is.few_inputs
  few_places of.RoomPairs = is.few_outputs
  few_places of.EvenOut = is.few_splitters
  few_places of.EvenIn = is.few_splitters
  few_places of.Backing = is.few_splitters
  few_places of.Inputs = is.few_inputs
  few_places of.Outputs = is.few_outputs

  family_few : (f : ClauseFamily) → AreFew (family_clauses n f) 8192 8192
  family_few f =
      let m = few_places f in
      few_more (family_clauses n f) (4 * places n f) (4 * places n f) 8192 8192 (omega (arith, m)) (omega (arith, m)) (few_range (clauses_at n f) 0 (places n f) (λ k l b. at_few f k (omega (arith, b))))

  each_few : (fs : List ClauseFamily) → AreFew (flat_map (family_clauses n) fs) (8192 * length fs) (8192 * length fs)
  each_few [] = record { count = omega arith; rows = omega arith }
  each_few (f ∷ fs) =
      few_more (flat_map (family_clauses n) (f ∷ fs)) (8192 + 8192 * length fs) (8192 + 8192 * length fs) (8192 * length (f ∷ fs)) (8192 * length (f ∷ fs)) (omega arith) (omega arith)
      (few-append (family_clauses n f) (flat_map (family_clauses n) fs) 8192 8192 (8192 * length fs) (8192 * length fs) (family_few f) (each_few fs))

  -- a clause of one row for each of so many places
  rows_of_units : (c : ℕ → StateLiteral) (a m : ℕ) → ((k : ℕ) → length (mentioned (c k)) ≤ 1) → AreFew (map (λ i. c i ∷ []) (range_with_len a m)) m m
  rows_of_units c a zero h = record { count = omega arith; rows = omega arith }
  rows_of_units c a (suc m) h =
      let rest = rows_of_units c (a + 1) m h in
      let one = h a in
      let front = length-append (mentioned (c a)) [] in
      few_more (map (λ i. c i ∷ []) (range_with_len a (suc m))) (1 + m) (1 + m) (suc m) (suc m) (omega arith) (omega arith)
      (few-append ((c a ∷ []) ∷ []) (map (λ i. c i ∷ []) (range_with_len (a + 1) m)) 1 1 m m
      (record { count = omega arith; rows = (let z = length-append (flat_map mentioned (c a ∷ [])) [] in omega (arith, one, front, z)) }) rest)

  loaded_few : AreFew (loaded_clauses n) 2048 2048
  loaded_few =
      let m = is.few_inputs in
      few_more (loaded_clauses n) n.inputs n.inputs 2048 2048 m m (rows_of_units _ 0 n.inputs (λ k. omega arith))

  open_few : AreFew (open_clauses n) 2048 2048
  open_few =
      let m = is.few_outputs in
      few_more (open_clauses n) n.outputs n.outputs 2048 2048 m m (rows_of_units _ 0 n.outputs (λ k. omega arith))

  differ_rows : (first : ℕ) (others : List ℕ) → length (flat_map mentioned (flat_map (differ first) others)) ≤ 2 * length others
  differ_rows first [] = omega arith
  differ_rows first (b ∷ others) = let l = differ_rows first others in omega (arith, l)

  unequal_rows : (edges : List ℕ) → length (flat_map mentioned (unequal_clause edges)) ≤ 2 * length edges
  unequal_rows [] = omega arith
  unequal_rows (first ∷ others) = let l = differ_rows first others in omega (arith, l)

  unequal_few : (edges : List ℕ) → length edges ≤ 2048 → AreFew (unequal_clause edges ∷ []) 4096 4096
  unequal_few edges m =
      let l = unequal_rows edges in
      let z = length-append (flat_map mentioned (unequal_clause edges)) [] in
      record { count = omega arith; rows = omega (arith, l, m, z) }

  short_few : AreFew (short_clauses n) 4096 4096
  short_few = record { count = omega arith; rows = omega arith }

  property_few : (p : Property) → AreFew (property_clauses n p) 8192 8192
  property_few Balanced =
      let m = is.few_outputs in
      few_more (property_clauses n Balanced) 6144 6144 8192 8192 (omega arith) (omega arith)
      (few-append (open_clauses n) (unequal_clause (output_edges n) ∷ []) 2048 2048 4096 4096 open_few (unequal_few (output_edges n) (let e = length-map-range_with_len (λ i. output_edge n i) 0 n.outputs in omega (arith, e, m))))
  property_few DrawnEvenly =
      let m = is.few_inputs in
      few_more (property_clauses n DrawnEvenly) 6144 6144 8192 8192 (omega arith) (omega arith)
      (few-append (loaded_clauses n) (unequal_clause (input_edges n) ∷ []) 2048 2048 4096 4096 loaded_few (unequal_few (input_edges n) (let e = length-map-range_with_len (λ i. input_edge n i) 0 n.inputs in omega (arith, e, m))))
  property_few Unlimited = few_more (short_clauses n) 4096 4096 8192 8192 (omega arith) (omega arith) short_few
  property_few Full =
      few-append (loaded_clauses n ++ open_clauses n) (short_clauses n) 4096 4096 4096 4096 (few-append (loaded_clauses n) (open_clauses n) 2048 2048 2048 2048 loaded_few open_few) short_few
  property_few Fair = record { count = omega arith; rows = omega arith }
  property_few DrawnFairly = record { count = omega arith; rows = omega arith }

  flow_few : (p : Property) → AreFew (flow_clauses n p) 122880 122880
  flow_few p = few-append (flat_map (family_clauses n) families) (property_clauses n p) 114688 114688 8192 8192 (each_few families) (property_few p)

clauses_as_many : (at : Pair → ℕ) (next : ℕ) (clauses : List (List StateLiteral)) → length (clauses_from at next clauses) ≡ length clauses
clauses_as_many at next [] = refl
clauses_as_many at next (claims ∷ clauses) = ap suc (clauses_as_many at (next + length (flat_map mentioned claims)) clauses)

-- a level adds few
level_small : (n : Network) (end : End) (f : FormulaParts) → end_count n end ≤ 2048 → f.vars ≤ 1000000 → length f.clauses ≤ 1000000 → IsSmall (with_level n end f)
level_small n end f few vars clauses =
    let rows = level_count n end in
    let each = length-map-range_with_len (λ k. implies (f.vars + k) (f.vars + end_count n end + k)) 0 (end_count n end) in
    let last = length-append (each_implies f.vars (end_count n end)) (some_of (f.vars + 2 * end_count n end) (end_count n end) ∷ []) in
    let all = length-append f.clauses (level_clauses f.vars (end_count n end)) in
    record { vars = omega (arith, rows, few, vars); clauses = omega (arith, each, last, all, few, clauses) }

leveled_small : (n : Network) → IsNetwork n → (p : Property) (f : FormulaParts) → f.vars ≤ 1000000 → length f.clauses ≤ 1000000 → IsSmall (leveled n p f)
leveled_small n is Balanced f vars clauses = record { vars = omega (arith, vars); clauses = omega (arith, clauses) }
leveled_small n is DrawnEvenly f vars clauses = record { vars = omega (arith, vars); clauses = omega (arith, clauses) }
leveled_small n is Unlimited f vars clauses = record { vars = omega (arith, vars); clauses = omega (arith, clauses) }
leveled_small n is Full f vars clauses = record { vars = omega (arith, vars); clauses = omega (arith, clauses) }
leveled_small n is Fair f vars clauses = level_small n Output f is.few_outputs vars clauses
leveled_small n is DrawnFairly f vars clauses = level_small n Input f is.few_inputs vars clauses

pub flow_formulas_small : FlowFormulasAreSmall
flow_formulas_small n p is =
    let few = flow_few n is p in
    let count = few.count in
    let rows = few.rows in
    let edges = is.few_edges in
    let same = clauses_as_many (variable_of n) (length n.edges) (flow_clauses n p) in
    leveled_small n is p (formula_of (variable_of n) (length n.edges) (flow_clauses n p)) (omega (arith, rows, edges)) (omega (arith, count, same))

pub steady_formulas_small : SteadyFormulasAreSmall
steady_formulas_small n is =
    let few = each_few n is families in
    let count = few.count in
    let rows = few.rows in
    let edges = is.few_edges in
    let same = clauses_as_many (variable_of n) (length n.edges) (steady_clauses n) in
    record { vars = omega (arith, rows, edges); clauses = omega (arith, count, same) }
