-- The edges and the pairs that the claims of the flow formula name are of the network, and the variable of each
-- pair is that of its first row.
use Rattle.std.proofs.Common.{◌≡◌, ℕ, ◌<◌, ◌+◌, ◌⊎◌, inl, inr, Bool, true, false, Option, Some, None, List, [], ◌∷◌, ◌++◌, length, map, cond, ltb, ap, sym, ◌∙◌, refl, subst, arith, zero, suc, append_assoc, append-nil}
use Rattle.std.specs.List.{AllByRecursion, flat_map, range_with_len}
use Rattle.std.proofs.lemmas.Bool.{lt-ltb, le-ltb}
use Rattle.std.proofs.lemmas.Grind.{flat_map-append}
use Rattle.std.proofs.lemmas.Option.{slice_get_within}
use Rattle.bt_frac.specs.Rows.{RowParts}
use Rattle.bt_net.specs.declared.network.Edge.{Edge}
use Rattle.bt_net.specs.Network.{Network, IsNetwork, leaves, enters}
use Rattle.bt_flow.specs.declared.property.Property.{Property}
use Rattle.bt_flow.specs.declared.property.Property.TheVariants.{Balanced, DrawnEvenly, Unlimited, Full as FullProperty, Fair, DrawnFairly}
use Rattle.bt_flow_formula.specs.declared.state_literal.Side.{Side}
use Rattle.bt_flow_formula.specs.declared.state_literal.Side.TheVariants.{Out, In}
use Rattle.bt_flow_formula.specs.declared.state_literal.Pair.{Pair}
use Rattle.bt_flow_formula.specs.declared.state_literal.Pair.TheVariants.{Even, Empty, Full, Loaded, Filled}
use Rattle.bt_flow_formula.specs.declared.state_literal.StateLiteral.{StateLiteral}
use Rattle.bt_flow_formula.specs.declared.state_literal.StateLiteral.TheVariants.{Mark, Says, First}
use Rattle.bt_flow_formula.specs.declared.clause_family.ClauseFamily.{ClauseFamily}
use Rattle.bt_flow_formula.specs.declared.clause_family.ClauseFamily.TheVariants as of
use Rattle.bt_flow.specs.EndEdges.{input_edge, output_edge, input_edges, output_edges, cap_at, load_column, room_column}
use Rattle.bt_flow_formula.specs.Columns.{in_edges, out_edges, edges_at, preferred_at}
use Rattle.bt_flow_formula.specs.Pairs.{first_row, opposite_row, pair_clause, even_pairs, beside, side_pairs, pairs_at, full}
use Rattle.bt_flow_formula.specs.Families.{clauses_at, places, family_clauses, bounds, pair_families, laws, families, even_clauses, side_clauses, backing_clause}
use Rattle.bt_flow_formula.specs.Properties.{property_clauses, loaded_clauses, open_clauses, short_clauses, unequal_clause, differ}
use Rattle.bt_flow_formula.specs.Numbering.{mentioned, rows_in, IsVariable, IsNamed, AreNamed}
use Rattle.bt_flow_formula.specs.FlowFormula.{flow_clauses, clauses_till, lower_first, variable_of}
use Rattle.bt_flow_formula.proofs.NetEdges.{IsEdgeWith}
use Rattle.bt_flow_formula.proofs.Sides.{at_side, side_edges, side_ascends, preferred_is, even_at}
use Rattle.bt_flow_formula.proofs.Withins.{each-append, each-three, each-flat_map, each-map, each-range, each_any, all_below, input_below, output_below}

-- these two are the edges
abbrev AreTwo : List ℕ → ℕ → ℕ → Type 0
AreTwo edges a b = ((edges ≡ a ∷ b ∷ []) × (a < b)) ⊎ ((edges ≡ b ∷ a ∷ []) × (b < a))

-- the pair is one of the network
abbrev pub IsPair : Network → Pair → Type 0
IsPair n (Even side k a b) = (k < n.splitters) × (preferred_at n side k ≡ None) × AreTwo (edges_at n side k) a b
IsPair n (Empty side k a) = (k < n.splitters) × (pairs_at n side k ≡ Empty side k a ∷ [])
IsPair n (Full a cap) = (a < length n.edges) × (cap ≡ cap_at n a)
IsPair n (Loaded i a column) = (i < n.inputs) × (a ≡ input_edge n i) × (column ≡ load_column n i)
IsPair n (Filled o a column) = (o < n.outputs) × (a ≡ output_edge n o) × (column ≡ room_column n o)

-- the edge or the pair that a claim names is one of the network
abbrev pub IsOf : Network → StateLiteral → Type 0
IsOf n (Mark a backed) = a < length n.edges
IsOf n (Says row) = Unit {0}
IsOf n (First pair) = IsPair n pair

abbrev pub AreOf : Network → List (List StateLiteral) → Type 0
AreOf n clauses = AllByRecursion (AllByRecursion (IsOf n)) clauses

-- the families that name no pair
abbrev pub nameless : List ClauseFamily
nameless = bounds ++ pair_families

-- ---- the claims are of the network

module _ (n : Network) (is : IsNetwork n) where
  below : (a : ℕ) (p : Edge → Bool) → IsEdgeWith n p a → a < length n.edges
  below a p h = slice_get_within n.edges a h.0 h.1

  last_of : (t : Bool) (x : ℕ) → x < length n.edges → AllByRecursion (IsOf n) (cond t (First (full n x) ∷ []) [])
  last_of true x l = ((l, refl), tt)
  last_of false x l = tt

  evens_of : (side : Side) (k : ℕ) → k < n.splitters → preferred_at n side k ≡ None → (edges : List ℕ) → edges ≡ edges_at n side k → AllByRecursion (IsEdgeWith n (at_side side k)) edges
      → AreOf n (even_clauses n side k edges)
  evens_of side k l none [] same h = tt
  evens_of side k l none (a ∷ []) same h = tt
  evens_of side k l none (a ∷ b ∷ []) same h =
      let is_two = sym same in
      let less = side_ascends n side k a b is_two in
      let first = below a (at_side side k) h.0 in
      let second = below b (at_side side k) h.1.0 in (
        (first, ((l, none, inl (is_two, less)), last_of (ltb (cap_at n a) (cap_at n b)) a first)),
        ((second, ((l, none, inr (is_two, less)), last_of (ltb (cap_at n b) (cap_at n a)) b second)), tt),
      )
  evens_of side k l none (a ∷ b ∷ c ∷ edges) same h = tt

  prior_of : (side : Side) (k x : ℕ) → k < n.splitters → preferred_at n side k ≡ Some x → (edges : List ℕ) → edges_at n side k ≡ edges → AreOf n (side_clauses (Some x) n side k edges)
  prior_of side k x l first [] same = tt
  prior_of side k x l first (a ∷ []) same = tt
  prior_of side k x l first (a ∷ b ∷ []) same =
      let inside = below x (at_side side k) (preferred_is n is side k x first) in
      let pairs : pairs_at n side k ≡ Empty side k (beside x a b) ∷ [] = ap (λ o. side_pairs o side k (edges_at n side k)) first ∙ ap (side_pairs (Some x) side k) same in
      ((inside, ((inside, refl), ((l, pairs), tt))), tt)
  prior_of side k x l first (a ∷ b ∷ c ∷ edges) same = tt

  sharing_of : (side : Side) (k : ℕ) → k < n.splitters → (o : Option ℕ) → preferred_at n side k ≡ o → AreOf n (side_clauses o n side k (edges_at n side k))
  sharing_of side k l None none = evens_of side k l none (edges_at n side k) refl (side_edges n side k)
  sharing_of side k l (Some x) first = prior_of side k x l first (edges_at n side k) refl

  pairs_of : (pairs : List Pair) → AreOf n (map pair_clause pairs)
  pairs_of pairs = each-map _ (λ x. Unit {0}) pair_clause pairs (each_any pairs) (λ pair t. (tt, (tt, tt)))

  pub at_of : (f : ClauseFamily) (k : ℕ) → k < places n f → AreOf n (clauses_at n f k)
  at_of of.Flows k l = ((tt, tt), ((tt, tt), tt))
  at_of of.Loads k l = ((tt, tt), ((tt, tt), tt))
  at_of of.Rooms k l = ((tt, tt), ((tt, tt), tt))
  at_of of.Conserve k l = ((tt, tt), tt)
  at_of of.OutPairs k l = pairs_of (pairs_at n Out k)
  at_of of.InPairs k l = pairs_of (pairs_at n In k)
  at_of of.FullPairs k l = ((tt, (tt, tt)), tt)
  at_of of.LoadPairs k l = ((tt, (tt, tt)), tt)
  at_of of.RoomPairs k l = ((tt, (tt, tt)), tt)
  at_of of.EvenOut k l = sharing_of Out k l (preferred_at n Out k) refl
  at_of of.EvenIn k l = sharing_of In k l (preferred_at n In k) refl
  at_of of.Backing k l =
      each-flat_map _ _ _ (in_edges n k) (all_below n is (enters k))
      (λ a l. each-map _ _ (backing_clause n a) (out_edges n k) (all_below n is (leaves k)) (λ x m. (l, (m, ((m, refl), tt)))))
  at_of of.Inputs i l = ((tt, tt), ((input_below n is i, ((l, refl, refl), tt)), tt))
  at_of of.Outputs o l = ((tt, tt), ((output_below n is o, ((l, refl, refl), tt)), tt))

  family_of : (f : ClauseFamily) → AreOf n (family_clauses n f)
  family_of f =
      each-flat_map _ (λ k. k < places n f) (clauses_at n f) (range_with_len 0 (places n f)) (each-range (λ k. k < places n f) 0 (places n f) (λ k l m. omega (arith, m)))
      (λ k l. at_of f k l)

  pub all_of : (fs : List ClauseFamily) → AreOf n (flat_map (family_clauses n) fs)
  all_of fs = each-flat_map (AllByRecursion (IsOf n)) (λ x. Unit {0}) (family_clauses n) fs (each_any fs) (λ f t. family_of f)

  loaded_of : AreOf n (loaded_clauses n)
  loaded_of = each-map _ (λ x. Unit {0}) _ (range_with_len 0 n.inputs) (each_any (range_with_len 0 n.inputs)) (λ i t. (tt, tt))

  open_of : AreOf n (open_clauses n)
  open_of = each-map _ (λ x. Unit {0}) _ (range_with_len 0 n.outputs) (each_any (range_with_len 0 n.outputs)) (λ o t. (tt, tt))

  short_of : AreOf n (short_clauses n)
  short_of = ((tt, tt), ((tt, tt), tt))

  unequal_of : (edges : List ℕ) → AllByRecursion (IsOf n) (unequal_clause edges)
  unequal_of [] = tt
  unequal_of (first ∷ others) = each-flat_map _ (λ x. Unit {0}) (differ first) others (each_any others) (λ b t. (tt, (tt, tt)))

  property_of : (p : Property) → AreOf n (property_clauses n p)
  property_of Balanced = each-append (AllByRecursion (IsOf n)) (open_clauses n) (unequal_clause (output_edges n) ∷ []) open_of (unequal_of (output_edges n), tt)
  property_of DrawnEvenly = each-append (AllByRecursion (IsOf n)) (loaded_clauses n) (unequal_clause (input_edges n) ∷ []) loaded_of (unequal_of (input_edges n), tt)
  property_of Unlimited = short_of
  property_of FullProperty = each-three (AllByRecursion (IsOf n)) (loaded_clauses n) (open_clauses n) (short_clauses n) loaded_of open_of short_of
  property_of Fair = tt
  property_of DrawnFairly = tt

  pub flow_of : (p : Property) → AreOf n (flow_clauses n p)
  flow_of p = each-append (AllByRecursion (IsOf n)) (flat_map (family_clauses n) families) (property_clauses n p) (all_of families) (property_of p)

-- ---- the place of a pair's clause

clause_stands : (marks : ℕ) (clauses before after : List (List StateLiteral)) (pair : Pair) → clauses ≡ before ++ pair_clause pair ∷ after
    → IsVariable marks (rows_in clauses) (first_row pair) (marks + length (rows_in before))
clause_stands marks clauses before after pair e =
    record { before = rows_in before; after = opposite_row pair ∷ rows_in after; split = ap rows_in e ∙ flat_map-append (flat_map mentioned) before (pair_clause pair ∷ after); place = refl }

range_split : (a k m : ℕ) → k < m → (rest : List ℕ) × (range_with_len a m ≡ range_with_len a k ++ (a + k) ∷ rest)
range_split a k zero l = absurd (omega arith)
range_split a zero (suc m) l = (range_with_len (a + 1) m, ap (λ x. x ∷ range_with_len (a + 1) m) (let z : a ≡ a + 0 = omega arith in z))
range_split a (suc k) (suc m) l =
    let again = range_split (a + 1) k m (omega arith) in
    (again.0, ap (λ xs. a ∷ xs) (again.1 ∙ ap (λ x. range_with_len (a + 1) k ++ x ∷ again.0) (let z : a + 1 + k ≡ a + suc k = omega arith in z)))

regroup : {X : Type 0} (a b c r z : List X) → a ++ (b ++ (c ++ r) ++ z) ≡ (a ++ b) ++ (c ++ (r ++ z))
regroup a b c r z = simp append_assoc

module _ (n : Network) where
  -- the clauses at a place stand after those before it
  split_at : (before after : List ClauseFamily) (f : ClauseFamily) (k : ℕ) → k < places n f
      → (rest : List (List StateLiteral)) × (flat_map (family_clauses n) (before ++ f ∷ after) ≡ clauses_till n before f k ++ (clauses_at n f k ++ rest))
  split_at before after f k l =
      let r = range_split 0 k (places n f) l in
      let front = flat_map (clauses_at n f) (range_with_len 0 k) in
      let back = flat_map (clauses_at n f) r.0 in
      let whole : family_clauses n f ≡ front ++ (clauses_at n f k ++ back) = ap (flat_map (clauses_at n f)) (r.1 ∙ ap (λ x. range_with_len 0 k ++ x ∷ r.0) (let z : 0 + k ≡ k = omega arith in z))
      ∙ flat_map-append (clauses_at n f) (range_with_len 0 k) (k ∷ r.0) in (
        back ++ flat_map (family_clauses n) after,
        flat_map-append (family_clauses n) before (f ∷ after)
            ∙ ap (λ c. flat_map (family_clauses n) before ++ (c ++ flat_map (family_clauses n) after)) whole
            ∙ regroup (flat_map (family_clauses n) before) front (clauses_at n f k) back (flat_map (family_clauses n) after),
      )

  even_stands : (side : Side) (k a b : ℕ) (clauses till rest : List (List StateLiteral)) (edges : List ℕ) → clauses ≡ till ++ (map pair_clause (even_pairs side k edges) ++ rest) → AreTwo edges a b
      → IsVariable (length n.edges) (rows_in clauses) (first_row (Even side k a b)) (length n.edges + length (rows_in (till ++ lower_first (Even side k b a) a b)))
  even_stands side k a b clauses till rest edges e (inl (two, less)) =
      let pair = Even side k a b in
      let other = Even side k b a in
      let none : lower_first other a b ≡ [] = ap (λ t. cond t [] (pair_clause other ∷ [])) (lt-ltb a b less) in
      clause_stands (length n.edges) clauses (till ++ lower_first other a b) (pair_clause other ∷ rest) pair
      (e ∙ ap (λ l. till ++ (map pair_clause (even_pairs side k l) ++ rest)) two ∙ ap (λ l. l ++ pair_clause pair ∷ pair_clause other ∷ rest) (sym (ap (λ l. till ++ l) none ∙ append-nil till)))
  even_stands side k a b clauses till rest edges e (inr (two, less)) =
      let pair = Even side k a b in
      let other = Even side k b a in
      let one : lower_first other a b ≡ pair_clause other ∷ [] = ap (λ t. cond t [] (pair_clause other ∷ [])) (le-ltb a b (omega (arith, less))) in
      clause_stands (length n.edges) clauses (till ++ lower_first other a b) rest pair
      (e ∙ ap (λ l. till ++ (map pair_clause (even_pairs side k l) ++ rest)) two ∙ sym (append_assoc till (pair_clause other ∷ []) (pair_clause pair ∷ rest))
      ∙ ap (λ l. (till ++ l) ++ pair_clause pair ∷ rest) (sym one))

  pub pair_stands : (pair : Pair) → IsPair n pair → IsVariable (length n.edges) (rows_in (flat_map (family_clauses n) nameless)) (first_row pair) (variable_of n pair)
  pair_stands (Even Out k a b) h =
      let at = split_at bounds (of.InPairs ∷ of.FullPairs ∷ of.LoadPairs ∷ of.RoomPairs ∷ []) of.OutPairs k h.0 in
      let till = clauses_till n bounds of.OutPairs k in
      even_stands Out k a b _ till at.0 (out_edges n k) (at.1 ∙ ap (λ pairs. till ++ (map pair_clause pairs ++ at.0)) (even_at n Out k h.1)) h.2
  pair_stands (Even In k a b) h =
      let before = bounds ++ of.OutPairs ∷ [] in
      let at = split_at before (of.FullPairs ∷ of.LoadPairs ∷ of.RoomPairs ∷ []) of.InPairs k h.0 in
      let till = clauses_till n before of.InPairs k in
      even_stands In k a b _ till at.0 (edges_at n In k) (at.1 ∙ ap (λ pairs. till ++ (map pair_clause pairs ++ at.0)) (even_at n In k h.1)) h.2
  pair_stands (Empty Out k a) h =
      let at = split_at bounds (of.InPairs ∷ of.FullPairs ∷ of.LoadPairs ∷ of.RoomPairs ∷ []) of.OutPairs k h.0 in
      let till = clauses_till n bounds of.OutPairs k in
      clause_stands (length n.edges) _ till at.0 (Empty Out k a) (at.1 ∙ ap (λ pairs. till ++ (map pair_clause pairs ++ at.0)) h.1)
  pair_stands (Empty In k a) h =
      let before = bounds ++ of.OutPairs ∷ [] in
      let at = split_at before (of.FullPairs ∷ of.LoadPairs ∷ of.RoomPairs ∷ []) of.InPairs k h.0 in
      let till = clauses_till n before of.InPairs k in
      clause_stands (length n.edges) _ till at.0 (Empty In k a) (at.1 ∙ ap (λ pairs. till ++ (map pair_clause pairs ++ at.0)) h.1)
  pair_stands (Full a cap) h =
      let before = bounds ++ of.OutPairs ∷ of.InPairs ∷ [] in
      let at = split_at before (of.LoadPairs ∷ of.RoomPairs ∷ []) of.FullPairs a h.0 in
      let till = clauses_till n before of.FullPairs a in
      clause_stands (length n.edges) _ till at.0 (Full a cap) (at.1 ∙ ap (λ c. till ++ pair_clause (Full a c) ∷ at.0) (sym h.1))
  pair_stands (Loaded i a column) h =
      let before = bounds ++ of.OutPairs ∷ of.InPairs ∷ of.FullPairs ∷ [] in
      let at = split_at before (of.RoomPairs ∷ []) of.LoadPairs i h.0 in
      let till = clauses_till n before of.LoadPairs i in
      clause_stands (length n.edges) _ till at.0 (Loaded i a column)
      (at.1 ∙ ap (λ x. till ++ pair_clause (Loaded i x (load_column n i)) ∷ at.0) (sym h.1) ∙ ap (λ x. till ++ pair_clause (Loaded i a x) ∷ at.0) (sym h.2))
  pair_stands (Filled o a column) h =
      let before = bounds ++ of.OutPairs ∷ of.InPairs ∷ of.FullPairs ∷ of.LoadPairs ∷ [] in
      let at = split_at before [] of.RoomPairs o h.0 in
      let till = clauses_till n before of.RoomPairs o in
      clause_stands (length n.edges) _ till at.0 (Filled o a column)
      (at.1 ∙ ap (λ x. till ++ pair_clause (Filled o x (room_column n o)) ∷ at.0) (sym h.1) ∙ ap (λ x. till ++ pair_clause (Filled o a x) ∷ at.0) (sym h.2))

-- ---- so each claim's variable is right, among more rows too

more_rows : (first : ℕ) (rows more : List RowParts) (row : RowParts) (var : ℕ) → IsVariable first rows row var → IsVariable first (rows ++ more) row var
more_rows first rows more row var h =
    record { before = h.before; after = h.after ++ more; split = ap (λ r. r ++ more) h.split ∙ append_assoc h.before (row ∷ h.after) more; place = h.place }

module _ (n : Network) where
  claim_named : (more : List RowParts) (claim : StateLiteral) → IsOf n claim → IsNamed (variable_of n) (length n.edges) (rows_in (flat_map (family_clauses n) nameless) ++ more) claim
  claim_named more (Mark a backed) h = h
  claim_named more (Says row) h = tt
  claim_named more (First pair) h = more_rows (length n.edges) (rows_in (flat_map (family_clauses n) nameless)) more (first_row pair) (variable_of n pair) (pair_stands n pair h)

  claims_named : (more : List RowParts) (claims : List StateLiteral) → AllByRecursion (IsOf n) claims
      → AllByRecursion (IsNamed (variable_of n) (length n.edges) (rows_in (flat_map (family_clauses n) nameless) ++ more)) claims
  claims_named more [] h = tt
  claims_named more (claim ∷ claims) h = (claim_named more claim h.0, claims_named more claims h.1)

  all_named : (more : List RowParts) (clauses : List (List StateLiteral)) → AreOf n clauses
      → AllByRecursion (AllByRecursion (IsNamed (variable_of n) (length n.edges) (rows_in (flat_map (family_clauses n) nameless) ++ more))) clauses
  all_named more [] h = tt
  all_named more (claims ∷ clauses) h = (claims_named more claims h.0, all_named more clauses h.1)

  -- clauses of which those of the nameless families are the first
  after_nameless : (clauses more : List (List StateLiteral)) → flat_map (family_clauses n) nameless ++ more ≡ clauses → AreOf n clauses → AreNamed (variable_of n) (length n.edges) clauses
  after_nameless clauses more e h =
      subst (λ rows. AllByRecursion (AllByRecursion (IsNamed (variable_of n) (length n.edges) rows)) clauses)
      (sym (flat_map-append (flat_map mentioned) (flat_map (family_clauses n) nameless) more) ∙ ap rows_in e) (all_named (rows_in more) clauses h)

pub families_named : (n : Network) → IsNetwork n → AreNamed (variable_of n) (length n.edges) (flat_map (family_clauses n) families)
families_named n is =
    after_nameless n (flat_map (family_clauses n) families) (flat_map (family_clauses n) laws) (sym (flat_map-append (family_clauses n) nameless laws)) (all_of n is families)

pub flow_named : (n : Network) → IsNetwork n → (p : Property) → AreNamed (variable_of n) (length n.edges) (flow_clauses n p)
flow_named n is p =
    after_nameless n (flow_clauses n p) (flat_map (family_clauses n) laws ++ property_clauses n p)
    (sym (append_assoc (flat_map (family_clauses n) nameless) (flat_map (family_clauses n) laws) (property_clauses n p))
    ∙ ap (λ c. c ++ property_clauses n p) (sym (flat_map-append (family_clauses n) nameless laws)))
    (flow_of n is p)
