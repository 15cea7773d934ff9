-- A state that is admissible and steady makes true a claim of each clause of each family.
use Rattle.std.proofs.Common.{◌≡◌, ◌≢◌, ℕ, ◌<◌, ◌≤◌, ◌+◌, ◌*◌, ◌⊎◌, inl, inr, Bool, true, false, IsTrue, Option, Some, None, ℤ, pos, ◌≤ℤ◌, List, [], ◌∷◌, ◌++◌, length, map, get_or, cond, ltb, ap, sym, ◌∙◌, refl, subst, arith, length-append}
use Rattle.std.specs.List.{AllByRecursion, flat_map, range_with_len}
use Rattle.std.proofs.lemmas.Int.{ints}
use Rattle.std.proofs.Math.Bool.{not}
use Rattle.std.proofs.lemmas.Bool.{ltb-false, cases_eq}
use Rattle.std.proofs.lemmas.List.{get_or_append_left, get_or-append-add, get_or_default}
use Rattle.std.proofs.lemmas.Option.{slice_get-get_or, slice_get_within}
use Rattle.bt_frac.specs.Values.{RowHolds}
use Rattle.bt_net.specs.declared.network.Edge.{Edge}
use Rattle.bt_net.specs.Network.{Network, IsNetwork, give_of, merges_any, take_of, leaves, enters}
use Rattle.bt_flow.specs.States.{Flows, IsStateOf, flow_at, backed_at, load_at, room_at, cap_in}
use Rattle.bt_flow.specs.Steady.{HasEdge, IsFull, IsEmpty, IsSteady}
use Rattle.bt_flow.specs.Properties.{IsAdmissible}
use Rattle.bt_flow.proofs.Adding.{no_edge}
use Rattle.bt_flow_formula.specs.declared.state_literal.Side.{Side}
use Rattle.bt_flow_formula.specs.declared.state_literal.Side.TheVariants.{Out, In}
use Rattle.bt_flow_formula.specs.declared.state_literal.Pair.{Pair}
use Rattle.bt_flow_formula.specs.declared.state_literal.Pair.TheVariants.{Even}
use Rattle.bt_flow_formula.specs.declared.state_literal.StateLiteral.{StateLiteral}
use Rattle.bt_flow_formula.specs.declared.state_literal.StateLiteral.TheVariants.{Mark, Says, First}
use Rattle.bt_flow_formula.specs.declared.clause_family.ClauseFamily.{ClauseFamily}
use Rattle.bt_flow_formula.specs.declared.clause_family.ClauseFamily.TheVariants as of
use Rattle.bt_flow.specs.EndEdges.{input_edge, output_edge, cap_at, load_column, room_column}
use Rattle.bt_flow_formula.specs.Columns.{in_edges, out_edges, edges_at, unless_any, preferred_at, at_least, at_most, below as below_cap, beyond, not_below, above}
use Rattle.bt_flow_formula.specs.Families.{clauses_at, places, family_clauses, families, range_clauses, end_clauses, excuse, even_clause, even_clauses, prior_clause, side_clauses, backing_clause}
use Rattle.bt_flow_formula.specs.Pairs.{first_row, pair_clause, beside, side_pairs, full, loaded, filled}
use Rattle.bt_flow_formula.specs.Laws.{HasTrue}
use Rattle.bt_flow_formula.proofs.NetEdges.{IsEdgeWith, edges_with, cap_is, input_is, output_is}
use Rattle.bt_flow_formula.proofs.Orders.{at_most_or}
use Rattle.bt_flow_formula.proofs.Sides.{at_side, side_edges, side_ascends, preferred_is, beside_edge, beside_apart}
use Rattle.bt_flow_formula.proofs.RowValues as rows
use Rattle.bt_flow_formula.proofs.Withins.{each-flat_map, each-map, each-range, each_any}

-- the whole number in a column; behind the columns of the state stands a level
abbrev pub column_of : Flows → ℤ → ℕ → ℤ
column_of s level c = get_or (s.flows ++ s.loads ++ s.rooms) c level

module _ (n : Network) (is : IsNetwork n) (s : Flows) (state : IsStateOf n s) (level : ℤ) where
  abbrev pub w : ℕ → ℤ
  w = column_of s level

  pub flow_column : (a : ℕ) → a < length n.edges → w a ≡ flow_at s a
  flow_column a l =
      let f = state.flows in
      let more = length-append s.flows s.loads in
      get_or_append_left (s.flows ++ s.loads) s.rooms level a (omega (arith, f, more, l)) ∙ get_or_append_left s.flows s.loads level a (omega (arith, f, l))
      ∙ get_or_default s.flows a level (pos 0) (omega (arith, f, l))

  pub load_column_is : (i : ℕ) → i < n.inputs → w (load_column n i) ≡ load_at s i
  load_column_is i l =
      let f = state.flows in
      let g = state.loads in
      let more = length-append s.flows s.loads in
      get_or_append_left (s.flows ++ s.loads) s.rooms level (length n.edges + i) (omega (arith, f, g, more, l))
      ∙ ap (λ k. get_or (s.flows ++ s.loads) (k + i) level) (sym f) ∙ get_or-append-add s.flows s.loads i level ∙ get_or_default s.loads i level (pos 0) (omega (arith, g, l))

  pub room_column_is : (o : ℕ) → o < n.outputs → w (room_column n o) ≡ room_at s o
  room_column_is o l =
      let f = state.flows in
      let g = state.loads in
      let r = state.rooms in
      let more = length-append s.flows s.loads in
      ap (λ k. get_or (s.flows ++ s.loads ++ s.rooms) (k + o) level) (let e : length n.edges + n.inputs ≡ length (s.flows ++ s.loads) = omega (arith, f, g, more) in e)
      ∙ get_or-append-add (s.flows ++ s.loads) s.rooms o level ∙ get_or_default s.rooms o level (pos 0) (omega (arith, r, l))

mul_mono : (m n d : ℕ) → m ≤ n → m * d ≤ n * d
mul_mono m n d l = grind arith

same_or_not : (m mark : Bool) → (m ≡ mark) ⊎ (m ≡ not mark)
same_or_not true true = inl refl
same_or_not true false = inr refl
same_or_not false true = inr refl
same_or_not false false = inl refl

module _ (n : Network) (is : IsNetwork n) (s : Flows) (state : IsStateOf n s) (level : ℤ) (steady : IsSteady n s) where
  abbrev pub True : List StateLiteral → Type 0
  True claims = HasTrue (backed_at s) (rows.over (w n is s state level) s.denominator) claims

  abbrev pub AllTrue : List (List StateLiteral) → Type 0
  AllTrue clauses = AllByRecursion True clauses

  range_true : (c k : ℕ) → pos 0 ≤ℤ w n is s state level c → w n is s state level c ≤ℤ pos (k * s.denominator) → AllTrue (range_clauses c k)
  range_true c k low high =
      let zero_is : pos (0 * s.denominator) ≡ pos 0 = omega (arith, ints) in
      let least = subst (λ z. z ≤ℤ w n is s state level c) (sym zero_is) low in
      (inl (rows.at_least_holds (w n is s state level) s.denominator state.positive c 0 least), (inl (rows.at_most_holds (w n is s state level) s.denominator state.positive c k high), tt))

  there : (a : ℕ) → a < length n.edges → HasEdge n a (get_or n.edges a no_edge)
  there a l = slice_get-get_or n.edges a no_edge l

  below : (a : ℕ) (e : Edge) → HasEdge n a e → a < length n.edges
  below a e h = slice_get_within n.edges a e h

  pub flow_is : (a : ℕ) (e : Edge) → HasEdge n a e → w n is s state level a ≡ flow_at s a
  flow_is a e h = flow_column n is s state level a (below a e h)

  pub cap_over : (a : ℕ) (e : Edge) → HasEdge n a e → pos (cap_at n a * s.denominator) ≡ cap_in s e
  cap_over a e h = ap (λ c. pos (c * s.denominator)) (cap_is n a e h)

  -- one flow is at least another
  not_below_true : (a b : ℕ) (e f : Edge) → HasEdge n a e → HasEdge n b f → flow_at s b ≤ℤ flow_at s a → RowHolds (not_below a b) (rows.over (w n is s state level) s.denominator)
  not_below_true a b e f h g l =
      let x = flow_is a e h in
      let y = flow_is b f g in
      rows.not_below_holds (w n is s state level) s.denominator state.positive a b (omega (arith, ints, x, y, l))

  full_true : (a : ℕ) (e : Edge) → HasEdge n a e → flow_at s a ≡ cap_in s e → RowHolds (at_least a (cap_at n a)) (rows.over (w n is s state level) s.denominator)
  full_true a e h full =
      let x = flow_is a e h in
      let c = cap_over a e h in
      rows.at_least_holds (w n is s state level) s.denominator state.positive a (cap_at n a) (omega (arith, ints, x, c, full))

  pub flows_true : (a : ℕ) → a < length n.edges → AllTrue (clauses_at n of.Flows a)
  flows_true a l =
      let e = get_or n.edges a no_edge in
      let h = there a l in
      let x = flow_is a e h in
      let c = cap_over a e h in
      let r = steady.range a l e h in
      let low = r.0 in
      let high = r.1 in
      range_true a (cap_at n a) (omega (arith, ints, x, low)) (omega (arith, ints, x, c, high))

  pub conserve_true : (k : ℕ) → k < n.splitters → AllTrue (clauses_at n of.Conserve k)
  conserve_true k l =
      (inl (rows.conserve_holds (w n is s state level) s.denominator state.positive k n.edges s.flows state.flows (λ i b. flow_column n is s state level i b) (steady.conserve k l)), tt)

  pub loads_true : IsAdmissible n s → (i : ℕ) → i < n.inputs → AllTrue (clauses_at n of.Loads i)
  loads_true admits i l =
      let edge = input_is n is i l in
      let x = load_column_is n is s state level i l in
      let c = cap_over (input_edge n i) edge.0 edge.1 in
      let r = admits.loads i l (input_edge n i) edge.0 edge.1 edge.2 in
      let low = r.0 in
      let high = r.1 in
      range_true (load_column n i) (cap_at n (input_edge n i)) (omega (arith, ints, x, low)) (omega (arith, ints, x, c, high))

  pub rooms_true : IsAdmissible n s → (o : ℕ) → o < n.outputs → AllTrue (clauses_at n of.Rooms o)
  rooms_true admits o l =
      let edge = output_is n is o l in
      let x = room_column_is n is s state level o l in
      let c = cap_over (output_edge n o) edge.0 edge.1 in
      let r = admits.rooms o l (output_edge n o) edge.0 edge.1 edge.2 in
      let low = r.0 in
      let high = r.1 in
      range_true (room_column n o) (cap_at n (output_edge n o)) (omega (arith, ints, x, low)) (omega (arith, ints, x, c, high))

  end_true : (c a : ℕ) (mark : Bool) (pair : Pair) → first_row pair ≡ not_below a c → w n is s state level a ≤ℤ w n is s state level c
      → (backed_at s a ≡ not mark → w n is s state level c ≤ℤ w n is s state level a) → AllTrue (end_clauses c a mark pair)
  end_true c a mark pair same most least = (
    inl (rows.not_below_holds (w n is s state level) s.denominator state.positive c a most),
    (
      elim (same_or_not (backed_at s a) mark) [
        | inl x ↦ inl x
        | inr y ↦ inr (inl (subst (λ row. RowHolds row (rows.over (w n is s state level) s.denominator)) (sym same) (rows.not_below_holds (w n is s state level) s.denominator state.positive a c (least y))))
      ],
      tt,
    ),
  )

  pub inputs_true : (i : ℕ) → i < n.inputs → AllTrue (clauses_at n of.Inputs i)
  inputs_true i l =
      let a = input_edge n i in
      let edge = input_is n is i l in
      let x = load_column_is n is s state level i l in
      let y = flow_is a edge.0 edge.1 in
      let law = steady.input i l a edge.0 edge.1 edge.2 in
      let most = law.0 in
      end_true (load_column n i) a true (loaded n i) refl (omega (arith, ints, x, y, most)) (λ free. let same = law.1 free in omega (arith, ints, x, y, same))

  pub outputs_true : (o : ℕ) → o < n.outputs → AllTrue (clauses_at n of.Outputs o)
  outputs_true o l =
      let a = output_edge n o in
      let edge = output_is n is o l in
      let x = room_column_is n is s state level o l in
      let y = flow_is a edge.0 edge.1 in
      let law = steady.output o l a edge.0 edge.1 edge.2 in
      let most = law.0 in
      end_true (room_column n o) a false (filled n o) refl (omega (arith, ints, x, y, most)) (λ backed. let same = law.1 backed in omega (arith, ints, x, y, same))

  full_clause : (side : Side) (k a b : ℕ) (e f : Edge) → HasEdge n a e → HasEdge n b f → IsFull s a e → (t : Bool) → ltb (cap_at n a) (cap_at n b) ≡ t
      → True (Mark a (excuse side) ∷ First (Even side k a b) ∷ cond t (First (full n a) ∷ []) [])
  full_clause side k a b e f h g is_full true u = inr (inr (inl (full_true a e h is_full)))
  full_clause side k a b e f h g is_full false u =
      let x = cap_over a e h in
      let y = cap_over b f g in
      let high = (steady.range b (below b f g) f g).1 in
      let caps = mul_mono (cap_at n b) (cap_at n a) s.denominator (ltb-false (cap_at n a) (cap_at n b) u) in
      inr (inl (not_below_true a b e f h g (omega (arith, ints, x, y, high, caps, is_full))))

  even_true : (side : Side) (k a b : ℕ) (e f : Edge) → HasEdge n a e → HasEdge n b f
      → (b ≢ a → backed_at s a ≡ not (excuse side) → (flow_at s b ≤ℤ flow_at s a) ⊎ IsFull s a e) → True (even_clause n side k a b)
  even_true side k a b e f h g law =
      elim (same_or_not (backed_at s a) (excuse side)) [
        | inl x ↦ inl x
        | inr y ↦ elim (cases_eq b a) [
          | inl same ↦ let z : flow_at s b ≡ flow_at s a = ap (flow_at s) same in inr (inl (not_below_true a b e f h g (omega (arith, ints, z))))
          | inr other ↦ elim (law other y) [
            | inl l ↦ inr (inl (not_below_true a b e f h g l))
            | inr is_full ↦ full_clause side k a b e f h g is_full (ltb (cap_at n a) (cap_at n b)) refl
          ]
        ]
      ]

  evens_true : (p : Edge → Bool) (side : Side) (k : ℕ)
      → ((a b : ℕ) (e f : Edge) → HasEdge n a e → HasEdge n b f → IsTrue (p e) → IsTrue (p f) → b ≢ a → backed_at s a ≡ not (excuse side) → (flow_at s b ≤ℤ flow_at s a) ⊎ IsFull s a e)
      → (edges : List ℕ) → AllByRecursion (IsEdgeWith n p) edges → AllTrue (even_clauses n side k edges)
  evens_true p side k law [] h = tt
  evens_true p side k law (a ∷ []) h = tt
  evens_true p side k law (a ∷ b ∷ []) h =
      let x = h.0 in
      let y = h.1.0 in
      (even_true side k a b x.0 y.0 x.1 y.1 (λ o m. law a b x.0 y.0 x.1 y.1 x.2 y.2 o m), (even_true side k b a y.0 x.0 y.1 x.1 (λ o m. law b a y.0 x.0 y.1 x.1 y.2 x.2 o m), tt))
  evens_true p side k law (a ∷ b ∷ c ∷ edges) h = tt

  even_out_true : (k : ℕ) → give_of n k ≡ None → AllTrue (even_clauses n Out k (out_edges n k))
  even_out_true k none =
      evens_true (leaves k) Out k (λ a b e f h g p q o m. steady.even_out a (below a e h) k b e f h g o p q none m) (out_edges n k) (edges_with n (leaves k))

  even_in_true : (k : ℕ) (any : Bool) → merges_any n k ≡ any → take_of n k ≡ None → AllTrue (even_clauses n In k (unless_any any (in_edges n k)))
  even_in_true k true any none = tt
  even_in_true k false even none =
      evens_true (enters k) In k (λ a b e f h g p q o m. steady.even_in a (below a e h) k b e f h g o p q (none, even) m) (in_edges n k) (edges_with n (enters k))

  empty_true : (b : ℕ) (f : Edge) → HasEdge n b f → IsEmpty s b → RowHolds (at_most b 0) (rows.over (w n is s state level) s.denominator)
  empty_true b f g empty =
      let y = flow_is b f g in
      let zero_is : pos (0 * s.denominator) ≡ pos 0 = omega (arith, ints) in
      rows.at_most_holds (w n is s state level) s.denominator state.positive b 0 (omega (arith, ints, y, zero_is, empty))

  -- a preferred edge comes first
  comes_first : (side : Side) (k x y : ℕ) (e f : Edge) → HasEdge n x e → HasEdge n y f → IsTrue (at_side side k e) → IsTrue (at_side side k f) → y ≢ x → preferred_at n side k ≡ Some x
      → backed_at s x ≡ not (excuse side) → IsEmpty s y ⊎ IsFull s x e
  comes_first Out k x y e f h g p q o first m = steady.prior_out x (below x e h) k y e f h g o p q first m
  comes_first In k x y e f h g p q o first m = steady.prior_in x (below x e h) k y e f h g o p q first m

  prior_true : (side : Side) (k x y : ℕ) → IsEdgeWith n (at_side side k) x → IsEdgeWith n (at_side side k) y → y ≢ x → preferred_at n side k ≡ Some x → True (prior_clause n side k x y)
  prior_true side k x y e f o first = elim (same_or_not (backed_at s x) (excuse side)) [
    | inl marked ↦ inl marked
    | inr other ↦ elim (comes_first side k x y e.0 f.0 e.1 f.1 e.2 f.2 o first other) [
      | inl empty ↦ inr (inr (inl (empty_true y f.0 f.1 empty)))
      | inr is_full ↦ inr (inl (full_true x e.0 e.1 is_full))
    ]
  ]

  priors_true : (side : Side) (k x : ℕ) → preferred_at n side k ≡ Some x → (edges : List ℕ) → edges_at n side k ≡ edges → AllByRecursion (IsEdgeWith n (at_side side k)) edges
      → AllTrue (side_clauses (Some x) n side k edges)
  priors_true side k x first [] same h = tt
  priors_true side k x first (a ∷ []) same h = tt
  priors_true side k x first (a ∷ b ∷ []) same h = (
    prior_true side k x (beside x a b) (preferred_is n is side k x first) (beside_edge (IsEdgeWith n (at_side side k)) x a b h.0 h.1.0) (beside_apart x a b (side_ascends n side k a b same)) first,
    tt,
  )
  priors_true side k x first (a ∷ b ∷ c ∷ edges) same h = tt

  sharing_true : (side : Side) (k : ℕ) (o : Option ℕ) → preferred_at n side k ≡ o → AllTrue (side_clauses o n side k (edges_at n side k))
  sharing_true Out k None none = even_out_true k none
  sharing_true In k None none = even_in_true k (merges_any n k) refl none
  sharing_true side k (Some x) first = priors_true side k x first (edges_at n side k) refl (side_edges n side k)

  -- the order of whole numbers is total, so of each pair a row holds
  two_true : (a b : ℕ) → True (Says (not_below a b) ∷ Says (above b a) ∷ [])
  two_true a b =
      elim (at_most_or (w n is s state level b) (w n is s state level a)) [
        | inl l ↦ inl (rows.not_below_holds (w n is s state level) s.denominator state.positive a b l)
        | inr g ↦ inr (inl (rows.above_holds (w n is s state level) s.denominator state.positive b a g))
      ]

  full_or_not : (a cap : ℕ) → True (Says (at_least a cap) ∷ Says (below_cap a cap) ∷ [])
  full_or_not a cap =
      elim (at_most_or (pos (cap * s.denominator)) (w n is s state level a)) [
        | inl l ↦ inl (rows.at_least_holds (w n is s state level) s.denominator state.positive a cap l)
        | inr g ↦ inr (inl (rows.below_holds (w n is s state level) s.denominator state.positive a cap g))
      ]

  empty_or_not : (b : ℕ) → True (Says (at_most b 0) ∷ Says (beyond b 0) ∷ [])
  empty_or_not b =
      elim (at_most_or (w n is s state level b) (pos (0 * s.denominator))) [
        | inl l ↦ inl (rows.at_most_holds (w n is s state level) s.denominator state.positive b 0 l)
        | inr g ↦ inr (inl (rows.beyond_holds (w n is s state level) s.denominator state.positive b 0 g))
      ]

  pairs_true : (o : Option ℕ) (side : Side) (k : ℕ) (edges : List ℕ) → AllTrue (map pair_clause (side_pairs o side k edges))
  pairs_true None side k [] = tt
  pairs_true None side k (a ∷ []) = tt
  pairs_true None side k (a ∷ b ∷ []) = (two_true a b, (two_true b a, tt))
  pairs_true None side k (a ∷ b ∷ c ∷ edges) = tt
  pairs_true (Some x) side k [] = tt
  pairs_true (Some x) side k (a ∷ []) = tt
  pairs_true (Some x) side k (a ∷ b ∷ []) = (empty_or_not (beside x a b), tt)
  pairs_true (Some x) side k (a ∷ b ∷ c ∷ edges) = tt

  back_true : (k a x : ℕ) → IsEdgeWith n (enters k) a → IsEdgeWith n (leaves k) x → True (backing_clause n a x)
  back_true k a x i o =
      elim (same_or_not (backed_at s a) false) [
        | inl free ↦ inl free
        | inr backed ↦ elim (steady.backing a (below a i.0 i.1) k x i.0 o.0 i.1 o.1 i.2 o.2 backed) [
          | inl also ↦ inr (inl also)
          | inr full ↦ inr (inr (inl (full_true x o.0 o.1 full)))
        ]
      ]

  pub backing_true : (k : ℕ) → AllTrue (clauses_at n of.Backing k)
  backing_true k =
      each-flat_map True (IsEdgeWith n (enters k)) (λ a. map (backing_clause n a) (out_edges n k)) (in_edges n k) (edges_with n (enters k))
      (λ a i. each-map True (IsEdgeWith n (leaves k)) (backing_clause n a) (out_edges n k) (edges_with n (leaves k)) (λ x o. back_true k a x i o))

  at_true : IsAdmissible n s → (f : ClauseFamily) (k : ℕ) → k < places n f → AllTrue (clauses_at n f k)
  at_true admits of.Flows k l = flows_true k l
  at_true admits of.Loads k l = loads_true admits k l
  at_true admits of.Rooms k l = rooms_true admits k l
  at_true admits of.Conserve k l = conserve_true k l
  at_true admits of.OutPairs k l = pairs_true (preferred_at n Out k) Out k (out_edges n k)
  at_true admits of.InPairs k l = pairs_true (preferred_at n In k) In k (edges_at n In k)
  at_true admits of.FullPairs k l = (full_or_not k (cap_at n k), tt)
  at_true admits of.LoadPairs k l = (two_true (input_edge n k) (load_column n k), tt)
  at_true admits of.RoomPairs k l = (two_true (output_edge n k) (room_column n k), tt)
  at_true admits of.EvenOut k l = sharing_true Out k (preferred_at n Out k) refl
  at_true admits of.EvenIn k l = sharing_true In k (preferred_at n In k) refl
  at_true admits of.Backing k l = backing_true k
  at_true admits of.Inputs k l = inputs_true k l
  at_true admits of.Outputs k l = outputs_true k l

  family_true : IsAdmissible n s → (f : ClauseFamily) → AllTrue (family_clauses n f)
  family_true admits f =
      each-flat_map True (λ k. k < places n f) (clauses_at n f) (range_with_len 0 (places n f)) (each-range (λ k. k < places n f) 0 (places n f) (λ k l m. omega (arith, m)))
      (λ k l. at_true admits f k l)

  pub families_true : IsAdmissible n s → AllTrue (flat_map (family_clauses n) families)
  families_true admits = each-flat_map True (λ f. Unit {0}) (family_clauses n) families (each_any families) (λ f t. family_true admits f)
