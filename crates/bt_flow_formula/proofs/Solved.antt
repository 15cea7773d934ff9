-- An assignment with values that meets the flow formula of a network and a property is of states that break it.
use Rattle.std.proofs.Common.{◌≡◌, ◌≢◌, ℕ, ◌<◌, ◌≤◌, ◌+◌, ◌*◌, ◌⊎◌, inl, inr, Bool, true, false, not, IsTrue, Some, ℤ, pos, ◌≤ℤ◌, ◌<ℤ◌, List, [], ◌∷◌, ◌++◌, length, map, cond, ltb, ap, sym, ◌∙◌, refl, subst, arith}
use Rattle.std.specs.List.{AllByRecursion, flat_map, range_with_len}
use Rattle.std.proofs.lemmas.Int.{ints}
use Rattle.std.proofs.lemmas.Bool.{false≢true}
use Rattle.std.proofs.lemmas.Option.{slice_get_within, get_or_from_slice_get}
use Rattle.bt_frac.specs.Ratio.{Ratio}
use Rattle.bt_frac.specs.Values.{AreValues, RowHolds}
use Rattle.bt_net.specs.declared.network.Edge.{Edge}
use Rattle.bt_net.specs.Network.{Network, IsNetwork, leaves, enters}
use Rattle.bt_flow.specs.declared.ports.End.TheVariants.{Input, Output}
use Rattle.bt_flow.specs.declared.ports.Role.{Role}
use Rattle.bt_flow.specs.declared.ports.Role.TheVariants.{OutOf, Into}
use Rattle.bt_flow.specs.declared.property.Property.{Property}
use Rattle.bt_flow.specs.declared.property.Property.TheVariants.{Balanced, DrawnEvenly, Unlimited, Full, Fair, DrawnFairly}
use Rattle.bt_flow.specs.Ports.{numbers_where, plays}
use Rattle.bt_flow.specs.States.{Flows, flow_at, backed_at, load_at, room_at, cap_in}
use Rattle.bt_flow.specs.Steady.{HasEdge, IsFull, IsEmpty, KeepsRange, Conserves, EvensOut, EvensIn, GivesFirst, TakesFirst, Backs, FeedsInput, FillsOutput, IsSteady, sum_where}
use Rattle.bt_flow.specs.Properties as properties
use Rattle.bt_flow.specs.Properties.{AdmitsLoad, AdmitsRoom, IsAdmissible, IsLoaded, IsOpen, IsLesser, HasEqualOutputs, HasEqualInputs, PassesAll, Concludes, Breaks, is_last, total}
use Rattle.bt_flow.proofs.Adding.{no_edge}
use Rattle.bt_flow.proofs.Each.{numbers_all}
use Rattle.bt_flow.proofs.Numbers.{length-numbers_where, few_at, within, ends_of}
use Rattle.bt_flow_formula.specs.declared.state_literal.Side.{Side}
use Rattle.bt_flow_formula.specs.declared.state_literal.Side.TheVariants.{Out, In}
use Rattle.bt_flow_formula.specs.declared.state_literal.Pair.{Pair}
use Rattle.bt_flow_formula.specs.declared.state_literal.StateLiteral.{StateLiteral}
use Rattle.bt_flow_formula.specs.declared.state_literal.StateLiteral.TheVariants.{Says, First}
use Rattle.bt_flow_formula.specs.declared.clause_family.ClauseFamily.{ClauseFamily}
use Rattle.bt_flow_formula.specs.declared.clause_family.ClauseFamily.TheVariants as of
use Rattle.bt_flow.specs.EndEdges.{input_edge, output_edge, input_edges, output_edges, cap_at, load_column, room_column}
use Rattle.bt_flow_formula.specs.Columns.{in_edges, out_edges, edges_at, unless_any, at_least, not_below}
use Rattle.bt_flow_formula.specs.Families.{clauses_at, places, family_clauses, families, range_clauses, end_clauses, excuse, even_clause, even_clauses, prior_clause, side_clauses, backing_clause}
use Rattle.bt_flow_formula.specs.Pairs.{first_row, full, filled}
use Rattle.bt_flow_formula.specs.Pairs.{loaded as has_load}
use Rattle.bt_flow_formula.specs.Properties.{property_clauses, loaded_clauses, open_clauses, short_clauses, unequal_clause, differ}
use Rattle.bt_cnf.specs.Meeting.{Meets}
use Rattle.bt_flow_formula.specs.Numbering.{formula_of}
use Rattle.bt_flow_formula.specs.FlowFormula.{steady_clauses, flow_clauses, flow_formula, variable_of}
use Rattle.bt_flow_formula.specs.Laws.{HasTrue}
use Rattle.bt_flow_formula.specs.Solutions.{HasValues, MeetingBreaks, MeetingIsSteady}
use Rattle.bt_flow_formula.proofs.Withins.{each-left, each-right, each-map, each-range, from_flat_map, from_map, at_range, in_range}
use Rattle.bt_flow_formula.proofs.NetEdges.{cap_is, input_is, output_is, edge_of_input, edge_of_output}
use Rattle.bt_flow_formula.proofs.RowValues.{At, AllAt, at_least_says, at_most_says, not_below_says, above_says, conserve_says, above_outputs_says}
use Rattle.bt_flow_formula.proofs.Claimed.{met_claims}
use Rattle.bt_flow_formula.proofs.Sides.{beside_other, even_where_named}
use Rattle.bt_flow_formula.proofs.Named.{families_named, flow_named}
use Rattle.bt_flow_formula.proofs.Leveled.{base_met, level_met, level_fails}

never_both : (x y : Bool) → x ≡ y → x ≡ not y → ⊥
never_both true true p q = false≢true (sym q)
never_both true false p q = false≢true (sym p)
never_both false true p q = false≢true p
never_both false false p q = false≢true q

not_lesser : (z x y : ℤ) → z <ℤ x → z <ℤ y → IsLesser z x y → ⊥
not_lesser z x y l m (inl h) = let e = h.0 in omega (arith, ints, l, e)
not_lesser z x y l m (inr h) = let e = h.0 in omega (arith, ints, m, e)

module _ (n : Network) (is : IsNetwork n) (f : ℕ → Bool) (v : ℕ → Ratio) (s : Flows) (some : AreValues v) (has : HasValues n s f v) where
  abbrev True : List StateLiteral → Type 0
  True claims = HasTrue f v claims

  abbrev AllTrue : List (List StateLiteral) → Type 0
  AllTrue clauses = AllByRecursion True clauses

  abbrev IsAt : ℕ → ℤ → Type 0
  IsAt c x = At v s.denominator has.state.positive c x

  flow_is : (a : ℕ) → a < length n.edges → IsAt a (flow_at s a)
  flow_is a l = (some a, has.flows a l)

  load_is : (i : ℕ) → i < n.inputs → IsAt (load_column n i) (load_at s i)
  load_is i l = (some (load_column n i), has.loads i l)

  room_is : (o : ℕ) → o < n.outputs → IsAt (room_column n o) (room_at s o)
  room_is o l = (some (room_column n o), has.rooms o l)

  flows_are : AllAt v s.denominator has.state.positive 0 s.flows
  flows_are = λ i l. let long = has.state.flows in subst (λ c. IsAt c (flow_at s i)) (let z : i ≡ 0 + i = omega arith in z) (flow_is i (omega (arith, long, l)))

  loads_are : AllAt v s.denominator has.state.positive (load_column n 0) s.loads
  loads_are = λ i l. let long = has.state.loads in subst (λ c. IsAt c (load_at s i)) (let z : load_column n i ≡ load_column n 0 + i = omega arith in z) (load_is i (omega (arith, long, l)))

  rooms_are : AllAt v s.denominator has.state.positive (room_column n 0) s.rooms
  rooms_are = λ o l. let long = has.state.rooms in subst (λ c. IsAt c (room_at s o)) (let z : room_column n o ≡ room_column n 0 + o = omega arith in z) (room_is o (omega (arith, long, l)))

  below : (a : ℕ) (e : Edge) → HasEdge n a e → a < length n.edges
  below a e h = slice_get_within n.edges a e h

  cap_over : (a : ℕ) (e : Edge) → HasEdge n a e → pos (cap_at n a * s.denominator) ≡ cap_in s e
  cap_over a e h = ap (λ c. pos (c * s.denominator)) (cap_is n a e h)

  -- the row of a clause of one claim holds
  holds_alone : {P : Type 0} → P ⊎ ⊥ → P
  holds_alone (inl h) = h
  holds_alone (inr h) = absurd h

  range_said : (c k : ℕ) (x : ℤ) → IsAt c x → AllTrue (range_clauses c k) → (pos 0 ≤ℤ x) × (x ≤ℤ pos (k * s.denominator))
  range_said c k x at h =
      let low = (at_least_says v s.denominator has.state.positive c 0 x at).0 (holds_alone h.0) in
      let zero_is : pos (0 * s.denominator) ≡ pos 0 = omega (arith, ints) in
      (subst (λ z. z ≤ℤ x) zero_is low, (at_most_says v s.denominator has.state.positive c k x at).0 (holds_alone h.1.0))

  end_said : (c a : ℕ) (x y : ℤ) (mark : Bool) (pair : Pair) → first_row pair ≡ not_below a c → IsAt c x → IsAt a y → AllTrue (end_clauses c a mark pair)
      → (y ≤ℤ x) × (f a ≡ not mark → y ≡ x)
  end_said c a x y mark pair same at_c at_a h =
      let most = (not_below_says v s.denominator has.state.positive c a x y at_c at_a).0 (holds_alone h.0) in (
        most,
        λ m. elim h.1.0 [
          | inl marked ↦ absurd (never_both (f a) mark marked m)
          | inr rest ↦
              let row = subst (λ r. RowHolds r v) same (holds_alone rest) in
              let least = (not_below_says v s.denominator has.state.positive a c y x at_a at_c).0 row in
              omega (arith, ints, most, least)
        ],
      )

  module _ (all : (g : ClauseFamily) (k : ℕ) → k < places n g → AllTrue (clauses_at n g k)) where
    range : (a : ℕ) → a < length n.edges → KeepsRange n s a
    range a l = λ e h.
        let r = range_said a (cap_at n a) (flow_at s a) (flow_is a l) (all of.Flows a l) in
        (r.0, subst (λ z. flow_at s a ≤ℤ z) (cap_over a e h) r.1)

    full_said : (a : ℕ) (e : Edge) → HasEdge n a e → RowHolds (at_least a (cap_at n a)) v → IsFull s a e
    full_said a e h row =
        let least = (at_least_says v s.denominator has.state.positive a (cap_at n a) (flow_at s a) (flow_is a (below a e h))).0 row in
        let most = (range a (below a e h) e h).1 in
        let cap = cap_over a e h in
        omega (arith, ints, least, most, cap)

    conserve : (k : ℕ) → k < n.splitters → Conserves n s k
    conserve k l = (conserve_says v s.denominator has.state.positive k n.edges s.flows has.state.flows flows_are).0 (holds_alone (all of.Conserve k l).0)

    last_said : (t : Bool) (a : ℕ) (e : Edge) → HasEdge n a e → True (cond t (First (full n a) ∷ []) []) → IsFull s a e
    last_said true a e h said = full_said a e h (holds_alone said)
    last_said false a e h said = absurd said

    even_said : (side : Side) (i a b : ℕ) (e g : Edge) → HasEdge n a e → HasEdge n b g → backed_at s a ≡ not (excuse side) → True (even_clause n side i a b) → (flow_at s b ≤ℤ flow_at s a) ⊎ IsFull s a e
    even_said side i a b e g h k m (inl marked) = absurd (never_both (f a) (excuse side) marked (sym (has.marks a (below a e h)) ∙ m))
    even_said side i a b e g h k m (inr (inl row)) =
        inl ((not_below_says v s.denominator has.state.positive a b (flow_at s a) (flow_at s b) (flow_is a (below a e h)) (flow_is b (below b g k))).0 row)
    even_said side i a b e g h k m (inr (inr last)) = inr (last_said (ltb (cap_at n a) (cap_at n b)) a e h last)

    prior_said : (side : Side) (i a b : ℕ) (e g : Edge) → HasEdge n a e → HasEdge n b g → backed_at s a ≡ not (excuse side) → True (prior_clause n side i a b) → IsEmpty s b ⊎ IsFull s a e
    prior_said side i a b e g h k m (inl marked) = absurd (never_both (f a) (excuse side) marked (sym (has.marks a (below a e h)) ∙ m))
    prior_said side i a b e g h k m (inr (inl row)) = inr (full_said a e h row)
    prior_said side i a b e g h k m (inr (inr last)) =
        let zero_is : pos (0 * s.denominator) ≡ pos 0 = omega (arith, ints) in
        let most = (at_most_says v s.denominator has.state.positive b 0 (flow_at s b) (flow_is b (below b g k))).0 (holds_alone last) in
        let least = (range b (below b g k) g k).0 in
        inl (omega (arith, ints, zero_is, most, least))

    -- an edge that passes a test is one of the listed
    listed : (p : Edge → Bool) (P : ℕ → Type 0) (numbers : List ℕ) → numbers ≡ numbers_where p 0 n.edges → AllByRecursion P numbers → (a : ℕ) (e : Edge) → HasEdge n a e → IsTrue (p e) → P a
    listed p P numbers same h a e is t =
        subst P (let z : 0 + a ≡ a = omega arith in z) (numbers_all p P 0 n.edges (subst (AllByRecursion P) same h) a e is t)

    pair_said : (p : Edge → Bool) (side : Side) (i : ℕ) (numbers : List ℕ) → numbers ≡ numbers_where p 0 n.edges → length numbers ≤ 2 → AllTrue (even_clauses n side i numbers)
        → (a b : ℕ) (e g : Edge) → HasEdge n a e → HasEdge n b g → IsTrue (p e) → IsTrue (p g) → b ≢ a → True (even_clause n side i a b)
    pair_said p side i [] same few said a b e g h k t u o = absurd (listed p (λ x. ⊥) [] same tt a e h t)
    pair_said p side i (c ∷ []) same few said a b e g h k t u o =
        absurd (o (listed p (λ x. x ≡ c) (c ∷ []) same (refl, tt) b g k u ∙ sym (listed p (λ x. x ≡ c) (c ∷ []) same (refl, tt) a e h t)))
    pair_said p side i (c ∷ d ∷ []) same few said a b e g h k t u o =
        let first = listed p (λ x. (x ≡ c) ⊎ (x ≡ d)) (c ∷ d ∷ []) same (inl refl, (inr refl, tt)) a e h t in
        let second = listed p (λ x. (x ≡ c) ⊎ (x ≡ d)) (c ∷ d ∷ []) same (inl refl, (inr refl, tt)) b g k u in
        elim first [
          | inl x ↦ elim second [
            | inl y ↦ absurd (o (y ∙ sym x))
            | inr y ↦ subst (λ z. True (even_clause n side i z b)) (sym x) (subst (λ z. True (even_clause n side i c z)) (sym y) said.0)
          ]
          | inr x ↦ elim second [
            | inl y ↦ subst (λ z. True (even_clause n side i z b)) (sym x) (subst (λ z. True (even_clause n side i d z)) (sym y) said.1.0)
            | inr y ↦ absurd (o (y ∙ sym x))
          ]
        ]
    pair_said p side i (c ∷ d ∷ j ∷ numbers) same few said a b e g h k t u o = absurd (omega arith)

    prior_pair : (p : Edge → Bool) (side : Side) (i : ℕ) (numbers : List ℕ) → numbers ≡ numbers_where p 0 n.edges → length numbers ≤ 2
        → (a b : ℕ) (e g : Edge) → HasEdge n a e → HasEdge n b g → IsTrue (p e) → IsTrue (p g) → b ≢ a → AllTrue (side_clauses (Some a) n side i numbers) → True (prior_clause n side i a b)
    prior_pair p side i [] same few a b e g h k t u o said = absurd (listed p (λ x. ⊥) [] same tt a e h t)
    prior_pair p side i (c ∷ []) same few a b e g h k t u o said =
        absurd (o (listed p (λ x. x ≡ c) (c ∷ []) same (refl, tt) b g k u ∙ sym (listed p (λ x. x ≡ c) (c ∷ []) same (refl, tt) a e h t)))
    prior_pair p side i (c ∷ d ∷ []) same few a b e g h k t u o said =
        let first = listed p (λ x. (x ≡ c) ⊎ (x ≡ d)) (c ∷ d ∷ []) same (inl refl, (inr refl, tt)) a e h t in
        let second = listed p (λ x. (x ≡ c) ⊎ (x ≡ d)) (c ∷ d ∷ []) same (inl refl, (inr refl, tt)) b g k u in
        subst (λ y. True (prior_clause n side i a y)) (beside_other a b c d first second o) said.0
    prior_pair p side i (c ∷ d ∷ j ∷ numbers) same few a b e g h k t u o said = absurd (omega arith)

    -- a splitter of which an edge has a role is one of the network, and has at most two such edges
    splitter : (r : Role) (k a : ℕ) (e : Edge) → HasEdge n a e → IsTrue (plays r k e) → (k < ends_of r n) × (length (numbers_where (plays r k) 0 n.edges) ≤ 2)
    splitter r k a e h t =
        let l = within n r is a k no_edge (below a e h) (ap (plays r k) (get_or_from_slice_get n.edges a e no_edge h) ∙ t) in
        let few = few_at n r is k l in
        let long = length-numbers_where (plays r k) 0 n.edges in
        (l, omega (arith, few, long))

    even_out : (a : ℕ) → a < length n.edges → EvensOut n s a
    even_out a l = λ k b e g h j o t u none m.
        let at = splitter OutOf k a e h t in
        let said = subst (λ q. AllTrue (side_clauses q n Out k (out_edges n k))) none (all of.EvenOut k at.0) in
        even_said Out k a b e g h j m (pair_said (leaves k) Out k (out_edges n k) refl at.1 said a b e g h j t u o)

    prior_out : (a : ℕ) → a < length n.edges → GivesFirst n s a
    prior_out a l = λ k b e g h j o t u first m.
        let at = splitter OutOf k a e h t in
        let said = subst (λ q. AllTrue (side_clauses q n Out k (out_edges n k))) first (all of.EvenOut k at.0) in
        prior_said Out k a b e g h j m (prior_pair (leaves k) Out k (out_edges n k) refl at.1 a b e g h j t u o said)

    even_in : (a : ℕ) → a < length n.edges → EvensIn n s a
    even_in a l = λ k b e g h j o t u even m.
        let at = splitter Into k a e h t in
        let unnamed = subst (λ q. AllTrue (side_clauses q n In k (edges_at n In k))) even.0 (all of.EvenIn k at.0) in
        let said = subst (λ any. AllTrue (even_clauses n In k (unless_any any (in_edges n k)))) even.1 unnamed in
        even_said In k a b e g h j m (pair_said (enters k) In k (in_edges n k) refl at.1 said a b e g h j t u o)

    prior_in : (a : ℕ) → a < length n.edges → TakesFirst n s a
    prior_in a l = λ k b e g h j o t u first m.
        let at = splitter Into k a e h t in
        let named = subst (λ q. AllTrue (side_clauses q n In k (edges_at n In k))) first (all of.EvenIn k at.0) in
        let said = subst (λ any. AllTrue (side_clauses (Some a) n In k (unless_any any (in_edges n k)))) (even_where_named n is k a first) named in
        prior_said In k a b e g h j m (prior_pair (enters k) In k (in_edges n k) refl at.1 a b e g h j t u o said)

    back_said : (a b : ℕ) (e g : Edge) → HasEdge n a e → HasEdge n b g → backed_at s a ≡ true → True (backing_clause n a b) → (backed_at s b ≡ true) ⊎ IsFull s b g
    back_said a b e g h k m (inl free) = absurd (never_both (f a) false free (sym (has.marks a (below a e h)) ∙ m))
    back_said a b e g h k m (inr (inl backed)) = inl (has.marks b (below b g k) ∙ backed)
    back_said a b e g h k m (inr (inr full)) = inr (full_said b g k (holds_alone full))

    backing : (a : ℕ) → a < length n.edges → Backs n s a
    backing a l = λ k b e g h j t u m.
        let at = splitter Into k a e h t in
        let each = from_flat_map True (λ c. map (backing_clause n c) (out_edges n k)) (in_edges n k) (all of.Backing k at.0) in
        let mine = listed (enters k) (λ c. AllTrue (map (backing_clause n c) (out_edges n k))) (in_edges n k) refl each a e h t in
        back_said a b e g h j m (listed (leaves k) (λ c. True (backing_clause n a c)) (out_edges n k) refl (from_map True (backing_clause n a) (out_edges n k) mine) b g j u)

    input : (i : ℕ) → i < n.inputs → FeedsInput n s i
    input i l = λ a e h t.
        let same = (edge_of_input n is i a e h t).1 in
        let said = end_said (load_column n i) a (load_at s i) (flow_at s a) true (has_load n i) (ap (λ x. not_below x (load_column n i)) (sym same)) (load_is i l) (flow_is a (below a e h)) (subst (λ b. AllTrue (end_clauses (load_column n i) b true (has_load n i))) (sym same) (all of.Inputs i l)) in
        (said.0, λ m. said.1 (sym (has.marks a (below a e h)) ∙ m))

    output : (o : ℕ) → o < n.outputs → FillsOutput n s o
    output o l = λ a e h t.
        let same = (edge_of_output n is o a e h t).1 in
        let said = end_said (room_column n o) a (room_at s o) (flow_at s a) false (filled n o) (ap (λ x. not_below x (room_column n o)) (sym same)) (room_is o l) (flow_is a (below a e h)) (subst (λ b. AllTrue (end_clauses (room_column n o) b false (filled n o))) (sym same) (all of.Outputs o l)) in
        (said.0, λ m. said.1 (sym (has.marks a (below a e h)) ∙ m))

    pub steady : IsSteady n s
    steady = record { range = range; conserve = conserve; even_out = even_out; even_in = even_in; prior_out = prior_out; prior_in = prior_in; backing = backing; input = input; output = output }

    admits_load : (i : ℕ) → i < n.inputs → AdmitsLoad n s i
    admits_load i l = λ a e h t.
        let same = (edge_of_input n is i a e h t).1 in
        let r = range_said (load_column n i) (cap_at n a) (load_at s i) (load_is i l) (subst (λ b. AllTrue (range_clauses (load_column n i) (cap_at n b))) (sym same) (all of.Loads i l)) in
        (r.0, subst (λ z. load_at s i ≤ℤ z) (cap_over a e h) r.1)

    admits_room : (o : ℕ) → o < n.outputs → AdmitsRoom n s o
    admits_room o l = λ a e h t.
        let same = (edge_of_output n is o a e h t).1 in
        let r = range_said (room_column n o) (cap_at n a) (room_at s o) (room_is o l) (subst (λ b. AllTrue (range_clauses (room_column n o) (cap_at n b))) (sym same) (all of.Rooms o l)) in
        (r.0, subst (λ z. room_at s o ≤ℤ z) (cap_over a e h) r.1)

    pub admissible : IsAdmissible n s
    admissible = record { loads = admits_load; rooms = admits_room }

    pub loaded : AllTrue (loaded_clauses n) → (i : ℕ) → i < n.inputs → IsLoaded n s i
    loaded said i l = λ a e h t.
        let same = (edge_of_input n is i a e h t).1 in
        let row = in_range True (λ j. Says (at_least (load_column n j) (cap_at n (input_edge n j))) ∷ []) 0 n.inputs i said (omega arith) (omega (arith, l)) in
        let least = (at_least_says v s.denominator has.state.positive (load_column n i) (cap_at n (input_edge n i)) (load_at s i) (load_is i l)).0 (holds_alone row) in
        let most = (admits_load i l a e h t).1 in
        let cap = ap (λ b. pos (cap_at n b * s.denominator)) (sym same) ∙ cap_over a e h in
        omega (arith, ints, least, most, cap)

    pub open_ends : AllTrue (open_clauses n) → (o : ℕ) → o < n.outputs → IsOpen n s o
    open_ends said o l = λ a e h t.
        let same = (edge_of_output n is o a e h t).1 in
        let row = in_range True (λ j. Says (at_least (room_column n j) (cap_at n (output_edge n j))) ∷ []) 0 n.outputs o said (omega arith) (omega (arith, l)) in
        let least = (at_least_says v s.denominator has.state.positive (room_column n o) (cap_at n (output_edge n o)) (room_at s o) (room_is o l)).0 (holds_alone row) in
        let most = (admits_room o l a e h t).1 in
        let cap = ap (λ b. pos (cap_at n b * s.denominator)) (sym same) ∙ cap_over a e h in
        omega (arith, ints, least, most, cap)

  -- of flows that are all equal none differs
  same_fails : (first : ℕ) (z : ℤ) (others : List ℕ) → IsAt first z → AllByRecursion (λ b. IsAt b z) others → True (flat_map (differ first) others) → ⊥
  same_fails first z [] at all said = said
  same_fails first z (b ∷ others) at all (inl more) = let l = (above_says v s.denominator has.state.positive first b z z at all.0).0 more in omega (arith, ints, l)
  same_fails first z (b ∷ others) at all (inr (inl less)) = let l = (above_says v s.denominator has.state.positive b first z z all.0 at).0 less in omega (arith, ints, l)
  same_fails first z (b ∷ others) at all (inr (inr rest)) = same_fails first z others at all.1 rest

  unequal_fails : (z : ℤ) (edges : List ℕ) → AllByRecursion (λ b. IsAt b z) edges → True (unequal_clause edges) → ⊥
  unequal_fails z [] all said = said
  unequal_fails z (first ∷ others) all said = same_fails first z others all.0 all.1 said

  unequal_outputs : True (unequal_clause (output_edges n)) → HasEqualOutputs n s → ⊥
  unequal_outputs said equal =
      let first = output_is n is 0 (let l = is.some_output in omega (arith, l)) in
      unequal_fails (flow_at s (output_edge n 0)) (output_edges n)
      (each-map (λ b. IsAt b (flow_at s (output_edge n 0))) (λ o. o < n.outputs) (output_edge n) (range_with_len 0 n.outputs) (each-range (λ o. o < n.outputs) 0 n.outputs (λ o l m. omega (arith, m))) (λ o l.
      let edge = output_is n is o l in
      subst (IsAt (output_edge n o)) (equal o 0 (output_edge n o) (output_edge n 0) edge.0 first.0 edge.1 first.1 edge.2 first.2) (flow_is (output_edge n o) (below (output_edge n o) edge.0 edge.1)))) said

  unequal_inputs : True (unequal_clause (input_edges n)) → HasEqualInputs n s → ⊥
  unequal_inputs said equal =
      let first = input_is n is 0 (let l = is.some_input in omega (arith, l)) in
      unequal_fails (flow_at s (input_edge n 0)) (input_edges n)
      (each-map (λ b. IsAt b (flow_at s (input_edge n 0))) (λ i. i < n.inputs) (input_edge n) (range_with_len 0 n.inputs) (each-range (λ i. i < n.inputs) 0 n.inputs (λ i l m. omega (arith, m))) (λ i l.
      let edge = input_is n is i l in
      subst (IsAt (input_edge n i)) (equal i 0 (input_edge n i) (input_edge n 0) edge.0 first.0 edge.1 first.1 edge.2 first.2) (flow_is (input_edge n i) (below (input_edge n i) edge.0 edge.1)))) said

  short_fails : AllTrue (short_clauses n) → PassesAll n s → ⊥
  short_fails said =
      let loads = (above_outputs_says v s.denominator has.state.positive n s.flows s.loads (load_column n 0) n.inputs has.state.loads has.state.flows flows_are loads_are).0 (holds_alone said.0) in
      let rooms = (above_outputs_says v s.denominator has.state.positive n s.flows s.rooms (room_column n 0) n.outputs has.state.rooms has.state.flows flows_are rooms_are).0 (holds_alone said.1.0) in
      not_lesser (sum_where is_last n.edges s.flows) (total s.loads) (total s.rooms) loads rooms

  -- the clauses of the families, one by one
  each_family : AllTrue (flat_map (family_clauses n) families) → (g : ClauseFamily) (k : ℕ) → k < places n g → AllTrue (clauses_at n g k)
  each_family said g k l =
      at_range (λ i. AllTrue (clauses_at n g i)) 0 (places n g) k (from_flat_map True (clauses_at n g) (range_with_len 0 (places n g)) (of_family g)) (omega arith) (omega (arith, l))
    where
      each : AllByRecursion (λ h. AllTrue (family_clauses n h)) families
      each = from_flat_map True (family_clauses n) families said

      of_family : (h : ClauseFamily) → AllTrue (family_clauses n h)
      of_family of.Flows = each.0
      of_family of.Loads = each.1.0
      of_family of.Rooms = each.1.1.0
      of_family of.Conserve = each.1.1.1.0
      of_family of.OutPairs = each.1.1.1.1.0
      of_family of.InPairs = each.1.1.1.1.1.0
      of_family of.FullPairs = each.1.1.1.1.1.1.0
      of_family of.LoadPairs = each.1.1.1.1.1.1.1.0
      of_family of.RoomPairs = each.1.1.1.1.1.1.1.1.0
      of_family of.EvenOut = each.1.1.1.1.1.1.1.1.1.0
      of_family of.EvenIn = each.1.1.1.1.1.1.1.1.1.1.0
      of_family of.Backing = each.1.1.1.1.1.1.1.1.1.1.1.0
      of_family of.Inputs = each.1.1.1.1.1.1.1.1.1.1.1.1.0
      of_family of.Outputs = each.1.1.1.1.1.1.1.1.1.1.1.1.1.0

  meets : (all : (g : ClauseFamily) (k : ℕ) → k < places n g → AllTrue (clauses_at n g k)) (p : Property) → AllTrue (property_clauses n p) → properties.Meets p n s
  meets all Balanced said = record { loads = λ t. absurd (false≢true t); rooms = λ t. open_ends all (each-left True (open_clauses n) (unequal_clause (output_edges n) ∷ []) said) }
  meets all DrawnEvenly said = record { loads = λ t. loaded all (each-left True (loaded_clauses n) (unequal_clause (input_edges n) ∷ []) said); rooms = λ t. absurd (false≢true t) }
  meets all Unlimited said = record { loads = λ t. absurd (false≢true t); rooms = λ t. absurd (false≢true t) }
  meets all Full said =
      let ends = each-left True (loaded_clauses n ++ open_clauses n) (short_clauses n) said in
      record { loads = λ t. loaded all (each-left True (loaded_clauses n) (open_clauses n) ends); rooms = λ t. open_ends all (each-right True (loaded_clauses n) (open_clauses n) ends) }
  meets all Fair said = record { loads = λ t. absurd (false≢true t); rooms = λ t. absurd (false≢true t) }
  meets all DrawnFairly said = record { loads = λ t. absurd (false≢true t); rooms = λ t. absurd (false≢true t) }

  breaks_with : (p : Property) → AllTrue (flow_clauses n p) → (Concludes p n s → ⊥) → Breaks n p s
  breaks_with p said fails =
      let all = each_family (each-left True (flat_map (family_clauses n) families) (property_clauses n p) said) in
      let more = each-right True (flat_map (family_clauses n) families) (property_clauses n p) said in
      record { state = has.state; admissible = admissible all; meets = meets all p more; steady = steady all; fails = fails }

  -- the clauses of claims, and a level behind them
  claims : (p : Property) → Meets (formula_of (variable_of n) (length n.edges) (flow_clauses n p)) f v → AllTrue (flow_clauses n p)
  claims p met = met_claims (variable_of n) (length n.edges) (flow_clauses n p) f v (flow_named n is p) met

  plain : (p : Property) → ((AllTrue (property_clauses n p)) → Concludes p n s → ⊥) → Meets (formula_of (variable_of n) (length n.edges) (flow_clauses n p)) f v → Breaks n p s
  plain p fails met =
      let said = claims p met in
      breaks_with p said (fails (each-right True (flat_map (family_clauses n) families) (property_clauses n p) said))

  pub breaks : (p : Property) → Meets (flow_formula n p) f v → Breaks n p s
  breaks Balanced met = plain Balanced (λ said. unequal_outputs (each-right True (open_clauses n) (unequal_clause (output_edges n) ∷ []) said).0) met
  breaks DrawnEvenly met = plain DrawnEvenly (λ said. unequal_inputs (each-right True (loaded_clauses n) (unequal_clause (input_edges n) ∷ []) said).0) met
  breaks Unlimited met = plain Unlimited short_fails met
  breaks Full met = plain Full (λ said. short_fails (each-right True (loaded_clauses n ++ open_clauses n) (short_clauses n) said)) met
  breaks Fair met =
      let front = formula_of (variable_of n) (length n.edges) (flow_clauses n Fair) in
      breaks_with Fair (claims Fair (base_met n Output front f v met)) (level_fails n is Output f v s some has front (level_met n Output front f v met))
  breaks DrawnFairly met =
      let front = formula_of (variable_of n) (length n.edges) (flow_clauses n DrawnFairly) in
      breaks_with DrawnFairly (claims DrawnFairly (base_met n Input front f v met)) (level_fails n is Input f v s some has front (level_met n Input front f v met))

pub meeting_breaks : MeetingBreaks
meeting_breaks n p assignment values s is some met has = breaks n is assignment values s some has p met

pub meeting_is_steady : MeetingIsSteady
meeting_is_steady n assignment values s is some met has =
    let all = each_family n is assignment values s some has (met_claims (variable_of n) (length n.edges) (steady_clauses n) assignment values (families_named n is) met) in
    (admissible n is assignment values s some has all, steady n is assignment values s some has all)
