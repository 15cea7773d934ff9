-- A state that breaks a property makes true a claim of each clause of the property.
use Rattle.std.proofs.Common.{◌≡◌, ℕ, ◌<◌, ◌+◌, ◌⊎◌, inl, inr, Bool, IsTrue, ℤ, pos, ◌+ℤ◌, ◌≤ℤ◌, ◌<ℤ◌, List, [], ◌∷◌, length, get_or, ap, sym, ◌∙◌, refl, subst, arith, length-append, ◌++◌}
use Rattle.std.specs.List.{AllByRecursion, flat_map, range_with_len, count_by}
use Rattle.std.proofs.lemmas.Int.{ints}
use Rattle.bt_net.specs.declared.network.Edge.{Edge}
use Rattle.bt_net.specs.Network.{Network, IsNetwork, StartsIn, EndsIn, leaves, enters, is_input, is_output}
use Rattle.bt_flow.specs.declared.property.Property.{Property}
use Rattle.bt_flow.specs.declared.property.Property.TheVariants.{Balanced, DrawnEvenly, Unlimited, Full, Fair, DrawnFairly}
use Rattle.bt_flow.specs.Ports.{numbers_where}
use Rattle.bt_flow.specs.States.{Flows, IsStateOf, flow_at, backed_at, load_at, room_at}
use Rattle.bt_flow.specs.Steady.{HasEdge, IsSteady, sum_where}
use Rattle.bt_flow.specs.Properties.{IsLoaded, IsOpen, IsLesser, PassesAll, HasEqualOutputs, HasEqualInputs, Breaks, is_last, total}
use Rattle.bt_flow.proofs.Numbers.{length-numbers_where}
use Rattle.bt_flow.specs.EndEdges.{input_edge, output_edge, input_edges, output_edges, cap_at, load_column, room_column}
use Rattle.bt_flow_formula.specs.Families.{family_clauses, families}
use Rattle.bt_flow_formula.specs.Properties.{property_clauses, loaded_clauses, open_clauses, short_clauses, unequal_clause, differ}
use Rattle.bt_cnf.specs.Meeting.{Meets}
use Rattle.bt_flow.specs.declared.ports.End.{End}
use Rattle.bt_flow.specs.declared.ports.End.TheVariants.{Input, Output}
use Rattle.bt_flow_formula.specs.Numbering.{formula_of}
use Rattle.bt_flow_formula.specs.Levels.{end_edge, with_level}
use Rattle.bt_flow_formula.specs.FlowFormula.{flow_clauses, flow_formula, variable_of}
use Rattle.bt_flow_formula.specs.Laws.{BreakingMeets, BreakingIsMet, IsMetBy, values_of}
use Rattle.bt_flow_formula.proofs.Short.{IsUnfair, unfair, assignment, values, begins, unfair_meets}
use Rattle.std.proofs.lemmas.List.{get_or_default}
use Rattle.bt_flow_formula.proofs.Numbers.{all_to}
use Rattle.bt_flow_formula.proofs.NetEdges.{input_is, output_is, edge_of_input, edge_of_output}
use Rattle.bt_flow_formula.proofs.RowValues as rows
use Rattle.bt_flow_formula.proofs.Withins.{each-append, each-three, each-map, each-range, in_range}
use Rattle.bt_flow_formula.proofs.Orders.{order}
use Rattle.bt_flow_formula.proofs.Named.{flow_named}
use Rattle.bt_flow_formula.proofs.EdgeSums.{sums_from, starts_total, ends_total, outputs_total, sums_same, sums_at_most, picked, one_listed}
use Rattle.bt_flow_formula.proofs.Admitted.{w, flow_column, load_column_is, room_column_is, flow_is, cap_over, True, AllTrue, families_true}
use Rattle.bt_flow_formula.proofs.TrueClaims.{true_claims_meet}

-- what is at most two numbers and not the lesser of them is below both
below_both : (z x y : ℤ) → z ≤ℤ x → z ≤ℤ y → (IsLesser z x y → ⊥) → (z <ℤ x) × (z <ℤ y)
below_both z x y l m f = (
  elim (order z x) [ inl h ↦ h | inr h ↦ elim h [ inl e ↦ absurd (f (inl (e, omega (arith, ints, e, m)))) | inr g ↦ absurd (omega (arith, ints, g, l)) ] ],
  elim (order z y) [ inl h ↦ h | inr h ↦ elim h [ inl e ↦ absurd (f (inr (e, omega (arith, ints, e, l)))) | inr g ↦ absurd (omega (arith, ints, g, m)) ] ],
)

-- the sum of output flows is at most what enters at the inputs
at_most_loads : (z si sl se t u : ℤ) → si +ℤ sl ≡ t → z +ℤ se ≡ t → se ≡ sl → si ≤ℤ u → z ≤ℤ u
at_most_loads z si sl se t u a b c l = omega (arith, ints, a, b, c, l)

module _ (n : Network) (is : IsNetwork n) (s : Flows) (state : IsStateOf n s) (steady : IsSteady n s) where
  abbrev v : ℕ → ℤ
  v = w n is s state (pos 0)

  one_flow : (p : Edge → Bool) → count_by p n.edges ≡ 1 → sum_where p n.edges s.flows ≡ v (get_or (numbers_where p 0 n.edges) 0 0)
  one_flow p one =
      sym (picked v p 0 n.edges s.flows state.flows (λ i b. ap v (let z : 0 + i ≡ i = omega arith in z) ∙ flow_column n is s state (pos 0) i b))
      ∙ one_listed v (numbers_where p 0 n.edges) (length-numbers_where p 0 n.edges ∙ one)

  at_most_load : (i : ℕ) → i < n.inputs → sum_where (is_input i) n.edges s.flows ≤ℤ load_at s i
  at_most_load i l =
      let e = one_flow (is_input i) (is.wired.one_in i l) in
      let edge = input_is n is i l in
      let y = flow_is n is s state (pos 0) steady (input_edge n i) edge.0 edge.1 in
      let most = (steady.input i l (input_edge n i) edge.0 edge.1 edge.2).0 in
      omega (arith, ints, e, y, most)

  at_most_room : (o : ℕ) → o < n.outputs → sum_where (is_output o) n.edges s.flows ≤ℤ room_at s o
  at_most_room o l =
      let e = one_flow (is_output o) (is.wired.one_out o l) in
      let edge = output_is n is o l in
      let y = flow_is n is s state (pos 0) steady (output_edge n o) edge.0 edge.1 in
      let most = (steady.output o l (output_edge n o) edge.0 edge.1 edge.2).0 in
      omega (arith, ints, e, y, most)

  inputs_at_most : sums_from is_input 0 n.inputs n.edges s.flows ≤ℤ total s.loads
  inputs_at_most =
      let long = state.loads in
      subst (λ c. sums_from is_input 0 c n.edges s.flows ≤ℤ total s.loads) long
      (sums_at_most is_input 0 s.loads n.edges s.flows (λ i l. subst (λ k. sum_where (is_input k) n.edges s.flows ≤ℤ load_at s i) (let z : i ≡ 0 + i = omega arith in z) (at_most_load i (omega (arith, long, l)))))

  pub outputs_at_most_rooms : sum_where is_last n.edges s.flows ≤ℤ total s.rooms
  outputs_at_most_rooms =
      let long = state.rooms in
      let most : sums_from is_output 0 n.outputs n.edges s.flows ≤ℤ total s.rooms = subst (λ c. sums_from is_output 0 c n.edges s.flows ≤ℤ total s.rooms) long
      (sums_at_most is_output 0 s.rooms n.edges s.flows (λ o l. subst (λ k. sum_where (is_output k) n.edges s.flows ≤ℤ room_at s o) (let z : o ≡ 0 + o = omega arith in z) (at_most_room o (omega (arith, long, l))))) in
      subst (λ z. z ≤ℤ total s.rooms) (sym (outputs_total n n.edges s.flows state.flows (all_to (λ e. EndsIn n e.target) n.edges is.wired.targets))) most

  pub outputs_at_most_loads : sum_where is_last n.edges s.flows ≤ℤ total s.loads
  outputs_at_most_loads =
      at_most_loads (sum_where is_last n.edges s.flows) (sums_from is_input 0 n.inputs n.edges s.flows) (sums_from leaves 0 n.splitters n.edges s.flows) (sums_from enters 0 n.splitters n.edges s.flows)
      (total s.flows) (total s.loads) (starts_total n n.edges s.flows state.flows (all_to (λ e. StartsIn n e.start) n.edges is.wired.starts))
      (ends_total n n.edges s.flows state.flows (all_to (λ e. EndsIn n e.target) n.edges is.wired.targets))
      (sums_same enters leaves 0 n.splitters n.edges s.flows (λ k l m. steady.conserve k (omega (arith, m)))) inputs_at_most

  short_true : (PassesAll n s → ⊥) → AllTrue n is s state (pos 0) steady (short_clauses n)
  short_true fails =
      let less = below_both (sum_where is_last n.edges s.flows) (total s.loads) (total s.rooms) outputs_at_most_loads outputs_at_most_rooms fails in
      let loads = state.loads in
      let rooms = state.rooms in
      let load : (i : ℕ) → i < length s.loads → v (load_column n 0 + i) ≡ get_or s.loads i (pos 0) = λ i l.
      ap v (let z : load_column n 0 + i ≡ load_column n i = omega arith in z) ∙ load_column_is n is s state (pos 0) i (omega (arith, loads, l)) in
      let room : (o : ℕ) → o < length s.rooms → v (room_column n 0 + o) ≡ get_or s.rooms o (pos 0) = λ o l.
      ap v (let z : room_column n 0 + o ≡ room_column n o = omega arith in z) ∙ room_column_is n is s state (pos 0) o (omega (arith, rooms, l)) in (
        (inl (rows.above_outputs_holds v s.denominator state.positive n s.flows s.loads (load_column n 0) n.inputs loads state.flows (λ i b. flow_column n is s state (pos 0) i b) load less.0)),
        ((inl (rows.above_outputs_holds v s.denominator state.positive n s.flows s.rooms (room_column n 0) n.outputs rooms state.flows (λ i b. flow_column n is s state (pos 0) i b) room less.1)), tt),
      )

  loaded_true : ((i : ℕ) → i < n.inputs → IsLoaded n s i) → AllTrue n is s state (pos 0) steady (loaded_clauses n)
  loaded_true meets =
      each-map (True n is s state (pos 0) steady) (λ i. i < n.inputs) _ (range_with_len 0 n.inputs) (each-range (λ i. i < n.inputs) 0 n.inputs (λ i l m. omega (arith, m))) (λ i l.
      let edge = input_is n is i l in
      let x = load_column_is n is s state (pos 0) i l in
      let c = cap_over n is s state (pos 0) steady (input_edge n i) edge.0 edge.1 in
      let full = meets i l (input_edge n i) edge.0 edge.1 edge.2 in
      inl (rows.at_least_holds v s.denominator state.positive (load_column n i) (cap_at n (input_edge n i)) (omega (arith, ints, x, c, full))))

  open_true : ((o : ℕ) → o < n.outputs → IsOpen n s o) → AllTrue n is s state (pos 0) steady (open_clauses n)
  open_true meets =
      each-map (True n is s state (pos 0) steady) (λ o. o < n.outputs) _ (range_with_len 0 n.outputs) (each-range (λ o. o < n.outputs) 0 n.outputs (λ o l m. omega (arith, m))) (λ o l.
      let edge = output_is n is o l in
      let x = room_column_is n is s state (pos 0) o l in
      let c = cap_over n is s state (pos 0) steady (output_edge n o) edge.0 edge.1 in
      let full = meets o l (output_edge n o) edge.0 edge.1 edge.2 in
      inl (rows.at_least_holds v s.denominator state.positive (room_column n o) (cap_at n (output_edge n o)) (omega (arith, ints, x, c, full))))

  -- a flow differs from the first, or all equal it
  differ_or : (first : ℕ) (others : List ℕ) → True n is s state (pos 0) steady (flat_map (differ first) others) ⊎ AllByRecursion (λ b. v b ≡ v first) others
  differ_or first [] = inr tt
  differ_or first (b ∷ others) =
      elim (order (v b) (v first)) [
        | inl l ↦ inl (inl (rows.above_holds v s.denominator state.positive first b l))
        | inr h ↦ elim h [
          | inr g ↦ inl (inr (inl (rows.above_holds v s.denominator state.positive b first g)))
          | inl e ↦ elim (differ_or first others) [ inl d ↦ inl (inr (inr d)) | inr all ↦ inr (e, all) ]
        ]
      ]

  unequal_or : (edges : List ℕ) → True n is s state (pos 0) steady (unequal_clause edges) ⊎ ((z : ℤ) × AllByRecursion (λ b. v b ≡ z) edges)
  unequal_or [] = inr (pos 0, tt)
  unequal_or (first ∷ others) = elim (differ_or first others) [ inl d ↦ inl d | inr all ↦ inr (v first, (refl, all)) ]

  output_flow : (z : ℤ) → AllByRecursion (λ b. v b ≡ z) (output_edges n) → (o a : ℕ) (e : Edge) → HasEdge n a e → IsTrue (is_output o e) → flow_at s a ≡ z
  output_flow z all o a e h t =
      let edge = edge_of_output n is o a e h t in
      sym (flow_is n is s state (pos 0) steady a e h) ∙ ap v edge.1 ∙ in_range (λ b. v b ≡ z) (output_edge n) 0 n.outputs o all (omega arith) (let l = edge.0 in omega (arith, l))

  input_flow : (z : ℤ) → AllByRecursion (λ b. v b ≡ z) (input_edges n) → (i a : ℕ) (e : Edge) → HasEdge n a e → IsTrue (is_input i e) → flow_at s a ≡ z
  input_flow z all i a e h t =
      let edge = edge_of_input n is i a e h t in
      sym (flow_is n is s state (pos 0) steady a e h) ∙ ap v edge.1 ∙ in_range (λ b. v b ≡ z) (input_edge n) 0 n.inputs i all (omega arith) (let l = edge.0 in omega (arith, l))

  unequal_outputs : (HasEqualOutputs n s → ⊥) → True n is s state (pos 0) steady (unequal_clause (output_edges n))
  unequal_outputs fails =
      elim (unequal_or (output_edges n)) [
        | inl d ↦ d
        | inr all ↦ absurd (fails (λ o p a b e f h g t u. output_flow all.0 all.1 o a e h t ∙ sym (output_flow all.0 all.1 p b f g u)))
      ]

  unequal_inputs : (HasEqualInputs n s → ⊥) → True n is s state (pos 0) steady (unequal_clause (input_edges n))
  unequal_inputs fails =
      elim (unequal_or (input_edges n)) [
        | inl d ↦ d
        | inr all ↦ absurd (fails (λ i j a b e f h g t u. input_flow all.0 all.1 i a e h t ∙ sym (input_flow all.0 all.1 j b f g u)))
      ]

property_true : (n : Network) (is : IsNetwork n) (p : Property) (s : Flows) (b : Breaks n p s) → AllTrue n is s b.state (pos 0) b.steady (property_clauses n p)
property_true n is Balanced s b =
    each-append (True n is s b.state (pos 0) b.steady) (open_clauses n) (unequal_clause (output_edges n) ∷ []) (open_true n is s b.state b.steady (b.meets.rooms refl)) (unequal_outputs n is s b.state b.steady b.fails, tt)
property_true n is DrawnEvenly s b =
    each-append (True n is s b.state (pos 0) b.steady) (loaded_clauses n) (unequal_clause (input_edges n) ∷ []) (loaded_true n is s b.state b.steady (b.meets.loads refl)) (unequal_inputs n is s b.state b.steady b.fails, tt)
property_true n is Unlimited s b = short_true n is s b.state b.steady b.fails
property_true n is Fair s b = tt
property_true n is DrawnFairly s b = tt
property_true n is Full s b =
    each-three (True n is s b.state (pos 0) b.steady) (loaded_clauses n) (open_clauses n) (short_clauses n) (loaded_true n is s b.state b.steady (b.meets.loads refl)) (open_true n is s b.state b.steady (b.meets.rooms refl))
    (short_true n is s b.state b.steady b.fails)

pub breaking_meets : BreakingMeets
breaking_meets n p s is b = (
  λ column. b.state.positive,
  true_claims_meet (variable_of n) (length n.edges) (flow_clauses n p) (backed_at s) (values_of s) (flow_named n is p)
      (each-append (True n is s b.state (pos 0) b.steady) (flat_map (family_clauses n) families) (property_clauses n p) (families_true n is s b.state (pos 0) b.steady b.admissible) (property_true n is p s b)),
)

-- ---- and the level

plain_met : (n : Network) (p : Property) (s : Flows) → IsNetwork n → Breaks n p s → flow_formula n p ≡ formula_of (variable_of n) (length n.edges) (flow_clauses n p) → IsMetBy n p s
plain_met n p s is b same =
    let met = breaking_meets n p s is b in
    record {
      assignment = met.1.assignment;
      values = values_of s;
      marks = met.1.begins;
      columns = λ c l. refl;
      known = met.0;
      meets = subst (λ f. Meets f met.1.assignment (values_of s)) (sym same) met.1.meets;
    }

-- before the level its columns are those of the state
level_met : (n : Network) (p : Property) (s : Flows) (is : IsNetwork n) (b : Breaks n p s) (end : End) (u : IsUnfair n end s)
    → flow_formula n p ≡ with_level n end (formula_of (variable_of n) (length n.edges) (flow_clauses n Fair)) → IsMetBy n p s
level_met n p s is b end u same =
    record {
      assignment = assignment n is s b.state b.admissible b.steady end u;
      values = values n is s b.state b.admissible b.steady end u;
      marks = begins n is s b.state b.admissible b.steady end u;
      columns = λ c l. ap (λ z. record { over = z; under = s.denominator })
          (get_or_default (s.flows ++ s.loads ++ s.rooms) c (flow_at s (end_edge n end u.high)) (pos 0)
          (let f = b.state.flows in let g = b.state.loads in let h = b.state.rooms in let more = length-append s.flows s.loads in let most = length-append (s.flows ++ s.loads) s.rooms in omega (arith, f, g, h, more, most, l)));
      known = λ c. b.state.positive;
      meets = subst (λ f. Meets f (assignment n is s b.state b.admissible b.steady end u) (values n is s b.state b.admissible b.steady end u)) (sym same) (unfair_meets n is s b.state b.admissible b.steady end u);
    }

pub breaking_is_met : BreakingIsMet
breaking_is_met n Balanced s is b = plain_met n Balanced s is b refl
breaking_is_met n DrawnEvenly s is b = plain_met n DrawnEvenly s is b refl
breaking_is_met n Unlimited s is b = plain_met n Unlimited s is b refl
breaking_is_met n Full s is b = plain_met n Full s is b refl
breaking_is_met n Fair s is b = level_met n Fair s is b Output (unfair n is Output s b.fails) refl
breaking_is_met n DrawnFairly s is b = level_met n DrawnFairly s is b Input (unfair n is Input s b.fails) refl
