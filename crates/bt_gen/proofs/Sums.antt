-- Where all rooms are filled, or all loads come in, each of them is.
use Rattle.std.proofs.Common.{◌≡◌, ℕ, zero, suc, ◌+◌, ◌<◌, Bool, true, IsTrue, List, [], ◌∷◌, length, get_or, ℤ, pos, ◌+ℤ◌, ◌≤ℤ◌, ap, sym, ◌∙◌, subst, arith}
use Rattle.std.specs.List.{count_by}
use Rattle.std.proofs.lemmas.Int.{ints}
use Rattle.bt_net.specs.declared.network.Edge.{Edge}
use Rattle.bt_net.specs.Network.{Network, IsNetwork, StartsIn, EndsIn, leaves, enters, is_input, is_output}
use Rattle.bt_flow.specs.States.{Flows, IsStateOf, flow_at, load_at, room_at}
use Rattle.bt_flow.specs.Steady.{HasEdge, IsSteady, sum_where}
use Rattle.bt_flow.specs.Properties.{is_last, total}
use Rattle.bt_flow.specs.EndEdges.{input_edge, output_edge}
use Rattle.bt_flow_formula.proofs.Numbers.{all_to}
use Rattle.bt_flow_formula.proofs.NetEdges.{input_is, output_is}
use Rattle.bt_flow_formula.proofs.EdgeSums.{sums_from, starts_total, ends_total, outputs_total, sums_same, sums_at_most}
use Rattle.bt_gen.proofs.TwoFlows.{one}

first_filled : (x t u v : ℤ) → (x +ℤ t) ≤ℤ (u +ℤ v) → v ≤ℤ t → x ≤ℤ u
first_filled x t u v l m = omega (arith, ints, l, m)

rest_filled : (x t u v : ℤ) → (x +ℤ t) ≤ℤ (u +ℤ v) → u ≤ℤ x → t ≤ℤ v
rest_filled x t u v l m = omega (arith, ints, l, m)

no_more : (a : ℕ) → a ≡ a + 0
no_more a = omega arith

one_on : (a i : ℕ) → a + suc i ≡ a + 1 + i
one_on a i = omega arith

-- numbers whose sum is at most that of sums, of which none is greater, are at most these
sums_filled : (p : ℕ → Edge → Bool) (a : ℕ) (xs : List ℤ) (es : List Edge) (fs : List ℤ) → ((i : ℕ) → i < length xs → sum_where (p (a + i)) es fs ≤ℤ get_or xs i (pos 0))
    → total xs ≤ℤ sums_from p a (length xs) es fs → (i : ℕ) → i < length xs → get_or xs i (pos 0) ≤ℤ sum_where (p (a + i)) es fs
sums_filled p a [] es fs h full i l = absurd (omega (arith, l))
sums_filled p a (x ∷ xs) es fs h full zero l =
    let most = sums_at_most p (a + 1) xs es fs (λ i l. subst (λ k. sum_where (p k) es fs ≤ℤ get_or xs i (pos 0)) (one_on a i) (h (suc i) (omega (arith, l)))) in
    subst (λ k. x ≤ℤ sum_where (p k) es fs) (no_more a) (first_filled x (total xs) (sum_where (p a) es fs) (sums_from p (a + 1) (length xs) es fs) full most)
sums_filled p a (x ∷ xs) es fs h full (suc i) l =
    let first = subst (λ k. sum_where (p k) es fs ≤ℤ x) (sym (no_more a)) (h 0 (omega arith)) in
    subst (λ k. get_or xs i (pos 0) ≤ℤ sum_where (p k) es fs) (sym (one_on a i))
    (sums_filled p (a + 1) xs es fs (λ j m. subst (λ k. sum_where (p k) es fs ≤ℤ get_or xs j (pos 0)) (one_on a j) (h (suc j) (omega (arith, m))))
    (rest_filled x (total xs) (sum_where (p a) es fs) (sums_from p (a + 1) (length xs) es fs) full first) i (omega (arith, l)))

same_ends : (z si sl se t : ℤ) → si +ℤ sl ≡ t → z +ℤ se ≡ t → se ≡ sl → z ≡ si
same_ends z si sl se t a b c = omega (arith, ints, a, b, c)

none_before : (i : ℕ) → i ≡ 0 + i
none_before i = omega arith

module _ (n : Network) (is : IsNetwork n) (s : Flows) (state : IsStateOf n s) (steady : IsSteady n s) where
  flow_of : (p : Edge → Bool) (a : ℕ) (e : Edge) → HasEdge n a e → p e ≡ true → count_by p n.edges ≡ 1 → sum_where p n.edges s.flows ≡ flow_at s a
  flow_of p a e h t once = one p n.edges s.flows a e h t (omega (arith, once)) state.flows

  out_at_most : (o : ℕ) → o < n.outputs → sum_where (is_output o) n.edges s.flows ≤ℤ room_at s o
  out_at_most o l =
      let edge = output_is n is o l in
      subst (λ z. z ≤ℤ room_at s o) (sym (flow_of (is_output o) (output_edge n o) edge.0 edge.1 edge.2 (is.wired.one_out o l))) (steady.output o l (output_edge n o) edge.0 edge.1 edge.2).0

  in_at_most : (i : ℕ) → i < n.inputs → sum_where (is_input i) n.edges s.flows ≤ℤ load_at s i
  in_at_most i l =
      let edge = input_is n is i l in
      subst (λ z. z ≤ℤ load_at s i) (sym (flow_of (is_input i) (input_edge n i) edge.0 edge.1 edge.2 (is.wired.one_in i l))) (steady.input i l (input_edge n i) edge.0 edge.1 edge.2).0

  carried_out : sum_where is_last n.edges s.flows ≡ sums_from is_output 0 (length s.rooms) n.edges s.flows
  carried_out = outputs_total n n.edges s.flows state.flows (all_to (λ e. EndsIn n e.target) n.edges is.wired.targets) ∙ ap (λ k. sums_from is_output 0 k n.edges s.flows) (sym state.rooms)

  carried_in : sum_where is_last n.edges s.flows ≡ sums_from is_input 0 (length s.loads) n.edges s.flows
  carried_in =
      same_ends (sum_where is_last n.edges s.flows) (sums_from is_input 0 n.inputs n.edges s.flows) (sums_from leaves 0 n.splitters n.edges s.flows) (sums_from enters 0 n.splitters n.edges s.flows) (total s.flows)
      (starts_total n n.edges s.flows state.flows (all_to (λ e. StartsIn n e.start) n.edges is.wired.starts))
      (ends_total n n.edges s.flows state.flows (all_to (λ e. EndsIn n e.target) n.edges is.wired.targets))
      (sums_same enters leaves 0 n.splitters n.edges s.flows (λ k l m. steady.conserve k (omega (arith, m))))
      ∙ ap (λ k. sums_from is_input 0 k n.edges s.flows) (sym state.loads)

  pub all_flow_out : total s.rooms ≤ℤ sum_where is_last n.edges s.flows → (o : ℕ) → o < n.outputs → (a : ℕ) (e : Edge) → HasEdge n a e → IsTrue (is_output o e) → room_at s o ≤ℤ flow_at s a
  all_flow_out full o l a e h t =
      let filled = sums_filled is_output 0 s.rooms n.edges s.flows
      (λ j m. subst (λ k. sum_where (is_output k) n.edges s.flows ≤ℤ room_at s j) (none_before j) (out_at_most j (let q = state.rooms in omega (arith, q, m))))
      (subst (λ z. total s.rooms ≤ℤ z) carried_out full) o (let q = state.rooms in omega (arith, q, l)) in
      subst (λ z. room_at s o ≤ℤ z) (flow_of (is_output o) a e h t (is.wired.one_out o l)) (subst (λ k. room_at s o ≤ℤ sum_where (is_output k) n.edges s.flows) (sym (none_before o)) filled)

  pub all_flow_in : total s.loads ≤ℤ sum_where is_last n.edges s.flows → (i : ℕ) → i < n.inputs → (a : ℕ) (e : Edge) → HasEdge n a e → IsTrue (is_input i e) → load_at s i ≤ℤ flow_at s a
  all_flow_in full i l a e h t =
      let filled = sums_filled is_input 0 s.loads n.edges s.flows
      (λ j m. subst (λ k. sum_where (is_input k) n.edges s.flows ≤ℤ load_at s j) (none_before j) (in_at_most j (let q = state.loads in omega (arith, q, m))))
      (subst (λ z. total s.loads ≤ℤ z) carried_in full) i (let q = state.loads in omega (arith, q, l)) in
      subst (λ z. load_at s i ≤ℤ z) (flow_of (is_input i) a e h t (is.wired.one_in i l)) (subst (λ k. load_at s i ≤ℤ sum_where (is_input k) n.edges s.flows) (sym (none_before i)) filled)
