-- Made networks are networks, by tests that are run for each order.
use Rattle.std.proofs.Common.{◌≡◌, ℕ, ◌+◌, ◌-◌, ◌<◌, ◌≤◌, Bool, true, lit≤, length, refl, ◌∙◌, subst, arith}
use Rattle.std.specs.Prelude.{nat_lt, nat_le, nat_eq, ◌&&◌}
use Rattle.std.specs.List.{All, count_by, list_all, range_with_len}
use Rattle.std.proofs.lemmas.Bool.{ltb-true, leb-true, eqb-true, and_parts, false≢true}
use Rattle.std.proofs.lemmas.List.Elements.{All-weaker}
use Rattle.std.proofs.lemmas.List.FromFn.{length-range_with_len, get_or-range_with_len}
use Rattle.std.proofs.lemmas.List.Sums.{AllPass-from_list_all}
use Rattle.bt_net.specs.declared.network.Edge.{Edge}
use Rattle.bt_net.specs.declared.network.Start.{Start}
use Rattle.bt_net.specs.declared.network.Start.TheVariants as from
use Rattle.bt_net.specs.declared.network.Target.{Target}
use Rattle.bt_net.specs.declared.network.Target.TheVariants as to
use Rattle.bt_net.specs.Network.{Network, IsNetwork, StartsIn, EndsIn, IsCap, is_input, is_output, leaves, enters, HasNoPriorities}
use Rattle.bt_net.proofs.Preference.{plain_is_prioritised}
use Rattle.bt_net.specs.declared.network.TheConstants.{MOST_OF_EACH}
use Rattle.bt_gen.specs.declared.butterflies.TheConstants.{MOST_STAGES}
use Rattle.bt_gen.specs.declared.chains.TheConstants.{MOST_IN_CHAIN}
use Rattle.bt_gen.specs.Orders.{IsOrder}
use Rattle.bt_gen.proofs.Halves.{span, all_pass, all_pass_each}
use Rattle.bt_gen.specs.Butterfly.{butterfly_net}
use Rattle.bt_gen.specs.Chain.{chain_net}

-- what holds of each number from a on holds of one of them
each_from : (p : ℕ → Bool) (a n k : ℕ) → list_all p (range_with_len a n) ≡ true → a ≤ k → k < a + n → p k ≡ true
each_from p a n k all low high =
    let inside : k - a < length (range_with_len a n) = rw length-range_with_len (omega arith) in
    let at = AllPass-from_list_all p (range_with_len a n) all (k - a) 0 inside in
    subst (λ j. p j ≡ true) (get_or-range_with_len a n (k - a) 0 (omega arith) ∙ omega arith) at

starts : Network → Start → Bool
starts n (from.Input i) = nat_lt i n.inputs
starts n (from.Split s) = nat_lt s n.splitters

ends : Network → Target → Bool
ends n (to.Split s) = nat_lt s n.splitters
ends n (to.Output o) = nat_lt o n.outputs

starts_in : (n : Network) (s : Start) → starts n s ≡ true → StartsIn n s
unfolding starts
starts_in n (from.Input i) t = ltb-true i n.inputs t
starts_in n (from.Split s) t = ltb-true s n.splitters t

ends_in : (n : Network) (t : Target) → ends n t ≡ true → EndsIn n t
unfolding ends
ends_in n (to.Split s) t = ltb-true s n.splitters t
ends_in n (to.Output o) t = ltb-true o n.outputs t

-- the tests of edges, of counts at ends, and of sizes
edges_test : Network → Bool
edges_test n = list_all (λ e. starts n e.start && ends n e.target && nat_eq e.cap 1) n.edges

-- the number of an end, and of the splitter at it
start_key : Start → ℕ
start_key (from.Input i) = i
start_key (from.Split s) = s

target_key : Target → ℕ
target_key (to.Split s) = s
target_key (to.Output o) = o

inputs_test : ℕ → Network → Bool
inputs_test depth n = all_pass is_input (λ e. start_key e.start) (λ c. nat_eq c 1) depth 0 n.inputs n.edges

outputs_test : ℕ → Network → Bool
outputs_test depth n = all_pass is_output (λ e. target_key e.target) (λ c. nat_eq c 1) depth 0 n.outputs n.edges

entering_test : ℕ → Network → Bool
entering_test depth n = all_pass enters (λ e. target_key e.target) (λ c. nat_le c 2) depth 0 n.splitters n.edges

leaving_test : ℕ → Network → Bool
leaving_test depth n = all_pass leaves (λ e. start_key e.start) (λ c. nat_le c 2) depth 0 n.splitters n.edges

-- there are no more ends and splitters than are counted
few_test : ℕ → Network → Bool
few_test depth n = nat_le n.inputs (span depth) && nat_le n.outputs (span depth) && nat_le n.splitters (span depth)

ends_test : ℕ → Network → Bool
ends_test depth n = inputs_test depth n && outputs_test depth n

splitters_test : ℕ → Network → Bool
splitters_test depth n = entering_test depth n && leaving_test depth n

sizes_test : Network → Bool
sizes_test n = nat_le n.inputs MOST_OF_EACH && nat_le n.outputs MOST_OF_EACH && nat_le n.splitters MOST_OF_EACH && nat_le (length n.edges) MOST_OF_EACH && nat_lt 0 n.inputs && nat_lt 0 n.outputs

-- with two times two so often as many numbers counted
passes : ℕ → Network → Bool
passes depth n = edges_test n && ends_test depth n && splitters_test depth n && few_test depth n && sizes_test n

butterflies_pass : list_all (λ k. passes (k + 2) (butterfly_net k)) (range_with_len 1 MOST_STAGES) ≡ true
unfolding passes edges_test ends_test inputs_test outputs_test splitters_test entering_test leaving_test few_test sizes_test starts ends start_key target_key all_pass span
butterflies_pass = refl

chains_pass : list_all (λ k. passes 7 (chain_net k)) (range_with_len 1 MOST_IN_CHAIN) ≡ true
unfolding passes edges_test ends_test inputs_test outputs_test splitters_test entering_test leaving_test few_test sizes_test starts ends start_key target_key all_pass span
chains_pass = refl

-- what counts as a number has it
is_input_key : (i : ℕ) (s : Start) (t : Target) (c : ℕ) → is_input i (record { start = s; target = t; cap = c }) ≡ true → start_key s ≡ i
unfolding start_key
is_input_key i (from.Input k) t c e = eqb-true k i e
is_input_key i (from.Split k) t c e = absurd (false≢true e)

leaves_key : (i : ℕ) (s : Start) (t : Target) (c : ℕ) → leaves i (record { start = s; target = t; cap = c }) ≡ true → start_key s ≡ i
unfolding start_key
leaves_key i (from.Input k) t c e = absurd (false≢true e)
leaves_key i (from.Split k) t c e = eqb-true k i e

is_output_key : (i : ℕ) (s : Start) (t : Target) (c : ℕ) → is_output i (record { start = s; target = t; cap = c }) ≡ true → target_key t ≡ i
unfolding target_key
is_output_key i s (to.Output k) c e = eqb-true k i e
is_output_key i s (to.Split k) c e = absurd (false≢true e)

enters_key : (i : ℕ) (s : Start) (t : Target) (c : ℕ) → enters i (record { start = s; target = t; cap = c }) ≡ true → target_key t ≡ i
unfolding target_key
enters_key i s (to.Output k) c e = absurd (false≢true e)
enters_key i s (to.Split k) c e = eqb-true k i e

module _ (n : Network) where
  edge_passes : (e : Edge) → (starts n e.start && ends n e.target && nat_eq e.cap 1) ≡ true → StartsIn n e.start × EndsIn n e.target × IsCap e.cap
  edge_passes e t =
      let both = and_parts (starts n e.start && ends n e.target) (nat_eq e.cap 1) t in
      let ends_pass = and_parts (starts n e.start) (ends n e.target) both.0 in
      let one = eqb-true e.cap 1 both.1 in
      (starts_in n e.start ends_pass.0, ends_in n e.target ends_pass.1, rw one (lit≤ tt, lit≤ tt))

  edges_pass : edges_test n ≡ true → All (λ e. StartsIn n e.start × EndsIn n e.target × IsCap e.cap) n.edges
  unfolding edges_test
  edges_pass t =
      All-weaker (λ e. (starts n e.start && ends n e.target && nat_eq e.cap 1) ≡ true) (λ e. StartsIn n e.start × EndsIn n e.target × IsCap e.cap) edge_passes n.edges
      (AllPass-from_list_all (λ e. starts n e.start && ends n e.target && nat_eq e.cap 1) n.edges t)

  one_input : (depth : ℕ) → inputs_test depth n ≡ true → n.inputs ≤ span depth → (i : ℕ) → i < n.inputs → count_by (is_input i) n.edges ≡ 1
  unfolding inputs_test
  one_input depth t few i inside =
      eqb-true (count_by (is_input i) n.edges) 1 (all_pass_each is_input (λ e. start_key e.start) (λ c. nat_eq c 1)
      (λ s e. is_input_key s e.start e.target e.cap) depth 0 n.inputs n.edges t i (omega arith) (omega arith) inside)

  one_output : (depth : ℕ) → outputs_test depth n ≡ true → n.outputs ≤ span depth → (o : ℕ) → o < n.outputs → count_by (is_output o) n.edges ≡ 1
  unfolding outputs_test
  one_output depth t few o inside =
      eqb-true (count_by (is_output o) n.edges) 1 (all_pass_each is_output (λ e. target_key e.target) (λ c. nat_eq c 1)
      (λ s e. is_output_key s e.start e.target e.cap) depth 0 n.outputs n.edges t o (omega arith) (omega arith) inside)

  two_in : (depth : ℕ) → entering_test depth n ≡ true → n.splitters ≤ span depth → (s : ℕ) → s < n.splitters → count_by (enters s) n.edges ≤ 2
  unfolding entering_test
  two_in depth t few s inside =
      leb-true (count_by (enters s) n.edges) 2 (all_pass_each enters (λ e. target_key e.target) (λ c. nat_le c 2)
      (λ k e. enters_key k e.start e.target e.cap) depth 0 n.splitters n.edges t s (omega arith) (omega arith) inside)

  two_out : (depth : ℕ) → leaving_test depth n ≡ true → n.splitters ≤ span depth → (s : ℕ) → s < n.splitters → count_by (leaves s) n.edges ≤ 2
  unfolding leaving_test
  two_out depth t few s inside =
      leb-true (count_by (leaves s) n.edges) 2 (all_pass_each leaves (λ e. start_key e.start) (λ c. nat_le c 2)
      (λ k e. leaves_key k e.start e.target e.cap) depth 0 n.splitters n.edges t s (omega arith) (omega arith) inside)

  -- the sizes that a network may have
  record HasSizes : Type 0 where
    inputs : n.inputs ≤ MOST_OF_EACH
    outputs : n.outputs ≤ MOST_OF_EACH
    splitters : n.splitters ≤ MOST_OF_EACH
    edges : length n.edges ≤ MOST_OF_EACH
    some_input : 0 < n.inputs
    some_output : 0 < n.outputs

  sizes_pass : sizes_test n ≡ true → HasSizes
  unfolding sizes_test
  sizes_pass t =
      let a = and_parts (nat_le n.inputs MOST_OF_EACH && nat_le n.outputs MOST_OF_EACH && nat_le n.splitters MOST_OF_EACH && nat_le (length n.edges) MOST_OF_EACH && nat_lt 0 n.inputs) (nat_lt 0 n.outputs) t in
      let b = and_parts (nat_le n.inputs MOST_OF_EACH && nat_le n.outputs MOST_OF_EACH && nat_le n.splitters MOST_OF_EACH && nat_le (length n.edges) MOST_OF_EACH) (nat_lt 0 n.inputs) a.0 in
      let c = and_parts (nat_le n.inputs MOST_OF_EACH && nat_le n.outputs MOST_OF_EACH && nat_le n.splitters MOST_OF_EACH) (nat_le (length n.edges) MOST_OF_EACH) b.0 in
      let d = and_parts (nat_le n.inputs MOST_OF_EACH && nat_le n.outputs MOST_OF_EACH) (nat_le n.splitters MOST_OF_EACH) c.0 in
      let e = and_parts (nat_le n.inputs MOST_OF_EACH) (nat_le n.outputs MOST_OF_EACH) d.0 in
      record {
        inputs = leb-true n.inputs MOST_OF_EACH e.0;
        outputs = leb-true n.outputs MOST_OF_EACH e.1;
        splitters = leb-true n.splitters MOST_OF_EACH d.1;
        edges = leb-true (length n.edges) MOST_OF_EACH c.1;
        some_input = ltb-true 0 n.inputs b.1;
        some_output = ltb-true 0 n.outputs a.1;
      }

  -- what passes the tests is a network
  is_network : (depth : ℕ) → HasNoPriorities n → passes depth n ≡ true → IsNetwork n
  unfolding passes ends_test splitters_test few_test
  is_network depth plain t =
      let a = and_parts (edges_test n && ends_test depth n && splitters_test depth n && few_test depth n) (sizes_test n) t in
      let b = and_parts (edges_test n && ends_test depth n && splitters_test depth n) (few_test depth n) a.0 in
      let c = and_parts (edges_test n && ends_test depth n) (splitters_test depth n) b.0 in
      let d = and_parts (edges_test n) (ends_test depth n) c.0 in
      let at_ends = and_parts (inputs_test depth n) (outputs_test depth n) d.1 in
      let at_splitters = and_parts (entering_test depth n) (leaving_test depth n) c.1 in
      let few = and_parts (nat_le n.inputs (span depth) && nat_le n.outputs (span depth)) (nat_le n.splitters (span depth)) b.1 in
      let few_ends = and_parts (nat_le n.inputs (span depth)) (nat_le n.outputs (span depth)) few.0 in
      let few_splitters = leb-true n.splitters (span depth) few.1 in
      let sizes = sizes_pass a.1 in
      let of_edges = edges_pass d.0 in
      record {
        wired = record {
          starts = λ k e inside. (of_edges k e inside).0;
          targets = λ k e inside. (of_edges k e inside).1;
          caps = λ k e inside. (of_edges k e inside).2;
          one_in = one_input depth at_ends.0 (leb-true n.inputs (span depth) few_ends.0);
          one_out = one_output depth at_ends.1 (leb-true n.outputs (span depth) few_ends.1);
          few_in = two_in depth at_splitters.0 few_splitters;
          few_out = two_out depth at_splitters.1 few_splitters;
        };
        prioritised = plain_is_prioritised n plain;
        few_inputs = sizes.inputs;
        few_outputs = sizes.outputs;
        few_splitters = sizes.splitters;
        few_edges = sizes.edges;
        some_input = omega (arith, sizes.some_input);
        some_output = omega (arith, sizes.some_output);
      }

-- a butterfly is a network
pub butterfly_is_network : (order : ℕ) → IsOrder MOST_STAGES order → IsNetwork (butterfly_net order)
butterfly_is_network order within = is_network (butterfly_net order) (order + 2) (record { gives = refl; takes = refl; merges = refl }) (each_from (λ k. passes (k + 2) (butterfly_net k)) 1 MOST_STAGES order butterflies_pass within.0 (omega (arith, within.1)))

-- a chain is a network
pub chain_is_network : (order : ℕ) → IsOrder MOST_IN_CHAIN order → IsNetwork (chain_net order)
chain_is_network order within = is_network (chain_net order) 7 (record { gives = refl; takes = refl; merges = refl }) (each_from (λ k. passes 7 (chain_net k)) 1 MOST_IN_CHAIN order chains_pass within.0 (omega (arith, within.1)))
