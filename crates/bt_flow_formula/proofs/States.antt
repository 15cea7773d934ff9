-- The state of marks and values breaks what these meet.
use Rattle.std.proofs.Common.{◌≡◌, ℕ, ◌<◌, ◌+◌, Bool, false, ℤ, pos, List, [], ◌∷◌, length, map, get_or, ap, sym, ◌∙◌, subst, arith, zero, suc}
use Rattle.std.specs.List.{All, AllByRecursion, range_with_len}
use Rattle.std.proofs.lemmas.Int.{ints}
use Rattle.std.proofs.lemmas.List.FromFn.{length-map-range_with_len, get_or-map-range_with_len}
use Rattle.bt_frac.specs.Ratio.{Ratio, IsLowest, IsOver, AreOver}
use Rattle.bt_frac.specs.Values.{value_in, nothing}
use Rattle.bt_frac.proofs.Gcds.{whole_lowest}
use Rattle.bt_net.specs.Network.{Network, IsNetwork}
use Rattle.bt_flow.specs.States.{Flows, AreLowest, Fits, StandsFor, flow_at, load_at, room_at}
use Rattle.bt_flow.proofs.Denominators.{some_flows}
use Rattle.bt_cnf.specs.Assignments.{truth_in}
use Rattle.bt_flow.specs.EndEdges.{load_column, room_column}
use Rattle.bt_flow_formula.specs.Solutions.{HasValues, state_at, BreaksWhatIsMet}
use Rattle.bt_flow_formula.proofs.Numbers.{all_from, all_to}
use Rattle.bt_flow_formula.proofs.Withins.{each-map, each_any}
use Rattle.bt_flow_formula.proofs.Solved.{meeting_breaks}

none_lowest : IsLowest nothing
none_lowest = whole_lowest (pos 0) (omega (arith, ints))

-- the value of each column is in lowest terms
low_at : (values : List Ratio) → AllByRecursion IsLowest values → (column : ℕ) → IsLowest (get_or values column nothing)
low_at [] h zero = none_lowest
low_at [] h (suc column) = none_lowest
low_at (value ∷ values) h zero = h.0
low_at (value ∷ values) h (suc column) = low_at values h.1 column

-- fractions by column stand for whole numbers, each at its column
over_at : (v : ℕ → Ratio) (d first count : ℕ) (ws : List ℤ) → AreOver (map v (range_with_len first count)) ws d → (i : ℕ) → i < count → IsOver (v (first + i)) (get_or ws i (pos 0)) d
over_at v d first zero ws h i l = absurd (omega arith)
over_at v d first (suc count) [] h i l = absurd h
over_at v d first (suc count) (w ∷ ws) h zero l = subst (λ c. IsOver (v c) w d) (let z : first ≡ first + 0 = omega arith in z) h.0
over_at v d first (suc count) (w ∷ ws) h (suc i) l =
    subst (λ c. IsOver (v c) (get_or ws i (pos 0)) d) (let z : first + 1 + i ≡ first + suc i = omega arith in z) (over_at v d (first + 1) count ws h.1 i (omega arith))

module _ (n : Network) (mark : ℕ → Bool) (v : ℕ → Ratio) where
  pub fits : Fits n (state_at n mark v)
  fits = record {
    flows = length-map-range_with_len v 0 (length n.edges);
    backed = length-map-range_with_len mark 0 (length n.edges);
    loads = length-map-range_with_len v (load_column n 0) n.inputs;
    rooms = length-map-range_with_len v (room_column n 0) n.outputs;
  }

  pub lowest : ((column : ℕ) → IsLowest (v column)) → AreLowest (state_at n mark v)
  lowest low =
      let part : (first count : ℕ) → All IsLowest (map v (range_with_len first count)) = λ first count.
      all_from IsLowest (map v (range_with_len first count)) (each-map IsLowest (λ x. Unit {0}) v (range_with_len first count) (each_any (range_with_len first count)) (λ c t. low c)) in
      record { flows = part 0 (length n.edges); loads = part (load_column n 0) n.inputs; rooms = part (room_column n 0) n.outputs }

  pub has_values : (s : Flows) → StandsFor n (state_at n mark v) s → HasValues n s mark v
  has_values s stands =
      let d = s.denominator in
      record {
        state = stands.is_state;
        marks = λ a l. ap (λ marks. get_or marks a false) (sym stands.backed) ∙ get_or-map-range_with_len mark 0 (length n.edges) a a false l (let z : 0 + a ≡ a = omega arith in z);
        flows = λ a l. subst (λ c. IsOver (v c) (flow_at s a) d) (let z : 0 + a ≡ a = omega arith in z) (over_at v d 0 (length n.edges) s.flows stands.flows a l);
        loads = λ i l. subst (λ c. IsOver (v c) (load_at s i) d) (let z : load_column n 0 + i ≡ load_column n i = omega arith in z) (over_at v d (load_column n 0) n.inputs s.loads stands.loads i l);
        rooms = λ o l. subst (λ c. IsOver (v c) (room_at s o) d) (let z : room_column n 0 + o ≡ room_column n o = omega arith in z) (over_at v d (room_column n 0) n.outputs s.rooms stands.rooms o l);
      }

  pub state_breaks : IsNetwork n → ((column : ℕ) → IsLowest (v column)) → BreaksWhatIsMet n mark v (state_at n mark v)
  state_breaks is low = λ p met.
      record {
        some = some_flows n (state_at n mark v) (lowest low) fits;
        each = λ s stands. meeting_breaks n p mark v s is (λ column. (low column).positive) met (has_values s stands);
      }

pub state_of_breaks : (n : Network) (truths : List Bool) (values : List Ratio) → IsNetwork n → All IsLowest values
    → BreaksWhatIsMet n (truth_in truths) (value_in values) (state_at n (truth_in truths) (value_in values))
state_of_breaks n truths values is low = state_breaks n (truth_in truths) (value_in values) is (low_at values (all_to IsLowest values low))
