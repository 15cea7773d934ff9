-- The network's edges, and their classes.
use Rattle.std.proofs.Common.{◌≡◌, ℕ, ◌<◌, ◌&&◌, Bool, true, false, List, length, map, cond, Some, refl, sym, ◌∙◌, ap, subst, ⊎_elim, arith}
use Rattle.std.specs.List.{slice_get, flat_map, range_with_len}
use Rattle.std.proofs.lemmas.Bool.{eq-eqb}
use Rattle.std.proofs.lemmas.Option.{same_Some, slice_get_within}
use Rattle.bt_net.specs.declared.network.Edge.{Edge}
use Rattle.bt_net.specs.declared.network.End.TheVariants as end
use Rattle.bt_net.specs.declared.network.Start.{Start}
use Rattle.bt_net.specs.declared.network.Start.TheVariants as from
use Rattle.bt_net.specs.declared.network.Target.{Target}
use Rattle.bt_net.specs.declared.network.Target.TheVariants as to
use Rattle.bt_net.specs.Network.{is_input, is_output, StartsIn, EndsIn}
use Rattle.bt_net.specs.declared.network.Demand.{Demand}
use Rattle.bt_facts.specs.declared.fact.Class.{Class}
use Rattle.bt_facts.specs.declared.fact.Class.TheVariants.{Split, Shared, Input}
use Rattle.bt_demands.specs.Classes.{is_pinned, side_of, class_between, class_of, same_class, is_of, leads_out, occurs, ends_out, is_through, splitters_of, shared_into, from_inputs, input_classes, classes_of}
use Rattle.bt_rules.proofs.Classed.{class_same, same_itself, input_start, output_target, out_target, target_out}
use Rattle.bt_facts.proofs.Keeping.{In, both_true, from_filter, from_map, in_both, in_filter, in_left, in_map, in_range, in_right}
use Rattle.bt_demands.proofs.Sharing.{in_shared, from_shared}
use Rattle.bt_rules.proofs.kept.ListFacts.{all_at, counted}
use Rattle.bt_rules.proofs.kept.RankFacts.{true_both, any_has, has_any}
use Rattle.bt_rules.proofs.kept.Solved.{Solved}

-- the network's edge with this number
abbrev pub IsEdge : Solved → ℕ → Edge → Type 0
IsEdge w e edge = slice_get w.r.net.edges e ≡ Some edge

pub edge_below : (w : Solved) (e : ℕ) (edge : Edge) → IsEdge w e edge → e < length w.r.net.edges
edge_below w e edge is = slice_get_within w.r.net.edges e edge is

pub same_edge : (w : Solved) (d e : ℕ) (a b : Edge) → d ≡ e → IsEdge w d a → IsEdge w e b → a ≡ b
same_edge w d e a b same is_a is_b = same_Some a b (sym is_a ∙ ap (slice_get w.r.net.edges) same ∙ is_b)

-- ---- starts and targets

pub output_by : (o : ℕ) (edge : Edge) → edge.target ≡ to.Output o → is_output o edge ≡ true
output_by o edge e = ap (λ x. is_output o (record edge { target = x })) e ∙ eq-eqb o o refl

pub input_by : (i : ℕ) (edge : Edge) → edge.start ≡ from.Input i → is_input i edge ≡ true
input_by i edge e = ap (λ x. is_input i (record edge { start = x })) e ∙ eq-eqb i i refl

module _ (w : Solved) where
  pub input_edge : (i : ℕ) → i < w.r.net.inputs → (e : ℕ) × (edge : Edge) × IsEdge w e edge × (edge.start ≡ from.Input i)
  input_edge i lt =
      let found = counted (is_input i) w.r.net.edges (w.is_request.net.wired.one_in i lt) in
      (found.0, found.1, found.2, input_start i found.1 found.3)

  pub output_edge : (o : ℕ) → o < w.r.net.outputs → (e : ℕ) × (edge : Edge) × IsEdge w e edge × (edge.target ≡ to.Output o)
  output_edge o lt =
      let found = counted (is_output o) w.r.net.edges (w.is_request.net.wired.one_out o lt) in
      (found.0, found.1, found.2, output_target o found.1 found.3)

  pub edge_starts : (e : ℕ) (edge : Edge) → IsEdge w e edge → StartsIn w.r.net edge.start
  edge_starts e edge is = all_at (λ x. StartsIn w.r.net x.start) w.r.net.edges e edge w.is_request.net.wired.starts is

  pub edge_ends : (e : ℕ) (edge : Edge) → IsEdge w e edge → EndsIn w.r.net edge.target
  edge_ends e edge is = all_at (λ x. EndsIn w.r.net x.target) w.r.net.edges e edge w.is_request.net.wired.targets is

-- ---- classes

-- what the class of an edge says of its ends
abbrev pub Suits : Class → Start → Target → Type 0
Suits (Split s) start target = start ≡ from.Split s
Suits (Shared t w) start target = ((i : ℕ) × (start ≡ from.Input i)) × (target ≡ to.Split t)
Suits (Input i) start target = start ≡ from.Input i

suits_between : (demands : List Demand) (start : Start) (target : Target) → Suits (class_between demands start target) start target
suits_between demands (from.Split s) target = refl
suits_between demands (from.Input i) (to.Output o) = refl
suits_between demands (from.Input i) (to.Split t) = by (is_pinned demands i) where
  by : (b : Bool) → Suits (cond b (Input i) (Shared t (side_of demands (end.Input i)))) (from.Input i) (to.Split t)
  by true = refl
  by false = ((i, refl), refl)

pub class_suits : (demands : List Demand) (edge : Edge) (k : Class) → class_of demands edge ≡ k → Suits k edge.start edge.target
class_suits demands edge k e = subst (λ x. Suits x edge.start edge.target) e (suits_between demands edge.start edge.target)

pub class_of_split : (demands : List Demand) (edge : Edge) (s : ℕ) → edge.start ≡ from.Split s → class_of demands edge ≡ Split s
class_of_split demands edge s e = ap (λ x. class_between demands x edge.target) e

pub class_through : (demands : List Demand) (edge : Edge) (i o : ℕ) → edge.start ≡ from.Input i → edge.target ≡ to.Output o → class_of demands edge ≡ Input i
class_through demands edge i o e f = ap (λ x. class_between demands x edge.target) e ∙ ap (λ x. class_between demands (from.Input i) x) f

-- the class of an edge of a pinned input
pub class_pinned : (demands : List Demand) (edge : Edge) (i : ℕ) → edge.start ≡ from.Input i → is_pinned demands i ≡ true → class_of demands edge ≡ Input i
class_pinned demands edge i e pinned = ap (λ x. class_between demands x edge.target) e ∙ by edge.target where
  by : (target : Target) → class_between demands (from.Input i) target ≡ Input i
  by (to.Output o) = refl
  by (to.Split t) = ap (λ b. cond b (Input i) (Shared t (side_of demands (end.Input i)))) pinned

-- no class of inputs is a splitter's
pub input_no_split : (w : Solved) (s : ℕ) → In (input_classes w.r) (Split s) → ⊥
input_no_split w s there =
    let found = from_filter (occurs w.r) (from_inputs w.r) (Split s) there in
    ⊎_elim
    (λ l. let at = from_shared (splitters_of w.r) (Split s) l in let e = at.2 in absurd (cc))
    (λ r. let at = from_map Input (range_with_len 0 w.r.net.inputs) (Split s) r in let e = at.2 in absurd (cc))
    (in_both (flat_map shared_into (splitters_of w.r)) (map Input (range_with_len 0 w.r.net.inputs)) (Split s) found.0)

module _ (w : Solved) (e : ℕ) (edge : Edge) (is : IsEdge w e edge) where
  occurs_here : (k : Class) → class_of w.r.demands edge ≡ k → occurs w.r k ≡ true
  occurs_here k same = has_any (is_of w.r.demands k) w.r.net.edges e edge is
      (subst (λ x. same_class k x ≡ true) (sym same) (same_itself k))

  -- the class of an edge is one of the classes
  pub class_in : (k : Class) → class_of w.r.demands edge ≡ k → In (classes_of w.r) k
  class_in k same = by k same (class_suits w.r.demands edge k same) where
    by : (k : Class) → class_of w.r.demands edge ≡ k → Suits k edge.start edge.target → In (classes_of w.r) k
    by (Split s) same starts =
        let lt : s < w.r.net.splitters = subst (StartsIn w.r.net) starts (edge_starts w e edge is) in
        in_left (map Split (splitters_of w.r)) (input_classes w.r) (Split s) (in_map Split (splitters_of w.r) s (in_range 0 w.r.net.splitters s (omega arith) (omega arith)))
    by (Shared t way) same suits =
        let lt : t < w.r.net.splitters = subst (EndsIn w.r.net) suits.1 (edge_ends w e edge is) in
        in_right (map Split (splitters_of w.r)) (input_classes w.r) (Shared t way)
        (in_filter (occurs w.r) (from_inputs w.r) (Shared t way)
        (in_left (flat_map shared_into (splitters_of w.r)) (map Input (range_with_len 0 w.r.net.inputs)) (Shared t way)
        (in_shared (splitters_of w.r) t way (in_range 0 w.r.net.splitters t (omega arith) (omega arith)))) (occurs_here (Shared t way) same))
    by (Input i) same starts =
        let lt : i < w.r.net.inputs = subst (StartsIn w.r.net) starts (edge_starts w e edge is) in
        in_right (map Split (splitters_of w.r)) (input_classes w.r) (Input i)
        (in_filter (occurs w.r) (from_inputs w.r) (Input i)
        (in_right (flat_map shared_into (splitters_of w.r)) (map Input (range_with_len 0 w.r.net.inputs)) (Input i)
        (in_map Input (range_with_len 0 w.r.net.inputs) i (in_range 0 w.r.net.inputs i (omega arith) (omega arith)))) (occurs_here (Input i) same))

  -- an edge from an input to an output makes it one that leads there
  pub through_here : (i o : ℕ) → edge.start ≡ from.Input i → edge.target ≡ to.Output o → is_through w.r i ≡ true
  through_here i o starts ends = has_any (λ x. is_input i x && leads_out x) w.r.net.edges e edge is
      (true_both (is_input i edge) (leads_out edge) (input_by i edge starts) (target_out o edge ends))

-- an edge of a class of which one ends at an output
pub out_edge : (w : Solved) (k : Class) → ends_out w.r k ≡ true → (e : ℕ) × (edge : Edge) × IsEdge w e edge × (class_of w.r.demands edge ≡ k) × ((o : ℕ) × (edge.target ≡ to.Output o))
out_edge w k h =
    let found = any_has (λ edge. is_of w.r.demands k edge && leads_out edge) w.r.net.edges h in
    let both = both_true (is_of w.r.demands k found.1) (leads_out found.1) found.3 in
    (found.0, found.1, found.2, sym (class_same k (class_of w.r.demands found.1) both.0), out_target found.1 both.1)
