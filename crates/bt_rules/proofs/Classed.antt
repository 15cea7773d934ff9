-- The class of each part of a layout, and where the lists of classes of the request have it.
use Rattle.std.proofs.Common.{◌≡◌, ◌⊎◌, inl, inr, ℕ, ◌<◌, ◌==◌, Bool, true, false, ◌&&◌, cond, List, map, length, Some, eqb-true, eq-eqb, refl, sym, ◌∙◌, ap, subst, ⊎_elim, arith}
use Rattle.std.specs.List.{Contains, flat_map, range_with_len}
use Rattle.std.proofs.lemmas.Bool.{false≢true}
use Rattle.bt_parts.specs.declared.part.Cell.{Cell}
use Rattle.bt_parts.specs.declared.part.Part.{Part}
use Rattle.bt_parts.specs.Layouts.{IsAt}
use Rattle.bt_net.specs.declared.network.Edge.{Edge}
use Rattle.bt_net.specs.declared.network.End.TheVariants as end
use Rattle.bt_net.specs.declared.network.Start.{Start}
use Rattle.bt_net.specs.declared.network.Start.TheVariants as from
use Rattle.bt_net.specs.declared.network.Target.{Target}
use Rattle.bt_net.specs.declared.network.Target.TheVariants as to
use Rattle.bt_net.specs.Network.{StartsIn, EndsIn, enters, leaves, is_input, is_output}
use Rattle.bt_model.specs.Chains.{IsSplitter, IsLink, IsInput, IsOutput, Source, Sink}
use Rattle.bt_model.specs.Chains as chains
use Rattle.bt_model.specs.Laying.{Lays}
use Rattle.bt_model.specs.Requests.{LayoutRequest, IsRequest}
use Rattle.bt_model.specs.Shown.{IsEdgeOf, IsStartOf, IsTargetOf}
use Rattle.bt_model.proofs.ChainLemmas.{no_link}
use Rattle.bt_model.proofs.ExistLemmas.{part_cases, from_input}
use Rattle.bt_model.proofs.Sorted.{one_place}
use Rattle.bt_facts.specs.declared.fact.Class.{Class}
use Rattle.bt_facts.specs.declared.fact.Class.TheVariants.{Split, Shared, Input}
use Rattle.bt_demands.specs.Classes.{is_pinned, side_of, class_between, class_of, same_way, same_class, is_of, leads_out, occurs, goes_to, ends_out, is_through, splitters_of, shared_into, from_inputs, input_classes, classes_of}
use Rattle.bt_rules.proofs.Chaining.{chain_through, one_chain, contained_link, has_input, has_output}
use Rattle.bt_facts.proofs.Keeping.{In, place_of, from_any, both_true, in_left, in_right, in_map, in_at, in_range, in_filter, any_in}
use Rattle.bt_rules.proofs.Laid.{match_of, is_orderly}
use Rattle.bt_rules.proofs.Matching.{Matched}
use Rattle.bt_rules.proofs.Reading.{Bears, LiesOn, edge_at, no_edge}
use Rattle.bt_demands.proofs.Sharing.{way_same, way_itself, in_shared}
use Rattle.bt_rules.proofs.StandingStay.{HasSaid, splitter_number}

-- ---- classes of edges

-- classes that are found the same are the same
pub class_same : (k l : Class) → same_class k l ≡ true → k ≡ l
class_same (Split s) (Split t) e = ap Split (eqb-true s t e)
class_same (Shared s v) (Shared t w) e = let tests = both_true (s == t) (same_way v w) e in let number = eqb-true s t tests.0 in let way = way_same v w tests.1 in λ i. Shared (number i) (way i)
class_same (Input s) (Input t) e = ap Input (eqb-true s t e)
class_same k l e = absurd (false≢true e)

pub same_itself : (k : Class) → same_class k k ≡ true
same_itself (Split s) = eq-eqb s s refl
same_itself (Shared s w) = ap (λ b. b && same_way w w) (eq-eqb s s refl) ∙ way_itself w
same_itself (Input s) = eq-eqb s s refl

pub same_found : (k l : Class) → k ≡ l → same_class k l ≡ true
same_found k l e = subst (λ x. same_class k x ≡ true) e (same_itself k)

-- two classes are the same, or they aren't
pub class_cases : (k l : Class) → ((same_class k l ≡ true) × (k ≡ l)) ⊎ ((same_class k l ≡ false) × (k ≡ l → ⊥))
class_cases k l = by (same_class k l) refl
  where
    by : (b : Bool) → same_class k l ≡ b → ((same_class k l ≡ true) × (k ≡ l)) ⊎ ((same_class k l ≡ false) × (k ≡ l → ⊥))
    by true e = inl (e, class_same k l e)
    by false e = inr (e, λ same. false≢true (sym e ∙ same_found k l same))

-- an edge that leaves a splitter starts there
pub leaves_start : (s : ℕ) (edge : Edge) → leaves s edge ≡ true → edge.start ≡ from.Split s
leaves_start s edge t = by edge.start refl
  where
    at : (start : Start) → edge.start ≡ start → leaves s (record edge { start = start }) ≡ true
    at start e = sym (ap (λ x. leaves s (record edge { start = x })) e) ∙ t

    by : (start : Start) → edge.start ≡ start → edge.start ≡ from.Split s
    by (from.Split k) e = e ∙ ap from.Split (eqb-true k s (at (from.Split k) e))
    by (from.Input i) e = absurd (false≢true (at (from.Input i) e))

pub enters_target : (s : ℕ) (edge : Edge) → enters s edge ≡ true → edge.target ≡ to.Split s
enters_target s edge t = by edge.target refl
  where
    at : (target : Target) → edge.target ≡ target → enters s (record edge { target = target }) ≡ true
    at target e = sym (ap (λ x. enters s (record edge { target = x })) e) ∙ t

    by : (target : Target) → edge.target ≡ target → edge.target ≡ to.Split s
    by (to.Split k) e = e ∙ ap to.Split (eqb-true k s (at (to.Split k) e))
    by (to.Output o) e = absurd (false≢true (at (to.Output o) e))

pub input_start : (i : ℕ) (edge : Edge) → is_input i edge ≡ true → edge.start ≡ from.Input i
input_start i edge t = by edge.start refl
  where
    at : (start : Start) → edge.start ≡ start → is_input i (record edge { start = start }) ≡ true
    at start e = sym (ap (λ x. is_input i (record edge { start = x })) e) ∙ t

    by : (start : Start) → edge.start ≡ start → edge.start ≡ from.Input i
    by (from.Input k) e = e ∙ ap from.Input (eqb-true k i (at (from.Input k) e))
    by (from.Split s) e = absurd (false≢true (at (from.Split s) e))

pub output_target : (o : ℕ) (edge : Edge) → is_output o edge ≡ true → edge.target ≡ to.Output o
output_target o edge t = by edge.target refl
  where
    at : (target : Target) → edge.target ≡ target → is_output o (record edge { target = target }) ≡ true
    at target e = sym (ap (λ x. is_output o (record edge { target = x })) e) ∙ t

    by : (target : Target) → edge.target ≡ target → edge.target ≡ to.Output o
    by (to.Output k) e = e ∙ ap to.Output (eqb-true k o (at (to.Output k) e))
    by (to.Split s) e = absurd (false≢true (at (to.Split s) e))

pub out_target : (edge : Edge) → leads_out edge ≡ true → (o : ℕ) × (edge.target ≡ to.Output o)
out_target edge t = by edge.target refl
  where
    by : (target : Target) → edge.target ≡ target → (o : ℕ) × (edge.target ≡ to.Output o)
    by (to.Output o) e = (o, e)
    by (to.Split s) e = absurd (false≢true (sym (ap (λ x. leads_out (record edge { target = x })) e) ∙ t))

pub start_leaves : (s : ℕ) (edge : Edge) → edge.start ≡ from.Split s → leaves s edge ≡ true
start_leaves s edge e = ap (λ x. leaves s (record edge { start = x })) e ∙ eq-eqb s s refl

pub target_enters : (s : ℕ) (edge : Edge) → edge.target ≡ to.Split s → enters s edge ≡ true
target_enters s edge e = ap (λ x. enters s (record edge { target = x })) e ∙ eq-eqb s s refl

pub target_out : (o : ℕ) (edge : Edge) → edge.target ≡ to.Output o → leads_out edge ≡ true
target_out o edge e = ap (λ x. leads_out (record edge { target = x })) e

-- ---- the lists of classes

module _ (r : LayoutRequest) (is : IsRequest r) where
  edge_starts : (edge : Edge) → In r.net.edges edge → StartsIn r.net edge.start
  edge_starts edge h = let place = place_of r.net.edges edge h in subst (λ e. StartsIn r.net e.start) (place.2 edge) (is.net.wired.starts place.0 edge place.1)

  edge_ends : (edge : Edge) → In r.net.edges edge → EndsIn r.net edge.target
  edge_ends edge h = let place = place_of r.net.edges edge h in subst (λ e. EndsIn r.net e.target) (place.2 edge) (is.net.wired.targets place.0 edge place.1)

  pub in_splitters : (s : ℕ) → s < r.net.splitters → In (splitters_of r) s
  in_splitters s lt = in_range 0 r.net.splitters s (omega arith) (omega (arith, lt))

  pub split_listed : (s : ℕ) → s < r.net.splitters → In (classes_of r) (Split s)
  split_listed s lt = in_left (map Split (splitters_of r)) (input_classes r) (Split s) (in_map Split (splitters_of r) s (in_splitters s lt))

  edge_occurs : (edge : Edge) → In r.net.edges edge → occurs r (class_of r.demands edge) ≡ true
  edge_occurs edge h = any_in (is_of r.demands (class_of r.demands edge)) r.net.edges edge h (same_itself (class_of r.demands edge))

  -- the class of an edge from an input
  pub input_edge_listed : (edge : Edge) (k : ℕ) → In r.net.edges edge → edge.start ≡ from.Input k → In (input_classes r) (class_of r.demands edge)
  input_edge_listed edge k h at =
      in_filter (occurs r) (from_inputs r) (class_of r.demands edge)
      (subst (In (from_inputs r)) (sym (ap (λ start. class_between r.demands start edge.target) at))
      (by edge.target (edge_ends edge h) (is_pinned r.demands k)))
      (edge_occurs edge h)
    where
      own : In (from_inputs r) (Input k)
      own = in_right (flat_map shared_into (splitters_of r)) (map Input (range_with_len 0 r.net.inputs)) (Input k)
          (in_map Input (range_with_len 0 r.net.inputs) k (let below = subst (StartsIn r.net) at (edge_starts edge h) in in_range 0 r.net.inputs k (omega arith) (omega (arith, below))))

      by : (target : Target) → EndsIn r.net target → Bool → In (from_inputs r) (class_between r.demands (from.Input k) target)
      by (to.Output o) below b = own
      by (to.Split t) below b = or (is_pinned r.demands k)
        where
          or : (b : Bool) → In (from_inputs r) (cond b (Input k) (Shared t (side_of r.demands (end.Input k))))
          or true = own
          or false = in_left (flat_map shared_into (splitters_of r)) (map Input (range_with_len 0 r.net.inputs)) (Shared t (side_of r.demands (end.Input k))) (in_shared (splitters_of r) t (side_of r.demands (end.Input k)) (in_splitters t below))

  pub edge_class_listed : (edge : Edge) → In r.net.edges edge → In (classes_of r) (class_of r.demands edge)
  edge_class_listed edge h = by edge.start refl (edge_starts edge h)
    where
      by : (start : Start) → edge.start ≡ start → StartsIn r.net start → In (classes_of r) (class_of r.demands edge)
      by (from.Split s) at below = subst (In (classes_of r)) (sym (ap (λ start. class_between r.demands start edge.target) at)) (split_listed s below)
      by (from.Input k) at below = in_right (map Split (splitters_of r)) (input_classes r) (class_of r.demands edge) (input_edge_listed edge k h at)

  -- the class of an input that leads to an output
  pub through_listed : (i : ℕ) → is_through r i ≡ true → In (classes_of r) (Input i)
  through_listed i t =
      let found = from_any (λ edge. is_input i edge && leads_out edge) r.net.edges t in
      let tests = both_true (is_input i found.0) (leads_out found.0) found.2 in
      let start = input_start i found.0 tests.0 in
      let out = out_target found.0 tests.1 in
      subst (In (classes_of r)) (ap (λ x. class_between r.demands x found.0.target) start ∙ ap (class_between r.demands (from.Input i)) out.1) (edge_class_listed found.0 found.1)

module _ (r : LayoutRequest) (parts : List Part) (lays : Lays parts r) where
  abbrev pub m : Matched parts lays.naming r.net.edges
  m = match_of r parts lays

  -- the edge with a number, and its class
  abbrev pub the_edge : ℕ → Edge
  the_edge e = edge_at r.net.edges e

  abbrev pub class_at : ℕ → Class
  class_at e = class_of r.demands (the_edge e)

  pub is_edge : (e : ℕ) → e < length r.net.edges → IsEdgeOf parts lays.naming (m.chain_of e) (the_edge e)
  is_edge e lt = m.is_edge e no_edge lt

  pub edge_in : (e : ℕ) → e < length r.net.edges → In r.net.edges (the_edge e)
  edge_in e lt = in_at r.net.edges e no_edge lt

  -- the part lies on the chain of this edge
  abbrev pub Lies : ℕ → ℕ → Type 0
  Lies i e = LiesOn parts lays.naming r.net.edges r.demands m i e

  -- ---- the class of a part

  pub link_lies : (i : ℕ) → IsLink parts i → (e : ℕ) × Lies i e
  link_lies i link =
      let through = chain_through parts lays.shows.clean i link in
      let edge = m.each through.0 through.1 in
      (edge.0, (edge.1, subst (λ d. Contains d.links i) (sym edge.2) through.2))

  pub lies_link : (i e : ℕ) → Lies i e → IsLink parts i
  lies_link i e lies = contained_link parts lays.shows.clean (m.chain_of e) i (m.is_chain e lies.0) lies.1

  pub one_edge : (i e f : ℕ) → Lies i e → Lies i f → e ≡ f
  one_edge i e f a b = m.apart e f a.0 b.0 (one_chain parts lays.shows.clean (m.chain_of e) (m.chain_of f) i (m.is_chain e a.0) (m.is_chain f b.0) a.1 b.1)

  pub lies_class : (i e : ℕ) → Lies i e → HasSaid r parts lays i (class_at e)
  lies_class i e lies = inr (e, lies, refl)

  -- each part has a class
  pub class_there : (i : ℕ) (c : _) → IsAt parts i c → (k : Class) × HasSaid r parts lays i k
  class_there i c at = ⊎_elim
      (λ splitter. let number = splitter_number r parts lays i splitter in (Split number.0, inl (splitter, (number.0, number.2, refl))))
      (λ link. let e = link_lies i link in (class_at e.0, inr (e.0, e.1, refl)))
      (part_cases parts i at.part at.is_i)

  -- and no other
  pub one_class : (i : ℕ) (k l : Class) → HasSaid r parts lays i k → HasSaid r parts lays i l → k ≡ l
  one_class i k l (inl a) (inl b) =
      a.1.2 ∙ ap Split (one_place lays.naming.splitters lays.shows.names.splitters.once a.1.0 b.1.0 i a.1.1 b.1.1) ∙ sym b.1.2
  one_class i k l (inl a) (inr b) = absurd (no_link parts i a.0 (lies_link i b.0 b.1))
  one_class i k l (inr a) (inl b) = absurd (no_link parts i b.0 (lies_link i a.0 a.1))
  one_class i k l (inr a) (inr b) = a.2 ∙ ap class_at (one_edge i a.0 b.0 a.1 b.1) ∙ sym b.2

  -- ---- where edges start and end

  -- an edge whose chain starts at a splitter starts at its number
  pub start_of : (source : Source) (start : Start) (s i : ℕ) (half : _) → source ≡ chains.leaves i half → Bears lays.naming.splitters s i → IsStartOf lays.naming source start → start ≡ from.Split s
  start_of (chains.begins j c) start s i half e named is = absurd (cc)
  start_of (chains.leaves j c) (from.Input k) s i half e named is = absurd is
  start_of (chains.leaves j c) (from.Split k) s i half e named is =
      let same : j ≡ i = cc in
      ap from.Split (one_place lays.naming.splitters lays.shows.names.splitters.once k s i (is ∙ ap Some same) named)

  pub target_of : (sink : Sink) (target : Target) (s i : ℕ) → sink ≡ chains.enters i → Bears lays.naming.splitters s i → IsTargetOf lays.naming sink target → target ≡ to.Split s
  target_of (chains.ends j) target s i e named is = absurd (cc)
  target_of (chains.enters j) (to.Output k) s i e named is = absurd is
  target_of (chains.enters j) (to.Split k) s i e named is =
      let same : j ≡ i = cc in
      ap to.Split (one_place lays.naming.splitters lays.shows.names.splitters.once k s i (is ∙ ap Some same) named)

  -- the class of an edge that starts at a splitter
  pub split_class_at : (e s : ℕ) → (the_edge e).start ≡ from.Split s → class_at e ≡ Split s
  split_class_at e s is = ap (λ start. class_between r.demands start (the_edge e).target) is

  -- an edge whose chain ends as an output leads out
  pub leads_there : (e i : ℕ) → e < length r.net.edges → (m.chain_of e).sink ≡ chains.ends i → leads_out (the_edge e) ≡ true
  leads_there e i lt is = by (the_edge e).target refl (subst (λ sink. IsTargetOf lays.naming sink (the_edge e).target) is (is_edge e lt).target)
    where
      by : (target : Target) → (the_edge e).target ≡ target → IsTargetOf lays.naming (chains.ends i) target → leads_out (the_edge e) ≡ true
      by (to.Output o) at named = target_out o (the_edge e) at
      by (to.Split t) at named = absurd named

  -- the edge of a part that begins as an input
  pub input_lies : (i : ℕ) → IsInput parts i → (e : ℕ) × Lies i e × ((k : ℕ) × ((the_edge e).start ≡ from.Input k) × Bears lays.naming.inputs k i)
  input_lies i input =
      let found = from_input parts (is_orderly r parts lays) lays.shows.clean.no_ring i input in
      let edge = m.each found.0 found.2 in
      let source : (m.chain_of edge.0).source ≡ chains.begins i found.1 = ap (λ c. c.source) edge.2 ∙ found.3 in (
        edge.0,
        (edge.1, has_input parts lays.shows.clean (m.chain_of edge.0) i found.1 (m.is_chain edge.0 edge.1) source),
        by found.1 edge.0 (the_edge edge.0).start refl (subst (λ x. IsStartOf lays.naming x (the_edge edge.0).start) source (is_edge edge.0 edge.1).start),
      )
    where
      by : (cell : Cell) (e : ℕ) (start : Start) → (the_edge e).start ≡ start → IsStartOf lays.naming (chains.begins i cell) start
          → (k : ℕ) × ((the_edge e).start ≡ from.Input k) × Bears lays.naming.inputs k i
      by cell e (from.Input k) at named = (k, at, named)
      by cell e (from.Split s) at named = absurd named

  -- the part that bears the number of an input lies on the chain of its edge
  pub from_start : (e k i : ℕ) → e < length r.net.edges → (the_edge e).start ≡ from.Input k → Bears lays.naming.inputs k i → Lies i e
  from_start e k i lt at named = (lt, by (m.chain_of e).source refl (subst (λ start. IsStartOf lays.naming (m.chain_of e).source start) at (is_edge e lt).start))
    where
      by : (source : Source) → (m.chain_of e).source ≡ source → IsStartOf lays.naming source (from.Input k) → Contains (m.chain_of e).links i
      by (chains.begins j cell) is start =
          let same : Some j ≡ Some i = sym start ∙ named in
          let index : j ≡ i = cc in
          subst (Contains (m.chain_of e).links) index (has_input parts lays.shows.clean (m.chain_of e) j cell (m.is_chain e lt) is)
      by (chains.leaves j half) is start = absurd start

  pub from_target : (e o i : ℕ) → e < length r.net.edges → (the_edge e).target ≡ to.Output o → Bears lays.naming.outputs o i → Lies i e
  from_target e o i lt at named = (lt, by (m.chain_of e).sink refl (subst (λ target. IsTargetOf lays.naming (m.chain_of e).sink target) at (is_edge e lt).target))
    where
      by : (sink : Sink) → (m.chain_of e).sink ≡ sink → IsTargetOf lays.naming sink (to.Output o) → Contains (m.chain_of e).links i
      by (chains.ends j) is end =
          let same : Some j ≡ Some i = sym end ∙ named in
          let index : j ≡ i = cc in
          subst (Contains (m.chain_of e).links) index (has_output parts lays.shows.clean (m.chain_of e) j (m.is_chain e lt) is)
      by (chains.enters j) is end = absurd end

  -- ---- the lists of classes

  pub is_of_class : (e : ℕ) → is_of r.demands (class_at e) (the_edge e) ≡ true
  is_of_class e = same_itself (class_at e)

  -- the class of the edge goes to the splitter at which the edge ends
  pub class_goes : (e t : ℕ) → e < length r.net.edges → (the_edge e).target ≡ to.Split t → goes_to r (class_at e) t ≡ true
  class_goes e t lt at = any_in (λ edge. is_of r.demands (class_at e) edge && enters t edge) r.net.edges (the_edge e) (edge_in e lt)
      (ap (λ b. b && enters t (the_edge e)) (is_of_class e) ∙ target_enters t (the_edge e) at)

  pub class_ends : (e : ℕ) → e < length r.net.edges → leads_out (the_edge e) ≡ true → ends_out r (class_at e) ≡ true
  class_ends e lt out = any_in (λ edge. is_of r.demands (class_at e) edge && leads_out edge) r.net.edges (the_edge e) (edge_in e lt)
      (ap (λ b. b && leads_out (the_edge e)) (is_of_class e) ∙ out)

  module _ (is : IsRequest r) where
    -- the class of an edge from an input
    pub input_listed : (e k : ℕ) → e < length r.net.edges → (the_edge e).start ≡ from.Input k → In (input_classes r) (class_at e)
    input_listed e k lt at = input_edge_listed r is (the_edge e) k (edge_in e lt) at

    pub class_listed : (e : ℕ) → e < length r.net.edges → In (classes_of r) (class_at e)
    class_listed e lt = edge_class_listed r is (the_edge e) (edge_in e lt)

    -- the class of a part is one of the classes
    pub said_listed : (i : ℕ) (k : Class) → HasSaid r parts lays i k → In (classes_of r) k
    said_listed i k (inl h) =
        let number = splitter_number r parts lays i h.0 in
        let same : h.1.0 ≡ number.0 = one_place lays.naming.splitters lays.shows.names.splitters.once h.1.0 number.0 i h.1.1 number.2 in
        subst (In (classes_of r)) (ap Split (sym same) ∙ sym h.1.2) (split_listed r is number.0 number.1)
    said_listed i k (inr h) = subst (In (classes_of r)) (sym h.2) (class_listed h.0 h.1.0)
