-- The kept parts lay the request.
use Rattle.std.proofs.Common.{◌≡◌, ◌⊎◌, ℕ, ◌<◌, List, length, Some, refl, sym, ◌∙◌, ap, subst, inl, inr, arith}
use Rattle.std.proofs.lemmas.List.Sorted.{IsPermutation-refl}
use Rattle.std.specs.List.{slice_get}
use Rattle.bt_parts.specs.declared.part.Cell.{Cell}
use Rattle.bt_parts.specs.declared.part.Dir.{Dir}
use Rattle.bt_parts.specs.declared.part.Dir.TheVariants.{North, East, South, West}
use Rattle.bt_parts.specs.declared.part.Kind.TheVariants as kind
use Rattle.bt_parts.specs.declared.part.Part.{Part}
use Rattle.bt_parts.specs.Cells.{step, opposite, IsInside}
use Rattle.bt_parts.specs.Layouts.{IsAt}
use Rattle.bt_net.specs.declared.network.Demand.{Demand}
use Rattle.bt_net.specs.declared.network.Demand.TheVariants as demand
use Rattle.bt_net.specs.declared.network.Edge.{Edge}
use Rattle.bt_net.specs.declared.network.End.{End}
use Rattle.bt_net.specs.declared.network.End.TheVariants.{Input, Output}
use Rattle.bt_net.specs.declared.network.Pin.{Pin}
use Rattle.bt_net.specs.declared.network.Side.{Side}
use Rattle.bt_net.specs.declared.network.Start.{Start}
use Rattle.bt_net.specs.declared.network.Start.TheVariants as from
use Rattle.bt_net.specs.declared.network.Target.{Target}
use Rattle.bt_net.specs.declared.network.Target.TheVariants as to
use Rattle.bt_net.specs.Network.{is_output, HasEnd, StartsIn, EndsIn}
use Rattle.bt_net.specs.PinText.{HasEnds}
use Rattle.bt_model.specs.Chains.{IsSplitter, IsInput, IsOutput, Source, begins, leaves, Sink, ends, enters, Chain, EndsAs, IsChain}
use Rattle.bt_model.specs.Laying.{IsNamed, KeepsPin, IsAtSide, StandsAtSide, KeepsDemand, Lays}
use Rattle.bt_model.specs.Requests.{Names, ends_of, pinned}
use Rattle.bt_model.specs.Shown.{Naming, ListsEach, IsNaming, IsStartOf, IsTargetOf, IsEdgeOf, Shows}
use Rattle.bt_model.proofs.ExistLemmas.{from_input, to_output, input_link, output_link}
use Rattle.bt_model.proofs.SameChain.{same_begins, same_ends}
use Rattle.bt_facts.specs.declared.fact.Class.{Class}
use Rattle.bt_facts.specs.declared.fact.Class.TheVariants.{Split}
use Rattle.bt_facts.specs.declared.fact.Class.TheVariants as class
use Rattle.bt_facts.specs.declared.fact.Fact.TheVariants.{Carries, Begins}
use Rattle.bt_facts.specs.declared.fact.Shape.{Shape}
use Rattle.bt_facts.specs.declared.fact.Shape.TheVariants as shape
use Rattle.bt_demands.specs.Classes.{class_of, input_classes}
use Rattle.bt_facts.specs.Facts.{holds}
use Rattle.bt_rules.specs.Kept.{kind_of, IsKeptPart}
use Rattle.bt_demands.specs.Pinning.{end_shapes}
use Rattle.bt_facts.proofs.Decided.{contains_at}
use Rattle.bt_facts.proofs.Geometry.{in_border}
use Rattle.bt_facts.proofs.Keeping.{In}
use Rattle.bt_rules.proofs.kept.ListFacts.{Listed, listed, lists_each, element_at, zipped, all_at, all_from, contains_in}
use Rattle.bt_rules.proofs.kept.NetFacts.{IsEdge, edge_below, same_edge, input_edge, output_edge, edge_starts, edge_ends, output_by, class_suits, class_of_split, class_pinned, class_through, input_no_split, class_in}
use Rattle.bt_rules.proofs.kept.Solved.{Solved, Says}
use Rattle.bt_rules.proofs.kept.CellFacts.{one_class, one_dir}
use Rattle.bt_rules.proofs.kept.Arrivals.{reached_inside}
use Rattle.bt_rules.proofs.kept.PartFacts.{kept_part, own_at}
use Rattle.bt_rules.proofs.kept.RingFacts.{link_cell, none_ringed, clean}
use Rattle.bt_rules.proofs.kept.RowFacts.{keeps_row}
use Rattle.bt_rules.proofs.kept.EndFacts.{fits, output_faces}
use Rattle.bt_rules.proofs.kept.SplitFacts.{IsSplitterOf, splitter_is, splitter_there, one_splitter, splitter_named, same_stand}
use Rattle.bt_rules.proofs.kept.ClassFacts.{orderly, SourceHas, classed}
use Rattle.bt_rules.proofs.kept.PinFacts.{HasPin, pin_class_input, pin_begins, pin_turned, pinned_input}
use Rattle.bt_rules.proofs.kept.SideFacts.{pin_inside, side_turned, stop_cell, stop_ends, Settled, by_pin, by_side, settled_inside}
use Rattle.bt_rules.proofs.kept.WishFacts.{counted_one, ends_there, settled_output, wish_class, Wish}
use Rattle.bt_rules.proofs.kept.OutFacts.{out_wish}
use Rattle.bt_rules.proofs.kept.ThroughFacts.{begun_chain}
use Rattle.bt_rules.proofs.kept.ChainFacts.{one_input, IsChainOf, into, through, out, chain_is, chain_class, chain_there, edge_there, one_chain, one_edge}

module _ (w : Solved) (parts : List Part) (lists : ListsEach (IsKeptPart w.r w.reading) parts) where
  abbrev Splitters : ℕ → ℕ → Type 0
  Splitters = IsSplitterOf w parts lists

  abbrev Chains : ℕ → Chain → Type 0
  Chains = IsChainOf w parts lists

  -- ---- where the chain of an edge starts and ends

  abbrev StartKind : Start → Source → Type 0
  StartKind (from.Input k) (begins i x) = IsInput parts i × IsAt parts i x
  StartKind (from.Input k) (leaves i x) = ⊥
  StartKind (from.Split s) (begins i x) = ⊥
  StartKind (from.Split s) (leaves i x) = Splitters s i

  abbrev TargetKind : Target → Sink → Type 0
  TargetKind (to.Output o) (ends i) = IsOutput parts i
  TargetKind (to.Output o) (enters i) = ⊥
  TargetKind (to.Split t) (ends i) = ⊥
  TargetKind (to.Split t) (enters i) = Splitters t i

  start_kind : (e : ℕ) (edge : Edge) (c : Chain) → IsEdge w e edge → Chains e c → StartKind edge.start c.source
  start_kind e edge c is of =
      let cl = classed w parts lists c (chain_is w parts lists e c of) in
      by edge.start c.source refl cl.source (chain_class w parts lists e edge c is of cl)
    where
      by : {k : Class} (start : Start) (source : Source) → edge.start ≡ start → SourceHas w parts lists k source → k ≡ class_of w.r.demands edge → StartKind start source
      by (from.Input k) (begins i x) starts has same = (has.0, has.1)
      by (from.Input k) (leaves i x) starts (m, n, own) same =
          let suits : edge.start ≡ from.Split m = class_suits w.r.demands edge (Split m) (sym same ∙ own) in
          let clash : from.Input k ≡ from.Split m = sym starts ∙ suits in
          absurd (cc)
      by (from.Split s) (begins i x) starts has same =
          absurd (input_no_split w s (subst (λ z. In (input_classes w.r) z) (same ∙ class_of_split w.r.demands edge s starts) has.2))
      by (from.Split s) (leaves i x) starts (m, n, own) same =
          let classes : Split m ≡ Split s = sym own ∙ same ∙ class_of_split w.r.demands edge s starts in
          let numbers : m ≡ s = cc in
          subst (λ z. Splitters z i) numbers n

  output_end : (c : Chain) (k : ℕ) → IsChain parts c → c.sink ≡ ends k → IsOutput parts k
  output_end c k (inl h) sink = (subst (λ z. EndsAs parts z h.last) sink h.ends).1
  output_end c k (inr h) sink = absurd (let clash = sym h.sink ∙ sink in cc)

  target_kind : (e : ℕ) (edge : Edge) (c : Chain) → IsEdge w e edge → Chains e c → TargetKind edge.target c.sink
  target_kind e edge c at (into own t is targets chain comes) =
      subst (TargetKind edge.target) (sym comes.sink)
      (subst (λ z. TargetKind z (enters comes.index)) (sym targets ∙ ap (λ z. z.target) (same_edge w e e own edge refl is at)) comes.is)
  target_kind e edge c at (through own i o k is starts targets chain sink j x source carries) =
      subst (TargetKind edge.target) (sym sink)
      (subst (λ z. TargetKind z (ends k)) (sym targets ∙ ap (λ z. z.target) (same_edge w e e own edge refl is at)) (output_end c k chain sink))
  target_kind e edge c at (out own s o k is starts targets chain sink leaving) =
      subst (TargetKind edge.target) (sym sink)
      (subst (λ z. TargetKind z (ends k)) (sym targets ∙ ap (λ z. z.target) (same_edge w e e own edge refl is at)) (output_end c k chain sink))

  -- the edge of a chain
  edge_of : (e : ℕ) (c : Chain) → Chains e c → (edge : Edge) × IsEdge w e edge
  edge_of e c (into edge t is targets chain comes) = (edge, is)
  edge_of e c (through edge i o k is starts targets chain sink j x source carries) = (edge, is)
  edge_of e c (out edge s o k is starts targets chain sink leaving) = (edge, is)

  -- ---- the naming

  -- this part is the first of the input with this number
  record FirstOf (k i : ℕ) : Type 0 where
    pub place : ℕ
    pub edge : Edge
    pub is : IsEdge w place edge
    pub starts : edge.start ≡ from.Input k
    pub chain : Chain
    pub of : Chains place chain
    pub cell : Cell
    pub source : chain.source ≡ begins i cell

  -- and this the last of the output with this number
  record LastOf (o i : ℕ) : Type 0 where
    pub place : ℕ
    pub edge : Edge
    pub is : IsEdge w place edge
    pub targets : edge.target ≡ to.Output o
    pub chain : Chain
    pub of : Chains place chain
    pub sink : chain.sink ≡ ends i

  first_part : (e k : ℕ) (edge : Edge) (c : Chain) → IsEdge w e edge → edge.start ≡ from.Input k → Chains e c → (i : ℕ) × FirstOf k i
  first_part e k edge c is starts of = by c.source refl (subst (λ z. StartKind z c.source) starts (start_kind e edge c is of)) where
    by : (source : Source) → c.source ≡ source → StartKind (from.Input k) source → (i : ℕ) × FirstOf k i
    by (begins i x) source has = (i, record { place = e; edge = edge; is = is; starts = starts; chain = c; of = of; cell = x; source = source })
    by (leaves i x) source none = absurd none

  first_there : (k : ℕ) → k < w.r.net.inputs → (i : ℕ) × FirstOf k i
  first_there k lt =
      let edge = input_edge w k lt in
      let chain = chain_there w parts lists edge.0 (edge_below w edge.0 edge.1 edge.2) in
      first_part edge.0 k edge.1 chain.0 edge.2 edge.3 chain.1

  last_part : (e o : ℕ) (edge : Edge) (c : Chain) → IsEdge w e edge → edge.target ≡ to.Output o → Chains e c → (i : ℕ) × LastOf o i
  last_part e o edge c is targets of = by c.sink refl (subst (λ z. TargetKind z c.sink) targets (target_kind e edge c is of)) where
    by : (sink : Sink) → c.sink ≡ sink → TargetKind (to.Output o) sink → (i : ℕ) × LastOf o i
    by (ends i) sink has = (i, record { place = e; edge = edge; is = is; targets = targets; chain = c; of = of; sink = sink })
    by (enters i) sink none = absurd none

  last_there : (o : ℕ) → o < w.r.net.outputs → (i : ℕ) × LastOf o i
  last_there o lt =
      let edge = output_edge w o lt in
      let chain = chain_there w parts lists edge.0 (edge_below w edge.0 edge.1 edge.2) in
      last_part edge.0 o edge.1 chain.0 edge.2 edge.3 chain.1

  splitters : Listed Splitters w.r.net.splitters
  splitters = listed Splitters w.r.net.splitters (splitter_there w parts lists)

  inputs : Listed FirstOf w.r.net.inputs
  inputs = listed FirstOf w.r.net.inputs first_there

  outputs : Listed LastOf w.r.net.outputs
  outputs = listed LastOf w.r.net.outputs last_there

  chains : Listed Chains (length w.r.net.edges)
  chains = listed Chains (length w.r.net.edges) (chain_there w parts lists)

  naming : Naming
  naming = record { splitters = splitters.list; inputs = inputs.list; outputs = outputs.list }

  splitter_number : (i : ℕ) → IsSplitter parts i → (s : ℕ) × (s < w.r.net.splitters) × ((j : ℕ) → Splitters s j → j ≡ i)
  splitter_number i splitter =
      let named = splitter_named w parts lists i splitter in
      (named.0, named.1.below, λ j n. one_splitter w parts lists named.0 j i n named.1)

  splitters_each : ListsEach (IsSplitter parts) splitters.list
  splitters_each = lists_each (IsSplitter parts) Splitters w.r.net.splitters splitters splitter_number (splitter_is w parts lists)
      (λ k l i n m. (same_stand w parts lists k l i n m).2)

  first_input : (k i : ℕ) → FirstOf k i → IsInput parts i
  first_input k i f = (subst (StartKind (from.Input k)) f.source (subst (λ z. StartKind z f.chain.source) f.starts (start_kind f.place f.edge f.chain f.is f.of))).0

  first_at : (k i : ℕ) (f : FirstOf k i) → IsAt parts i f.cell
  first_at k i f = (subst (StartKind (from.Input k)) f.source (subst (λ z. StartKind z f.chain.source) f.starts (start_kind f.place f.edge f.chain f.is f.of))).1

  -- the first part is that of the edge's chain
  one_first : (k i j e : ℕ) (edge : Edge) (c : Chain) (x : Cell) → FirstOf k j → IsEdge w e edge → edge.start ≡ from.Input k → Chains e c → c.source ≡ begins i x → j ≡ i
  one_first k i j e edge c x f is starts of source =
      let places : f.place ≡ e = one_input w f.place e f.edge edge k f.is is f.starts starts in
      let chains_same : f.chain ≡ c = one_chain w parts lists e f.chain c (subst (λ z. Chains z f.chain) places f.of) of in
      let sources : begins j f.cell ≡ begins i x = sym f.source ∙ ap (λ z. z.source) chains_same ∙ source in
      cc

  input_number : (i : ℕ) → IsInput parts i → (k : ℕ) × (k < w.r.net.inputs) × ((j : ℕ) → FirstOf k j → j ≡ i)
  input_number i input =
      let chain = from_input parts (orderly w parts lists) (none_ringed w parts lists) i input in
      let place = edge_there w parts lists chain.0 chain.2 in
      by chain.0 chain.1 chain.3 place.0 place.1
    where
      by : (c : Chain) (x : Cell) → c.source ≡ begins i x → (e : ℕ) → Chains e c → (k : ℕ) × (k < w.r.net.inputs) × ((j : ℕ) → FirstOf k j → j ≡ i)
      by c x source e of =
          let edge = edge_of e c of in
          on edge.0 edge.1 edge.0.start refl (subst (StartKind edge.0.start) source (start_kind e edge.0 c edge.1 of))
        where
          on : (edge : Edge) → IsEdge w e edge → (start : Start) → edge.start ≡ start → StartKind start (begins i x) → (k : ℕ) × (k < w.r.net.inputs) × ((j : ℕ) → FirstOf k j → j ≡ i)
          on edge is (from.Input k) starts has =
              (k, subst (StartsIn w.r.net) starts (edge_starts w e edge is), λ j f. one_first k i j e edge c x f is starts of source)
          on edge is (from.Split s) starts none = absurd none

  one_input_at : (k l i : ℕ) → FirstOf k i → FirstOf l i → k ≡ l
  one_input_at k l i f g =
      let chains_same : f.chain ≡ g.chain = same_begins parts (orderly w parts lists) f.chain g.chain i f.cell g.cell
      (chain_is w parts lists f.place f.chain f.of) (chain_is w parts lists g.place g.chain g.of) f.source g.source in
      let places : f.place ≡ g.place = one_edge w parts lists f.place g.place g.chain (subst (Chains f.place) chains_same f.of) g.of in
      let edges : f.edge ≡ g.edge = same_edge w f.place g.place f.edge g.edge places f.is g.is in
      let starts : from.Input k ≡ from.Input l = sym f.starts ∙ ap (λ z. z.start) edges ∙ g.starts in
      cc

  inputs_each : ListsEach (IsInput parts) inputs.list
  inputs_each = lists_each (IsInput parts) FirstOf w.r.net.inputs inputs input_number first_input one_input_at

  one_output_edge : (d e o : ℕ) (a b : Edge) → IsEdge w d a → IsEdge w e b → a.target ≡ to.Output o → b.target ≡ to.Output o → d ≡ e
  one_output_edge d e o a b is_a is_b to_a to_b =
      let lt = subst (EndsIn w.r.net) to_a (edge_ends w d a is_a) in
      counted_one (is_output o) w.r.net.edges d e a b (w.is_request.net.wired.one_out o lt) is_a (output_by o a to_a) is_b (output_by o b to_b)

  last_output : (o i : ℕ) → LastOf o i → IsOutput parts i
  last_output o i l = output_end l.chain i (chain_is w parts lists l.place l.chain l.of) l.sink

  one_last : (o i j e : ℕ) (edge : Edge) (c : Chain) → LastOf o j → IsEdge w e edge → edge.target ≡ to.Output o → Chains e c → c.sink ≡ ends i → j ≡ i
  one_last o i j e edge c l is targets of sink =
      let places : l.place ≡ e = one_output_edge l.place e o l.edge edge l.is is l.targets targets in
      let chains_same : l.chain ≡ c = one_chain w parts lists e l.chain c (subst (λ z. Chains z l.chain) places l.of) of in
      let sinks : ends j ≡ ends i = sym l.sink ∙ ap (λ z. z.sink) chains_same ∙ sink in
      cc

  output_number : (i : ℕ) → IsOutput parts i → (o : ℕ) × (o < w.r.net.outputs) × ((j : ℕ) → LastOf o j → j ≡ i)
  output_number i output =
      let chain = to_output parts (orderly w parts lists) (none_ringed w parts lists) i output in
      let place = edge_there w parts lists chain.0 chain.1 in
      by chain.0 chain.2 place.0 place.1
    where
      by : (c : Chain) → c.sink ≡ ends i → (e : ℕ) → Chains e c → (o : ℕ) × (o < w.r.net.outputs) × ((j : ℕ) → LastOf o j → j ≡ i)
      by c sink e of =
          let edge = edge_of e c of in
          on edge.0 edge.1 edge.0.target refl (subst (TargetKind edge.0.target) sink (target_kind e edge.0 c edge.1 of))
        where
          on : (edge : Edge) → IsEdge w e edge → (target : Target) → edge.target ≡ target → TargetKind target (ends i) → (o : ℕ) × (o < w.r.net.outputs) × ((j : ℕ) → LastOf o j → j ≡ i)
          on edge is (to.Output o) targets has =
              (o, subst (EndsIn w.r.net) targets (edge_ends w e edge is), λ j l. one_last o i j e edge c l is targets of sink)
          on edge is (to.Split t) targets none = absurd none

  one_output_at : (o p i : ℕ) → LastOf o i → LastOf p i → o ≡ p
  one_output_at o p i l m =
      let chains_same : l.chain ≡ m.chain = same_ends parts (orderly w parts lists) l.chain m.chain i
      (chain_is w parts lists l.place l.chain l.of) (chain_is w parts lists m.place m.chain m.of) l.sink m.sink in
      let places : l.place ≡ m.place = one_edge w parts lists l.place m.place m.chain (subst (Chains l.place) chains_same l.of) m.of in
      let edges : l.edge ≡ m.edge = same_edge w l.place m.place l.edge m.edge places l.is m.is in
      let targets : to.Output o ≡ to.Output p = sym l.targets ∙ ap (λ z. z.target) edges ∙ m.targets in
      cc

  outputs_each : ListsEach (IsOutput parts) outputs.list
  outputs_each = lists_each (IsOutput parts) LastOf w.r.net.outputs outputs output_number last_output one_output_at

  is_naming : IsNaming parts w.r.net naming
  unfolding naming
  is_naming = record {
    splitters = splitters_each;
    inputs = inputs_each;
    outputs = outputs_each;
    splitter_count = sym splitters.count;
    input_count = sym inputs.count;
    output_count = sym outputs.count;
  }

  -- ---- the chains

  chain_number : (c : Chain) → IsChain parts c → (e : ℕ) × (e < length w.r.net.edges) × ((d : Chain) → Chains e d → d ≡ c)
  chain_number c chain =
      let place = edge_there w parts lists c chain in
      let edge = edge_of place.0 c place.1 in
      (place.0, edge_below w place.0 edge.0 edge.1, λ d of. one_chain w parts lists place.0 d c of place.1)

  chains_each : ListsEach (IsChain parts) chains.list
  chains_each = lists_each (IsChain parts) Chains (length w.r.net.edges) chains chain_number (chain_is w parts lists) (one_edge w parts lists)

  -- ---- what the edges stand for

  start_named : (e : ℕ) (edge : Edge) (c : Chain) → IsEdge w e edge → Chains e c → (start : Start) → edge.start ≡ start → (source : Source) → c.source ≡ source
      → StartKind start source → IsStartOf naming source start
  unfolding naming
  start_named e edge c is of (from.Input k) starts (begins i x) source has =
      let lt = subst (StartsIn w.r.net) starts (edge_starts w e edge is) in
      let there = element_at inputs.list k (let n = inputs.count in omega arith) in
      there.1 ∙ ap Some (one_first k i there.0 e edge c x (inputs.each k there.0 there.1) is starts of source)
  start_named e edge c is of (from.Input k) starts (leaves i x) source none = absurd none
  start_named e edge c is of (from.Split s) starts (begins i x) source none = absurd none
  start_named e edge c is of (from.Split s) starts (leaves i x) source n =
      let there = element_at splitters.list s (let lt = n.below in let m = splitters.count in omega arith) in
      there.1 ∙ ap Some (one_splitter w parts lists s there.0 i (splitters.each s there.0 there.1) n)

  target_named : (e : ℕ) (edge : Edge) (c : Chain) → IsEdge w e edge → Chains e c → (target : Target) → edge.target ≡ target → (sink : Sink) → c.sink ≡ sink
      → TargetKind target sink → IsTargetOf naming sink target
  unfolding naming
  target_named e edge c is of (to.Output o) targets (ends i) sink has =
      let lt = subst (EndsIn w.r.net) targets (edge_ends w e edge is) in
      let there = element_at outputs.list o (let n = outputs.count in omega arith) in
      there.1 ∙ ap Some (one_last o i there.0 e edge c (outputs.each o there.0 there.1) is targets of sink)
  target_named e edge c is of (to.Output o) targets (enters i) sink none = absurd none
  target_named e edge c is of (to.Split t) targets (ends i) sink none = absurd none
  target_named e edge c is of (to.Split t) targets (enters i) sink n =
      let there = element_at splitters.list t (let lt = n.below in let m = splitters.count in omega arith) in
      there.1 ∙ ap Some (one_splitter w parts lists t there.0 i (splitters.each t there.0 there.1) n)

  edge_named : (e : ℕ) (chain : Chain) (edge : Edge) → slice_get chains.list e ≡ Some chain → slice_get w.r.net.edges e ≡ Some edge → IsEdgeOf parts naming chain edge
  edge_named e chain edge at is =
      let of = chains.each e chain at in
      record {
        start = start_named e edge chain is of edge.start refl chain.source refl (start_kind e edge chain is of);
        target = target_named e edge chain is of edge.target refl chain.sink refl (target_kind e edge chain is of);
        cap = inl ((w.r.tier, (fits w parts lists).one_tier), all_at (λ x. x.cap ≡ 1) w.r.net.edges e edge w.is_request.caps is);
      }

  shows : Shows parts w.r.net naming
  shows = record {
    clean = clean w parts lists;
    names = is_naming;
    chains = chains.list;
    each_once = chains_each;
    edges = w.r.net.edges;
    named = zipped (IsEdgeOf parts naming) chains.list w.r.net.edges chains.count edge_named;
    same = IsPermutation-refl w.r.net.edges;
  }

  -- ---- pins

  input_shape : (of : Shape) (part : Part) → part.kind ≡ kind_of of → (part.kind ≡ kind.Belt) ⊎ (part.kind ≡ kind.Entrance) → (k : ℕ) → In (end_shapes (Input k)) of
  input_shape shape.Belt part same kinds k = inl refl
  input_shape shape.Entrance part same kinds k = inr (inl refl)
  input_shape shape.Exit part same (inl e) k = absurd (cc)
  input_shape shape.Exit part same (inr e) k = absurd (cc)
  input_shape (shape.Half half) part same (inl e) k = absurd (cc)
  input_shape (shape.Half half) part same (inr e) k = absurd (cc)

  -- the last part of a settled output stands where that is settled
  output_settled : (o i : ℕ) (x : Cell) → Settled w o x → LastOf o i → IsAt parts i x
  output_settled o i x s l =
      let output = settled_output w parts lists o x s in
      let chain = to_output parts (orderly w parts lists) (none_ringed w parts lists) output.0 output.1 in
      by output.0 output.1 output.2 chain.0 chain.1 chain.2
    where
      by : (j : ℕ) → IsOutput parts j → IsAt parts j x → (c : Chain) → IsChain parts c → c.sink ≡ ends j → IsAt parts i x
      by j output at c chain sink =
          let wish : Wish w parts lists l.place l.edge c = ends_there o l.targets x s j output sink at in
          let same : i ≡ j = one_last o j i l.place l.edge c l l.is l.targets (of_wish wish l.edge.start refl) sink in
          subst (λ z. IsAt parts z x) (sym same) at
        where
          of_wish : Wish w parts lists l.place l.edge c → (start : Start) → l.edge.start ≡ start → Chains l.place c
          of_wish wish (from.Split s) starts = out l.edge s o j l.is starts l.targets chain sink (out_wish w parts lists l.place l.edge s c l.is starts chain wish)
          of_wish wish (from.Input k) starts =
              let cl = classed w parts lists c chain in
              let class_is = wish_class w parts lists l.place l.edge c l.is chain wish cl in
              let place = edge_there w parts lists c chain in
              let edge = edge_of place.0 c place.1 in
              let through_class : class_of w.r.demands l.edge ≡ class.Input k = class_through w.r.demands l.edge k o starts l.targets in
              let from_k : edge.0.start ≡ from.Input k = class_suits w.r.demands edge.0 (class.Input k) (sym (chain_class w parts lists place.0 edge.0 c edge.1 place.1 cl) ∙ class_is ∙ through_class) in
              subst (λ z. Chains z c) (one_input w place.0 l.place edge.0 l.edge k edge.1 l.is from_k starts) place.1

  module _ (pin : Pin) (there : HasPin w pin) where
    inside : IsInside w.r.rect (pinned pin)
    inside = pin_inside w pin there

    -- the first part of a pinned input stands there
    input_pinned : (k i : ℕ) → pin.end ≡ Input k → FirstOf k i → IsAt parts i (pinned pin)
    input_pinned k i own_end f =
        let own = class_pinned w.r.demands f.edge k f.starts (pinned_input w pin there k own_end) in
        let carries : Says w (Carries (pinned pin) (class.Input k)) = subst (λ z. Says w (Carries (pinned pin) z)) own (pin_class_input w pin there k f.place f.edge own_end f.is f.starts) in
        let chain = begun_chain w parts lists (pinned pin) inside (pin_begins w pin there k own_end) in
        let cl = classed w parts lists chain.0 chain.1 in
        let has : SourceHas w parts lists cl.class (begins chain.2.0 (pinned pin)) = subst (SourceHas w parts lists cl.class) chain.2.1 cl.source in
        let class_is : cl.class ≡ class.Input k = one_class w (pinned pin) inside cl.class (class.Input k) cl.listed (class_in w f.place f.edge f.is (class.Input k) own) has.3 carries in
        let place = edge_there w parts lists chain.0 chain.1 in
        let edge = edge_of place.0 chain.0 place.1 in
        let starts : edge.0.start ≡ from.Input k = class_suits w.r.demands edge.0 (class.Input k) (sym (chain_class w parts lists place.0 edge.0 chain.0 edge.1 place.1 cl) ∙ class_is) in
        let same : i ≡ chain.2.0 = one_first k chain.2.0 i place.0 edge.0 chain.0 (pinned pin) f edge.1 starts place.1 chain.2.1 in
        subst (λ z. IsAt parts z (pinned pin)) (sym same) has.1

    keeps_input : (k : ℕ) → k < w.r.net.inputs → pin.end ≡ Input k → KeepsPin parts naming pin
    unfolding naming
    keeps_input k lt is =
        let named = element_at inputs.list k (let n = inputs.count in omega arith) in
        let f = inputs.each k named.0 named.1 in
        let input = first_input k named.0 f in
        let part = input.part in
        let kept = kept_part w parts lists named.0 part input.is_i in
        let cell : part.cell ≡ pinned pin = link_cell parts named.0 part.cell (pinned pin) (input_link parts named.0 input) (own_at w parts lists named.0 part input.is_i) (input_pinned k named.0 is f) in
        record {
          index = named.0;
          named = subst (λ x. IsNamed naming x named.0) (sym is) named.1;
          part = part;
          is_part = input.is_i;
          stands = cell;
          points = pin_turned w pin there kept.of part.dir (subst (λ x. In (end_shapes x) kept.of) (sym is) (input_shape kept.of part kept.is_kind input.kind k))
              (subst (λ c. Says w (holds c kept.of part.dir)) cell kept.stands);
        }

    keeps_output : (o : ℕ) → o < w.r.net.outputs → pin.end ≡ Output o → KeepsPin parts naming pin
    unfolding naming
    keeps_output o lt is =
        let named = element_at outputs.list o (let n = outputs.count in omega arith) in
        let l = outputs.each o named.0 named.1 in
        let output = last_output o named.0 l in
        let part = output.part in
        let cell : part.cell ≡ pinned pin = link_cell parts named.0 part.cell (pinned pin) (output_link parts named.0 output) (own_at w parts lists named.0 part output.is_i) (output_settled o named.0 (pinned pin) (by_pin pin there is refl) l) in
        let faces = output_faces w parts lists named.0 part output.is_i output in
        record {
          index = named.0;
          named = subst (λ x. IsNamed naming x named.0) (sym is) named.1;
          part = part;
          is_part = output.is_i;
          stands = cell;
          points = pin_turned w pin there faces.0 part.dir (subst (λ x. In (end_shapes x) faces.0) (sym is) faces.1)
              (subst (λ c. Says w (holds c faces.0 part.dir)) cell faces.2);
        }

    keeps_end : (end : End) → HasEnd w.r.net end → pin.end ≡ end → KeepsPin parts naming pin
    keeps_end (Input k) has is = keeps_input k has is
    keeps_end (Output o) has is = keeps_output o has is

  -- ---- sides

  opposite_twice : (dir : Dir) → opposite (opposite dir) ≡ dir
  opposite_twice North = refl
  opposite_twice East = refl
  opposite_twice South = refl
  opposite_twice West = refl

  module _ (side : Side) (there : In w.r.demands (demand.Side side)) where
    side_input : (k : ℕ) → k < w.r.net.inputs → Names side.ends (Input k) → StandsAtSide parts w.r.rect naming side.dir (Input k)
    unfolding naming
    side_input k lt called =
        let named = element_at inputs.list k (let n = inputs.count in omega arith) in
        let f = inputs.each k named.0 named.1 in
        let input = first_input k named.0 f in
        let part = input.part in
        let kept = kept_part w parts lists named.0 part input.is_i in
        let cl = classed w parts lists f.chain (chain_is w parts lists f.place f.chain f.of) in
        let has : SourceHas w parts lists cl.class (begins named.0 f.cell) = subst (SourceHas w parts lists cl.class) f.source cl.source in
        let class : cl.class ≡ class_of w.r.demands f.edge = chain_class w parts lists f.place f.edge f.chain f.is f.of cl in
        let cell : f.cell ≡ part.cell = sym (link_cell parts named.0 part.cell f.cell (input_link parts named.0 input) (own_at w parts lists named.0 part input.is_i) (first_at k named.0 f)) in
        let here : IsInside w.r.rect part.cell = reached_inside w part.cell kept.reached in
        let out : IsInside w.r.rect (step (opposite part.dir) part.cell) → ⊥ = (fits w parts lists).inputs named.0 part input input.is_i in
        let turned : part.dir ≡ opposite side.dir = side_turned w side there k lt called f.place f.edge f.is f.starts part.cell (in_border w.r.rect (opposite part.dir) part.cell here out)
        (subst (λ x. Says w (Begins x)) cell has.4) (subst (λ z. Says w (Carries part.cell z)) class (subst (λ x. Says w (Carries x cl.class)) cell has.3))
        kept.of part.dir (input_shape kept.of part kept.is_kind input.kind k) kept.stands in
        record {
          index = named.0;
          named = named.1;
          part = part;
          is_part = input.is_i;
          stands = (here, subst (λ d. IsInside w.r.rect (step d part.cell) → ⊥) (ap opposite turned ∙ opposite_twice side.dir) out);
          points = turned;
        }

    side_output : (o : ℕ) → o < w.r.net.outputs → Names side.ends (Output o) → StandsAtSide parts w.r.rect naming side.dir (Output o)
    unfolding naming
    side_output o lt called =
        let named = element_at outputs.list o (let n = outputs.count in omega arith) in
        let l = outputs.each o named.0 named.1 in
        let output = last_output o named.0 l in
        let part = output.part in
        let settled : Settled w o (stop_cell w o) = by_side side there lt called refl in
        let cell : part.cell ≡ stop_cell w o = link_cell parts named.0 part.cell (stop_cell w o) (output_link parts named.0 output) (own_at w parts lists named.0 part output.is_i)
        (output_settled o named.0 (stop_cell w o) settled l) in
        let here : IsInside w.r.rect (stop_cell w o) = settled_inside w o (stop_cell w o) settled in
        let faces = output_faces w parts lists named.0 part output.is_i output in
        let found = stop_ends w side there o lt called in
        let turned : part.dir ≡ side.dir = one_dir w (stop_cell w o) here faces.0 found.0 part.dir side.dir (subst (λ x. Says w (holds x faces.0 part.dir)) cell faces.2) found.3 in
        record {
          index = named.0;
          named = named.1;
          part = part;
          is_part = output.is_i;
          stands = subst (IsAtSide w.r.rect side.dir) (sym cell) (here, found.2);
          points = turned;
        }

    keeps_side : (e : End) → HasEnd w.r.net e → Names side.ends e → StandsAtSide parts w.r.rect naming side.dir e
    keeps_side (Input k) has called = side_input k has called
    keeps_side (Output o) has called = side_output o has called

  keeps_demand : (d : Demand) → In w.r.demands d → HasEnds w.r.net (ends_of d) → KeepsDemand parts w.r naming d
  keeps_demand (demand.Pin pin) there has = keeps_end pin there pin.end has refl
  keeps_demand (demand.Side side) there has = keeps_side side there
  keeps_demand (demand.Row row) there has = keeps_row w parts lists row there

  pub lays : Lays parts w.r
  lays = record {
    fits = fits w parts lists;
    naming = naming;
    shows = shows;
    demands = all_from (KeepsDemand parts w.r naming) w.r.demands (λ k d at.
        keeps_demand d (contains_in w.r.demands d (contains_at w.r.demands k d at))
        (all_at (λ x. HasEnds w.r.net (ends_of x)) w.r.demands k d w.is_request.ends at));
  }
