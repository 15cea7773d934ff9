-- Layouts keep the rules of ports.
use Rattle.std.proofs.Common.{◌≡◌, ◌⊎◌, inl, inr, ℕ, ◌<◌, ◌+◌, ◌-◌, ◌==◌, ◌||◌, Bool, true, cond, List, [], ◌∷◌, ◌++◌, length, map, get_or, eq-eqb, refl, sym, ◌∙◌, ap, subst, ⊎_elim, arith}
use Rattle.std.specs.List.{flat_map, filter, enumerate_from, Contains}
use Rattle.bt_parts.specs.declared.part.Cell.{Cell}
use Rattle.bt_parts.specs.declared.part.Dir.{Dir}
use Rattle.bt_parts.specs.declared.part.Part.{Part}
use Rattle.bt_parts.specs.declared.part.Side.TheVariants.{Behind}
use Rattle.bt_parts.specs.Cells.{step, beside}
use Rattle.bt_parts.specs.Handing.{ComesFrom, TakesFrom}
use Rattle.bt_parts.specs.Layouts.{IsAt}
use Rattle.bt_parts.proofs.Places.{same_part, one_there, covers_at, own_cell}
use Rattle.bt_net.specs.declared.network.Edge.{Edge}
use Rattle.bt_net.specs.declared.network.Start.TheVariants as from
use Rattle.bt_net.specs.declared.network.Target.TheVariants as to
use Rattle.bt_net.specs.Network.{leaves, enters}
use Rattle.bt_model.specs.Chains.{IsSplitter, IsLink, Source, Sink, Chain, IsChain}
use Rattle.bt_model.specs.Chains as chains
use Rattle.bt_model.specs.Handing.{FeedsFrom}
use Rattle.bt_model.specs.Laying.{Lays}
use Rattle.bt_model.specs.Requests.{LayoutRequest, IsRequest}
use Rattle.bt_model.specs.Shown.{IsStartOf, IsTargetOf}
use Rattle.bt_model.proofs.Sorted.{contains_head, contains_more}
use Rattle.bt_model.proofs.ChainLemmas.{chain_from}
use Rattle.bt_model.proofs.HandLaws.{takes_at, comes_at}
use Rattle.bt_model.proofs.SameChain.{Hop, hop_of, hop_half, same_hop, leaves_half}
use Rattle.bt_facts.specs.declared.fact.Class.{Class}
use Rattle.bt_facts.specs.declared.fact.Class.TheVariants as class
use Rattle.bt_facts.specs.declared.fact.Fact.{Fact}
use Rattle.bt_facts.specs.declared.fact.Fact.TheVariants.{Carries, Goes, At, EntersLesser, LeavesLesser}
use Rattle.bt_facts.specs.declared.fact.Half.{Half}
use Rattle.bt_facts.specs.declared.fact.Half.TheVariants.{Lesser, Greater}
use Rattle.bt_facts.specs.declared.fact.Shape.TheVariants as shape
use Rattle.bt_demands.specs.Classes.{class_of, goes_to, splitters_of, onward, classes_into}
use Rattle.bt_facts.specs.Facts.{goes_into}
use Rattle.bt_rules.specs.Ports.{carries_into, two_in_rules, in_rules, in_front, out_rules, standing_port_rules, port_rules}
use Rattle.bt_facts.specs.Rules.{Rule, rule, not_all, rule_by}
use Rattle.bt_facts.specs.Spots.{dirs, halves, behind, mate, half_at, other_half, cells_of}
use Rattle.bt_rules.proofs.Chaining.{contained_link, chain_from_half, begins_with, comes_cell}
use Rattle.bt_rules.proofs.Classed.{the_edge, class_at, is_edge, class_cases, start_of, leaves_start, enters_target, start_leaves, target_enters, class_goes, in_splitters}
use Rattle.bt_rules.proofs.CarryingStay.{edge_on, target_on, half_class}
use Rattle.bt_facts.proofs.Decided.{Decided, contains_at}
use Rattle.bt_rules.proofs.Deciding.{stands_at}
use Rattle.bt_facts.proofs.Geometry.{step_behind, beside_apart}
use Rattle.bt_rules.proofs.GoingStay.{taker_there, into_said, from_into}
use Rattle.bt_facts.proofs.Keeping.{In, in_filter, from_filter, Distinct, distinct_filter, or_true, each_both, each_flat, each_map, one_of_map, TellsOf, by_stays, AllStay, Stays, OneSaid}
use Rattle.bt_rules.proofs.Laid.{Said, match_of, is_orderly, placed_of, inside_at, one_inside, each_inside}
use Rattle.bt_rules.proofs.Matching.{Matched}
use Rattle.bt_facts.proofs.Numbered.{from_enumerate, in_enumerate, distinct_enumerate, one_numbered, numbered, numbered_map}
use Rattle.bt_rules.proofs.Reading.{Stands, GoesOn, Bears, Splits, LeavesBy, EntersBy, FirstHas, last_link, ComesFromCell, edges_into, edges_from, no_edge}
use Rattle.bt_rules.proofs.StandingStay.{HasSaid, one_split, splitter_number}

-- the last of links is one of them
last_in : (i : ℕ) (links : List ℕ) → Contains (i ∷ links) (last_link i links)
last_in i [] = contains_head i []
last_in i (j ∷ links) = contains_more i (j ∷ links) (last_link j links) (last_in j links)

module _ (r : LayoutRequest) (parts : List Part) (lays : Lays parts r) where
  abbrev S : Fact → Type 0
  S = Said r parts lays

  abbrev m : Matched parts lays.naming r.net.edges
  m = match_of r parts lays

  -- the edge leaves the splitter, or comes into it, by this half
  abbrev pub Leaving : ℕ → ℕ → Half → Type 0
  Leaving = LeavesBy parts lays.naming r.net.edges r.demands m

  abbrev pub Entering : ℕ → ℕ → Half → Type 0
  Entering = EntersBy parts lays.naming r.net.edges r.demands m

  in_numbered : (e : ℕ) → e < length r.net.edges → In (enumerate_from 0 r.net.edges) (e, the_edge r parts lays e)
  in_numbered e lt = subst (λ n. In (enumerate_from 0 r.net.edges) (n, the_edge r parts lays e)) (let z : 0 + e ≡ e = omega arith in z) (in_enumerate 0 r.net.edges e no_edge lt)

  -- a numbered edge is the one with its number
  numbered_edge : (p : ℕ × Edge) → In (enumerate_from 0 r.net.edges) p → (p.0 < length r.net.edges) × (the_edge r parts lays p.0 ≡ p.1)
  numbered_edge p h =
      let found = from_enumerate 0 r.net.edges p h in
      let lt = found.1 in
      (omega (arith, lt), ap (λ k. get_or r.net.edges k no_edge) (let z : p.0 ≡ p.0 - 0 = omega arith in z) ∙ found.2 no_edge)

  -- ---- the halves by which edges leave and come in

  abbrev split_at : (s i : ℕ) → Bears lays.naming.splitters s i → IsSplitter parts i → Splits parts lays.naming s
  split_at s i named splitter = record { index = i; named = named; part = splitter.0; is_part = splitter.1; kind = splitter.2 }

  -- the splitter and the half at which the chain of an edge starts
  source_of : (e s : ℕ) (source : Source) → e < length r.net.edges → (m.chain_of e).source ≡ source → IsStartOf lays.naming source (from.Split s)
      → (split : Splits parts lays.naming s) × (half : Half) × (source ≡ chains.leaves split.index (half_at half split.part.dir split.part.cell))
  source_of e s (chains.begins i c) lt same is = absurd is
  source_of e s (chains.leaves i c) lt same is =
      let splitter = lays.shows.names.splitters.only i (contains_at lays.naming.splitters s i is) in
      ⊎_elim (λ own. (split_at s i is splitter, Lesser, ap (chains.leaves i) own)) (λ greater. (split_at s i is splitter, Greater, ap (chains.leaves i) greater))
      (leaves_half parts (m.chain_of e) i c splitter.0 splitter.1 (m.is_chain e lt) same)

  -- what comes to a splitter comes from behind one of its halves
  comes_from : (c : Chain) (s : ℕ) → IsChain parts c → (hop : Hop parts c s) → ComesFromCell parts c.source c.links hop.half
  comes_from c s is hop = ⊎_elim
      (λ long. let h = long.0 in comes_cell parts c.source c.links h.first h.last hop.half h.path (subst (λ j. IsAt parts j hop.half) (sym long.1) hop.feeds.look.giver))
      (λ empty. let h = empty.0 in
      subst (λ l. ComesFromCell parts c.source l hop.half) (sym h.no_link) (h.from, h.source ∙ ap (chains.leaves h.from) empty.2))
      hop.via

  -- a chain comes from one cell
  one_comes : (c : Chain) (source : Source) (links : List ℕ) (a b : Cell) → IsChain parts c → c.links ≡ links → ComesFromCell parts source links a → ComesFromCell parts source links b → a ≡ b
  one_comes c source [] a b is e h k = let x = sym h.1 ∙ k.1 in cc
  one_comes c source (i ∷ links) a b is e h k =
      let link = contained_link parts lays.shows.clean c (last_link i links) is (subst (λ l. Contains l (last_link i links)) (sym e) (last_in i links)) in
      own_cell link.0 a link.2 (covers_at parts (last_link i links) link.0 a link.1 h) ∙ sym (own_cell link.0 b link.2 (covers_at parts (last_link i links) link.0 b link.1 k))

  sink_of : (e s : ℕ) (sink : Sink) → e < length r.net.edges → (m.chain_of e).sink ≡ sink → IsTargetOf lays.naming sink (to.Split s)
      → (split : Splits parts lays.naming s) × (half : Half) × (sink ≡ chains.enters split.index)
      × ComesFromCell parts (m.chain_of e).source (m.chain_of e).links (behind split.part.dir (half_at half split.part.dir split.part.cell))
  sink_of e s (chains.ends i) lt same is = absurd is
  sink_of e s (chains.enters i) lt same is =
      let splitter = lays.shows.names.splitters.only i (contains_at lays.naming.splitters s i is) in
      let hop = hop_of parts (m.chain_of e) i (m.is_chain e lt) same in
      let comes = comes_from (m.chain_of e) i (m.is_chain e lt) hop in
      ⊎_elim (λ own. (split_at s i is splitter, Lesser, refl, subst (ComesFromCell parts (m.chain_of e).source (m.chain_of e).links) own comes))
      (λ greater. (split_at s i is splitter, Greater, refl, subst (ComesFromCell parts (m.chain_of e).source (m.chain_of e).links) greater comes))
      (hop_half parts (m.chain_of e) i splitter.0 splitter.1 splitter.2 hop)

  -- an edge leaves a splitter by one half
  one_leaving : (s e : ℕ) → Leaving s e Lesser → Leaving s e Greater → ⊥
  one_leaving s e p q =
      let same = one_split r parts lays s p.1.0 q.1.0 in
      let part = same.1 in
      let sources = sym p.1.1 ∙ q.1.1 in
      let cells : p.1.0.part.cell ≡ beside q.1.0.part.dir q.1.0.part.cell = cc in
      beside_apart q.1.0.part.dir q.1.0.part.cell (ap (λ x. x.cell) (sym part) ∙ cells)

  -- and comes in by one half
  one_entering : (s e : ℕ) → Entering s e Lesser → Entering s e Greater → ⊥
  one_entering s e p q =
      let same = one_split r parts lays s p.1.0 q.1.0 in
      let cells = one_comes (m.chain_of e) (m.chain_of e).source (m.chain_of e).links (behind p.1.0.part.dir p.1.0.part.cell) (behind q.1.0.part.dir (beside q.1.0.part.dir q.1.0.part.cell))
      (m.is_chain e p.0) refl p.1.1.1 q.1.1.1 in
      let dir = q.1.0.part.dir in let cell = q.1.0.part.cell in
      let there : behind dir cell ≡ behind dir (beside dir cell) = ap (λ x. behind x.dir x.cell) (sym same.1) ∙ cells in
      beside_apart dir cell (sym (step_behind dir cell) ∙ ap (step dir) there ∙ step_behind dir (beside dir cell))

  -- no two edges leave by one half
  same_leaving : (s e f : ℕ) (half : Half) → Leaving s e half → Leaving s f half → e ≡ f
  same_leaving s e f half p q =
      let same = one_split r parts lays s p.1.0 q.1.0 in
      let sources : (m.chain_of e).source ≡ (m.chain_of f).source = p.1.1 ∙ ap (λ i. chains.leaves i (half_at half p.1.0.part.dir p.1.0.part.cell)) same.0
      ∙ ap (λ x. chains.leaves q.1.0.index (half_at half x.dir x.cell)) same.1 ∙ sym q.1.1 in
      m.apart e f p.0 q.0 (chain_from parts (placed_of r parts lays) (m.chain_of e) (m.chain_of f) (m.is_chain e p.0) (m.is_chain f q.0) sources)

  -- the cell from which a chain hops to a splitter
  hop_cell : (e i : ℕ) (c : Cell) → (lt : e < length r.net.edges) → (m.chain_of e).sink ≡ chains.enters i → ComesFromCell parts (m.chain_of e).source (m.chain_of e).links c
      → (hop : Hop parts (m.chain_of e) i) × (hop.half ≡ c)
  hop_cell e i c lt sink comes =
      let hop = hop_of parts (m.chain_of e) i (m.is_chain e lt) sink in
      (hop, one_comes (m.chain_of e) (m.chain_of e).source (m.chain_of e).links hop.half c (m.is_chain e lt) refl (comes_from (m.chain_of e) i (m.is_chain e lt) hop) comes)

  same_entering : (s e f : ℕ) (half : Half) → Entering s e half → Entering s f half → e ≡ f
  same_entering s e f half p q =
      let same = one_split r parts lays s p.1.0 q.1.0 in
      let sink : (m.chain_of e).sink ≡ chains.enters q.1.0.index = p.1.1.0 ∙ ap chains.enters same.0 in
      let here = half_at half q.1.0.part.dir q.1.0.part.cell in
      let comes : ComesFromCell parts (m.chain_of e).source (m.chain_of e).links (behind q.1.0.part.dir here) =
      subst (ComesFromCell parts (m.chain_of e).source (m.chain_of e).links) (ap (λ x. behind x.dir (half_at half x.dir x.cell)) same.1) p.1.1.1 in
      let one = hop_cell e q.1.0.index (behind q.1.0.part.dir here) p.0 sink comes in
      let other = hop_cell f q.1.0.index (behind q.1.0.part.dir here) q.0 q.1.1.0 q.1.1.1 in
      m.apart e f p.0 q.0 (same_hop parts (is_orderly r parts lays) (m.chain_of e) (m.chain_of f) q.1.0.index (m.is_chain e p.0) (m.is_chain f q.0) sink q.1.1.0 one.0 other.0 (one.1 ∙ sym other.1))

  -- ---- the ports of a splitter that stands so

  -- the half from which an edge leaves, where the splitter stands
  leaves_there : (s e : ℕ) (half : Half) (c : Cell) (dir : Dir) → (at : S (At s c dir)) → Leaving s e half → (m.chain_of e).source ≡ chains.leaves at.0.index (half_at half dir c)
  leaves_there s e half c dir at h =
      let same = one_split r parts lays s h.1.0 at.0 in
      h.1.1 ∙ ap (λ i. chains.leaves i (half_at half h.1.0.part.dir h.1.0.part.cell)) same.0 ∙ ap (λ x. chains.leaves at.0.index (half_at half x.dir x.cell)) same.1
      ∙ ap (λ d. chains.leaves at.0.index (half_at half d at.0.part.cell)) at.1.1 ∙ ap (λ x. chains.leaves at.0.index (half_at half dir x)) (sym at.1.0)

  -- the splitter itself stands on its half
  abbrev on_half : (s : ℕ) (half : Half) (c : Cell) (dir : Dir) → (at : S (At s c dir)) → Stands parts (half_at half dir c) (shape.Half half) dir
  on_half s half c dir at = record {
    index = at.0.index;
    part = at.0.part;
    is_part = at.0.is_part;
    kind = at.0.kind;
    turned = at.1.1;
    cell = ap (half_at half dir) at.1.0 ∙ ap (λ d. half_at half d at.0.part.cell) (sym at.1.1);
  }

  half_on : (s : ℕ) (half : Half) (c : Cell) (dir : Dir) → (at : S (At s c dir)) → IsAt parts at.0.index (half_at half dir c)
  half_on s half c dir at = stands_at parts (is_orderly r parts lays) (half_at half dir c) (shape.Half half) dir (on_half s half c dir at)

  -- what a half of it feeds is what goes on from there
  abbrev fed_goes : (s : ℕ) (half : Half) (c : Cell) (dir : Dir) (q : ℕ) → (at : S (At s c dir)) → FeedsFrom parts at.0.index (half_at half dir c) q → GoesOn parts (half_at half dir c) dir
  fed_goes s half c dir q at feeds = record {
    giver = at.0.index;
    taker = q;
    feeds = feeds;
    along = ap (λ p. p.dir) (same_part parts at.0.index feeds.look.giver.part at.0.part feeds.look.giver.is_i at.0.is_part) ∙ at.1.1;
  }

  -- the edge of what a half hands on is one of those that leave the splitter
  goes_edge : (s : ℕ) (half : Half) (c : Cell) (dir : Dir) → (at : S (At s c dir)) → GoesOn parts (half_at half dir c) dir → (e : ℕ) × In (edges_from r.net.edges s) (e, the_edge r parts lays e) × Leaving s e half
  goes_edge s half c dir at g =
      let i = at.0.index in
      let index : g.giver ≡ i = one_there parts (placed_of r parts lays) g.giver i (half_at half dir c) g.feeds.look.giver (half_on s half c dir at) in
      let splitter : IsSplitter parts i = (at.0.part, at.0.is_part, at.0.kind) in
      let chain = chain_from_half parts lays.shows.clean i g.taker (half_at half dir c) splitter (subst (λ j. FeedsFrom parts j (half_at half dir c) g.taker) index g.feeds) in
      let edge = m.each chain.0 chain.1 in
      let source : (m.chain_of edge.0).source ≡ chains.leaves i (half_at half dir c) = ap (λ x. x.source) edge.2 ∙ chain.2 in
      let start = start_of r parts lays (m.chain_of edge.0).source (the_edge r parts lays edge.0).start s i (half_at half dir c) source at.0.named (is_edge r parts lays edge.0 edge.1).start in (
        edge.0,
        in_filter (λ numbered. leaves s numbered.1) (enumerate_from 0 r.net.edges) (edge.0, the_edge r parts lays edge.0) (in_numbered edge.0 edge.1)
            (start_leaves s (the_edge r parts lays edge.0) start),
        (edge.1, (at.0, source ∙ ap (λ x. chains.leaves i (half_at half dir x)) at.1.0 ∙ ap (λ x. chains.leaves i (half_at half x at.0.part.cell)) (sym at.1.1))),
      )

  -- an edge that leaves by a half goes on
  leaving_goes : (s e : ℕ) (half : Half) (c : Cell) (dir : Dir) → (at : S (At s c dir)) → Leaving s e half
      → (q : ℕ) × (g : GoesOn parts (half_at half dir c) dir) × (g.taker ≡ q) × ((IsLink parts q × Contains (m.chain_of e).links q) ⊎ (IsSplitter parts q × ((m.chain_of e).sink ≡ chains.enters q) × ((m.chain_of e).links ≡ [])))
  leaving_goes s e half c dir at h =
      let found = begins_with parts lays.shows.clean (m.chain_of e) at.0.index (half_at half dir c) (m.is_chain e h.0) (leaves_there s e half c dir at h) in
      (found.0, fed_goes s half c dir found.0 at found.1, refl, found.2)

  -- an edge that comes in by a half is handed to it
  entering_goes : (s e : ℕ) (half : Half) (c : Cell) (dir : Dir) → (at : S (At s c dir)) → Entering s e half → GoesOn parts (behind dir (half_at half dir c)) dir
  entering_goes s e half c dir at h =
      let same = one_split r parts lays s h.1.0 at.0 in
      let i = at.0.index in
      let sink : (m.chain_of e).sink ≡ chains.enters i = h.1.1.0 ∙ ap chains.enters same.0 in
      let comes : ComesFromCell parts (m.chain_of e).source (m.chain_of e).links (behind dir (half_at half dir c)) =
      subst (ComesFromCell parts (m.chain_of e).source (m.chain_of e).links)
      (ap (λ x. behind x.dir (half_at half x.dir x.cell)) same.1 ∙ ap (λ d. behind d (half_at half d at.0.part.cell)) at.1.1 ∙ ap (λ x. behind dir (half_at half dir x)) (sym at.1.0)) h.1.1.1 in
      let hop = hop_cell e i (behind dir (half_at half dir c)) h.0 sink comes in
      let feeds : FeedsFrom parts hop.0.from_part (behind dir (half_at half dir c)) i = subst (λ x. FeedsFrom parts hop.0.from_part x i) hop.1 hop.0.feeds in
      let side : feeds.side ≡ Behind = subst (λ k. TakesFrom k feeds.side) at.0.kind (takes_at parts hop.0.from_part i (behind dir (half_at half dir c)) at.0.part at.0.is_part feeds) in
      let along : feeds.look.giver.part.dir ≡ at.0.part.dir = subst (ComesFrom feeds.look.giver.part.dir at.0.part.dir) side (comes_at parts hop.0.from_part i (behind dir (half_at half dir c)) at.0.part at.0.is_part feeds) in
      record { giver = hop.0.from_part; taker = i; feeds = feeds; along = along ∙ at.1.1 }

  -- ---- what comes into a splitter

  -- the edge of what is handed to a half is one of those into the splitter
  entering_edge : (t : ℕ) (half : Half) (c : Cell) (dir : Dir) → (at : S (At t c dir)) → (g : GoesOn parts (behind dir (half_at half dir c)) dir)
      → (e : ℕ) × In (edges_into r.net.edges t) (e, the_edge r parts lays e) × HasSaid r parts lays g.giver (class_at r parts lays e) × Entering t e half
  entering_edge t half c dir at g =
      let u = half_at half dir c in
      let i = at.0.index in
      let there : IsAt parts g.taker u = subst (IsAt parts g.taker) (step_behind dir u) (taker_there r parts lays (behind dir u) dir g) in
      let index : g.taker ≡ i = one_there parts (placed_of r parts lays) g.taker i u there (half_on t half c dir at) in
      let on = edge_on r parts lays (behind dir u) dir g (subst (λ j. IsSplitter parts j) (sym index) (at.0.part, at.0.is_part, at.0.kind)) in
      let e = on.0 in
      let sink : (m.chain_of e).sink ≡ chains.enters i = on.3 ∙ ap chains.enters index in (
        e,
        in_filter (λ numbered. enters t numbered.1) (enumerate_from 0 r.net.edges) (e, the_edge r parts lays e) (in_numbered e on.1)
            (target_enters t (the_edge r parts lays e) (target_on r parts lays e t i on.1 sink at.0.named)),
        on.2,
        (
          on.1,
          (
            at.0,
            (
              sink,
              subst (ComesFromCell parts (m.chain_of e).source (m.chain_of e).links)
                  (ap (λ x. behind dir (half_at half dir x)) at.1.0 ∙ ap (λ d. behind d (half_at half d at.0.part.cell)) (sym at.1.1)) on.4,
            ),
          ),
        ),
      )

  goes_in : (t e : ℕ) (half : Half) (c : Cell) (dir : Dir) → S (At t c dir) → Entering t e half → OneSaid S (goes_into r.rect (half_at half dir c) dir)
  goes_in t e half c dir at h = into_said r parts lays (half_at half dir c) dir (entering_goes t e half c dir at h)

  -- what is behind the half by which an edge comes in has its class
  carries_in : (t e : ℕ) (half : Half) (c : Cell) (dir : Dir) (k : Class) → class_at r parts lays e ≡ k → S (At t c dir) → Entering t e half → OneSaid S (carries_into r.rect (half_at half dir c) dir k)
  carries_in t e half c dir k same at h =
      let u = half_at half dir c in
      let g = entering_goes t e half c dir at h in
      let found = entering_edge t half c dir at g in
      let edges : found.0 ≡ e = same_entering t found.0 e half found.3 h in
      one_inside S r.rect (behind dir u) (Carries (behind dir u) k ∷ []) (inside_at r parts lays g.giver (behind dir u) g.feeds.look.giver)
      (inl (g.giver, g.feeds.look.giver, subst (HasSaid r parts lays g.giver) (ap (class_at r parts lays) edges ∙ same) found.2))

  -- each edge into a splitter comes in by a half
  enters_half : (t : ℕ) (p : ℕ × Edge) → In (edges_into r.net.edges t) p → (half : Half) × Entering t p.0 half
  enters_half t p h =
      let found = from_filter (λ numbered. enters t numbered.1) (enumerate_from 0 r.net.edges) p h in
      let edge = numbered_edge p found.0 in
      let target : (the_edge r parts lays p.0).target ≡ to.Split t = ap (λ x. x.target) edge.1 ∙ enters_target t p.1 found.1 in
      let sink = sink_of p.0 t (m.chain_of p.0).sink edge.0 refl (subst (IsTargetOf lays.naming (m.chain_of p.0).sink) target (is_edge r parts lays p.0 edge.0).target) in
      (sink.1, (edge.0, (sink.0, (sink.2, sink.3))))

  leaves_half_of : (s : ℕ) (p : ℕ × Edge) → In (edges_from r.net.edges s) p → (half : Half) × Leaving s p.0 half
  leaves_half_of s p h =
      let found = from_filter (λ numbered. leaves s numbered.1) (enumerate_from 0 r.net.edges) p h in
      let edge = numbered_edge p found.0 in
      let start : (the_edge r parts lays p.0).start ≡ from.Split s = ap (λ x. x.start) edge.1 ∙ leaves_start s p.1 found.1 in
      let source = source_of p.0 s (m.chain_of p.0).source edge.0 refl (subst (IsStartOf lays.naming (m.chain_of p.0).source) start (is_edge r parts lays p.0 edge.0).start) in
      (source.1, (edge.0, (source.0, source.2)))

  pub class_numbered : (t : ℕ) (p : ℕ × Edge) → In (edges_into r.net.edges t) p → class_at r parts lays p.0 ≡ class_of r.demands p.1
  class_numbered t p h = ap (class_of r.demands) (numbered_edge p (from_filter (λ numbered. enters t numbered.1) (enumerate_from 0 r.net.edges) p h).0).1

  -- ---- the halves of the first edge, and of two

  module _ (By : ℕ → Half → Type 0) (port : Fact) (ps : List (ℕ × Edge)) (tells : FirstHas ps (λ e. By e Lesser) → S port) (told : S port → FirstHas ps (λ e. By e Lesser))
      (some : (p : ℕ × Edge) → In ps p → (half : Half) × By p.0 half) (one : (e : ℕ) → By e Lesser → By e Greater → ⊥)
      (same : (e f : ℕ) (half : Half) → By e half → By f half → e ≡ f) where
    -- it can be told of the first edge
    first_decided : (p : ℕ × Edge) (rest : List (ℕ × Edge)) → ps ≡ p ∷ rest → Decided (S port)
    first_decided p rest e = by (some p (subst (λ l. In l p) (sym e) (inl refl)))
      where
        by : (half : Half) × By p.0 half → Decided (S port)
        by (Lesser, h) = inl (tells (subst (λ l. FirstHas l (λ e. By e Lesser)) (sym e) h))
        by (Greater, h) = inr (λ q. one p.0 (subst (λ l. FirstHas l (λ e. By e Lesser)) e (told q)) h)

    -- the half of the first edge is the one that is told of
    first_by : (p : ℕ × Edge) (rest : List (ℕ × Edge)) → ps ≡ p ∷ rest → (half : Half) → TellsOf S half port → By p.0 half
    first_by p rest e Lesser q = subst (λ l. FirstHas l (λ e. By e Lesser)) e (told q)
    first_by p rest e Greater n = by (some p (subst (λ l. In l p) (sym e) (inl refl)))
      where
        by : (half : Half) × By p.0 half → By p.0 Greater
        by (Lesser, h) = absurd (n (tells (subst (λ l. FirstHas l (λ e. By e Lesser)) (sym e) h)))
        by (Greater, h) = h

    -- the other edge uses the other half
    other_by : (p q : ℕ × Edge) → (p.0 ≡ q.0 → ⊥) → In ps q → (half : Half) → By p.0 half → By q.0 (other_half half)
    other_by p q apart there half h = by half h (some q there)
      where
        by : (half : Half) → By p.0 half → (other : Half) × By q.0 other → By q.0 (other_half half)
        by Lesser h (Lesser, k) = absurd (apart (same p.0 q.0 Lesser h k))
        by Lesser h (Greater, k) = k
        by Greater h (Lesser, k) = k
        by Greater h (Greater, k) = absurd (apart (same p.0 q.0 Greater h k))

    -- each half is used by one of two
    one_by : (p q : ℕ × Edge) → (p.0 ≡ q.0 → ⊥) → In ps p → In ps q → (half : Half) → By p.0 half ⊎ By q.0 half
    one_by p q apart here there half = by half (some p here)
      where
        by : (half : Half) → (first : Half) × By p.0 first → By p.0 half ⊎ By q.0 half
        by Lesser (Lesser, h) = inl h
        by Greater (Greater, h) = inl h
        by Greater (Lesser, h) = inr (other_by p q apart there Lesser h)
        by Lesser (Greater, h) = inr (other_by p q apart there Greater h)

    -- no edge uses both halves
    not_both : (e : ℕ) (half : Half) → By e half → By e (other_half half) → ⊥
    not_both e Lesser h k = one e h k
    not_both e Greater h k = one e k h

  -- two numbered edges of a list are of two numbers
  two_apart : (p q : ℕ × Edge) (more : List (ℕ × Edge)) (test : Edge → Bool) → filter (λ numbered. test numbered.1) (enumerate_from 0 r.net.edges) ≡ p ∷ q ∷ more → p.0 ≡ q.0 → ⊥
  two_apart p q more test e same =
      let distinct : Distinct (p ∷ q ∷ more) = subst Distinct e (distinct_filter (λ numbered. test numbered.1) (enumerate_from 0 r.net.edges) (distinct_enumerate 0 r.net.edges)) in
      let in_p = (from_filter (λ numbered. test numbered.1) (enumerate_from 0 r.net.edges) p (subst (λ l. In l p) (sym e) (inl refl))).0 in
      let in_q = (from_filter (λ numbered. test numbered.1) (enumerate_from 0 r.net.edges) q (subst (λ l. In l q) (sym e) (inr (inl refl)))).0 in
      distinct.0 (inl (one_numbered r.net.edges p q in_p in_q same))

  -- ---- the rules of what comes in

  abbrev into : ℕ → List (ℕ × Edge)
  into t = edges_into r.net.edges t

  abbrev k_of : ℕ × Edge → Class
  k_of p = class_of r.demands p.1

  module _ (t : ℕ) (c : Cell) (dir : Dir) where
    abbrev enters_first : (p : ℕ × Edge) (rest : List (ℕ × Edge)) → into t ≡ p ∷ rest → (half : Half) → TellsOf S half (EntersLesser t) → Entering t p.0 half
    enters_first p rest e half tells = first_by (Entering t) (EntersLesser t) (into t) (λ h. h) (λ h. h) (enters_half t) (one_entering t) (same_entering t) p rest e half tells

    abbrev enters_decided : (p : ℕ × Edge) (rest : List (ℕ × Edge)) → into t ≡ p ∷ rest → Decided (S (EntersLesser t))
    enters_decided p rest e = first_decided (Entering t) (EntersLesser t) (into t) (λ h. h) (λ h. h) (enters_half t) (one_entering t) (same_entering t) p rest e

    two_in_stay : (p q : ℕ × Edge) (more : List (ℕ × Edge)) → into t ≡ p ∷ q ∷ more → (half : Half) → AllStay S (two_in_rules r.rect t (At t c dir) c dir half (k_of p) (k_of q))
    two_in_stay p q more e half = ⊎_elim
        (λ yes. subst (λ b. AllStay S (cond b equal apart)) (sym yes.0) (
          λ given. ⊎_elim
              (λ h. carries_in t p.0 half c dir (k_of p) (class_numbered t p in_p) given.0 h)
              (λ h. carries_in t q.0 half c dir (k_of p) (class_numbered t q in_q ∙ sym yes.1) given.0 h)
              (one_by (Entering t) (EntersLesser t) (into t) (λ h. h) (λ h. h) (enters_half t) (one_entering t) (same_entering t) p q differ in_p in_q half),
          tt,
        ))
        (λ no. subst (λ b. AllStay S (cond b equal apart)) (sym no.0) (
          by_stays S half (EntersLesser t) (At t c dir ∷ []) (carries_into r.rect (half_at half dir c) dir (k_of p)) (enters_decided p (q ∷ more) e)
              (λ tells given. carries_in t p.0 half c dir (k_of p) (class_numbered t p in_p) given.0 (enters_first p (q ∷ more) e half tells)),
          (
            by_stays S half (EntersLesser t) (At t c dir ∷ []) (carries_into r.rect (half_at (other_half half) dir c) dir (k_of q)) (enters_decided p (q ∷ more) e)
                (λ tells given. carries_in t q.0 (other_half half) c dir (k_of q) (class_numbered t q in_q) given.0
                (other_by (Entering t) (EntersLesser t) (into t) (λ h. h) (λ h. h) (enters_half t) (one_entering t) (same_entering t) p q differ in_q half (enters_first p (q ∷ more) e half tells))),
            tt,
          ),
        ))
        (class_cases (k_of p) (k_of q))
      where
        equal : List Rule
        equal = rule (At t c dir ∷ []) (carries_into r.rect (half_at half dir c) dir (k_of p)) ∷ []

        apart : List Rule
        apart = rule_by half (EntersLesser t) (At t c dir ∷ []) (carries_into r.rect (half_at half dir c) dir (k_of p))
            ∷ rule_by half (EntersLesser t) (At t c dir ∷ []) (carries_into r.rect (half_at (other_half half) dir c) dir (k_of q)) ∷ []

        in_p : In (into t) p
        in_p = subst (λ l. In l p) (sym e) (inl refl)

        in_q : In (into t) q
        in_q = subst (λ l. In l q) (sym e) (inr (inl refl))

        differ : p.0 ≡ q.0 → ⊥
        differ = two_apart p q more (enters t) e

    in_stay : (ps : List (ℕ × Edge)) → into t ≡ ps → (half : Half) → AllStay S (in_rules r.rect t (At t c dir) c dir (map k_of ps) half)
    in_stay [] e half = each_map (Stays S) (λ going. not_all (At t c dir ∷ going ∷ [])) (goes_into r.rect (half_at half dir c) dir)
        (λ f h given.
        let found = entering_edge t half c dir given.0 (subst S (from_into r parts lays (half_at half dir c) dir f h) given.1.0) in
        absurd (subst (λ l. In l (found.0, the_edge r parts lays found.0)) e found.1))
    in_stay (p ∷ []) e half = (
      by_stays S half (EntersLesser t) (At t c dir ∷ []) (goes_into r.rect (half_at half dir c) dir) (enters_decided p [] e)
          (λ tells given. goes_in t p.0 half c dir given.0 (enters_first p [] e half tells)),
      (
        by_stays S half (EntersLesser t) (At t c dir ∷ []) (carries_into r.rect (half_at half dir c) dir (k_of p)) (enters_decided p [] e)
            (λ tells given. carries_in t p.0 half c dir (k_of p) (class_numbered t p (subst (λ l. In l p) (sym e) (inl refl))) given.0 (enters_first p [] e half tells)),
        each_map (Stays S) (λ going. rule_by half (EntersLesser t) (At t c dir ∷ going ∷ []) []) (goes_into r.rect (half_at (other_half half) dir c) dir)
            (λ f h. by_stays S half (EntersLesser t) (At t c dir ∷ f ∷ []) [] (enters_decided p [] e)
            (λ tells given.
            let found = entering_edge t (other_half half) c dir given.0 (subst S (from_into r parts lays (half_at (other_half half) dir c) dir f h) given.1.0) in
            let index : found.0 ≡ p.0 = ⊎_elim (λ same. ap (λ x. x.0) same) (λ n. absurd n) (subst (λ l. In l (found.0, the_edge r parts lays found.0)) e found.1) in
            absurd (not_both (Entering t) (EntersLesser t) (into t) (λ h. h) (λ h. h) (enters_half t) (one_entering t) (same_entering t) p.0 half (enters_first p [] e half tells)
            (subst (λ x. Entering t x (other_half half)) index found.3)))),
      ),
    )
    in_stay (p ∷ q ∷ more) e half = (
      λ given. ⊎_elim
          (λ h. goes_in t p.0 half c dir given.0 h)
          (λ h. goes_in t q.0 half c dir given.0 h)
          (one_by (Entering t) (EntersLesser t) (into t) (λ h. h) (λ h. h) (enters_half t) (one_entering t) (same_entering t) p q (two_apart p q more (enters t) e)
          (subst (λ l. In l p) (sym e) (inl refl)) (subst (λ l. In l q) (sym e) (inr (inl refl))) half),
      two_in_stay p q more e half,
    )

  -- ---- the rules of what leaves

  abbrev out_of : ℕ → List (ℕ × Edge)
  out_of s = edges_from r.net.edges s

  goes_out : (s e : ℕ) (half : Half) (c : Cell) (dir : Dir) → S (At s c dir) → Leaving s e half → S (Goes (half_at half dir c) dir)
  goes_out s e half c dir at h = (leaving_goes s e half c dir at h).1

  front_said : IsRequest r → (s : ℕ) → s < r.net.splitters → (e : ℕ) (half : Half) (c : Cell) (dir : Dir) → S (At s c dir) → Leaving s e half → OneSaid S (in_front r s (step dir (half_at half dir c)))
  front_said is s below e half c dir at h =
      let n = step dir (half_at half dir c) in
      let found = leaving_goes s e half c dir at h in
      let there : IsAt parts found.0 n = subst (λ j. IsAt parts j n) found.2 (taker_there r parts lays (half_at half dir c) dir found.1) in
      let owned : class_at r parts lays e ≡ class.Split s = half_class r parts lays e s at.0.index (half_at half dir c) h.0 (leaves_there s e half c dir at h) at.0.named in
      one_inside S r.rect n (map (λ t. Carries n (class.Split t)) (onward r s)) (inside_at r parts lays found.0 n there)
      (⊎_elim
      (λ link. one_of_map S (λ t. Carries n (class.Split t)) (onward r s) s
      (in_filter (λ t. (t == s) || goes_to r (class.Split s) t) (splitters_of r) s (in_splitters r is s below) (ap (λ b. b || goes_to r (class.Split s) s) (eq-eqb s s refl)))
      (found.0, there, inr (e, (h.0, link.1), sym owned)))
      (λ split.
      let number = splitter_number r parts lays found.0 split.0 in
      one_of_map S (λ t. Carries n (class.Split t)) (onward r s) number.0
      (in_filter (λ t. (t == s) || goes_to r (class.Split s) t) (splitters_of r) number.0 (in_splitters r is number.0 number.1)
      (ap (λ b. (number.0 == s) || b) (subst (λ k. goes_to r k number.0 ≡ true) owned (class_goes r parts lays e number.0 h.0 (target_on r parts lays e number.0 found.0 h.0 split.1 number.2)))
      ∙ or_true (number.0 == s)))
      (found.0, there, inl (split.0, (number.0, number.2, refl))))
      found.3)

  module _ (is : IsRequest r) (s : ℕ) (below : s < r.net.splitters) (c : Cell) (dir : Dir) where
    abbrev leaves_first : (p : ℕ × Edge) (rest : List (ℕ × Edge)) → out_of s ≡ p ∷ rest → (half : Half) → TellsOf S half (LeavesLesser s) → Leaving s p.0 half
    leaves_first p rest e half tells = first_by (Leaving s) (LeavesLesser s) (out_of s) (λ h. h) (λ h. h) (leaves_half_of s) (one_leaving s) (same_leaving s) p rest e half tells

    abbrev leaves_decided : (p : ℕ × Edge) (rest : List (ℕ × Edge)) → out_of s ≡ p ∷ rest → Decided (S (LeavesLesser s))
    leaves_decided p rest e = first_decided (Leaving s) (LeavesLesser s) (out_of s) (λ h. h) (λ h. h) (leaves_half_of s) (one_leaving s) (same_leaving s) p rest e

    out_stay : (ps : List (ℕ × Edge)) → out_of s ≡ ps → (half : Half) → AllStay S (out_rules r s (At s c dir) c dir (map (λ p. p.1) ps) half)
    out_stay [] e half = (
      λ given.
          let found = goes_edge s half c dir given.0 given.1.0 in
          absurd (subst (λ l. In l (found.0, the_edge r parts lays found.0)) e found.1),
      tt,
    )
    out_stay (p ∷ []) e half = (
      by_stays S half (LeavesLesser s) (At s c dir ∷ []) (Goes (half_at half dir c) dir ∷ []) (leaves_decided p [] e)
          (λ tells given. inl (goes_out s p.0 half c dir given.0 (leaves_first p [] e half tells))),
      (
        by_stays S half (LeavesLesser s) (At s c dir ∷ []) (in_front r s (step dir (half_at half dir c))) (leaves_decided p [] e)
            (λ tells given. front_said is s below p.0 half c dir given.0 (leaves_first p [] e half tells)),
        (
          by_stays S half (LeavesLesser s) (At s c dir ∷ Goes (half_at (other_half half) dir c) dir ∷ []) [] (leaves_decided p [] e)
              (λ tells given.
              let found = goes_edge s (other_half half) c dir given.0 given.1.0 in
              let index : found.0 ≡ p.0 = ⊎_elim (λ same. ap (λ x. x.0) same) (λ n. absurd n) (subst (λ l. In l (found.0, the_edge r parts lays found.0)) e found.1) in
              absurd (not_both (Leaving s) (LeavesLesser s) (out_of s) (λ h. h) (λ h. h) (leaves_half_of s) (one_leaving s) (same_leaving s) p.0 half (leaves_first p [] e half tells)
              (subst (λ x. Leaving s x (other_half half)) index found.2))),
          tt,
        ),
      ),
    )
    out_stay (p ∷ q ∷ more) e half =
        let used = one_by (Leaving s) (LeavesLesser s) (out_of s) (λ h. h) (λ h. h) (leaves_half_of s) (one_leaving s) (same_leaving s) p q (two_apart p q more (leaves s) e)
        (subst (λ l. In l p) (sym e) (inl refl)) (subst (λ l. In l q) (sym e) (inr (inl refl))) half in (
          λ given. ⊎_elim (λ h. inl (goes_out s p.0 half c dir given.0 h)) (λ h. inl (goes_out s q.0 half c dir given.0 h)) used,
          (
            (λ given. ⊎_elim (λ h. front_said is s below p.0 half c dir given.0 h) (λ h. front_said is s below q.0 half c dir given.0 h) used),
            tt,
          ),
        )

    standing_stay : AllStay S (standing_port_rules r s c dir)
    standing_stay = each_inside S r.rect (mate Lesser dir c) (Stays S)
        (flat_map (in_rules r.rect s (At s c dir) c dir (classes_into r s)) halves ++ flat_map (out_rules r s (At s c dir) c dir (filter (leaves s) r.net.edges)) halves)
        (λ here. each_both (Stays S) (flat_map (in_rules r.rect s (At s c dir) c dir (classes_into r s)) halves) (flat_map (out_rules r s (At s c dir) c dir (filter (leaves s) r.net.edges)) halves)
        (each_flat (Stays S) (in_rules r.rect s (At s c dir) c dir (classes_into r s)) halves
        (λ half h. subst (λ l. AllStay S (in_rules r.rect s (At s c dir) c dir l half))
        (sym (ap (map (class_of r.demands)) (numbered (enters s) 0 r.net.edges) ∙ numbered_map (class_of r.demands) (into s))) (in_stay s c dir (into s) refl half)))
        (each_flat (Stays S) (out_rules r s (At s c dir) c dir (filter (leaves s) r.net.edges)) halves
        (λ half h. subst (λ l. AllStay S (out_rules r s (At s c dir) c dir l half)) (sym (numbered (leaves s) 0 r.net.edges)) (out_stay (out_of s) refl half))))

  pub ports_stay : IsRequest r → (s : ℕ) → s < r.net.splitters → AllStay S (port_rules r s)
  ports_stay is s below = each_flat (Stays S) (λ c. flat_map (standing_port_rules r s c) dirs) (cells_of r.rect)
      (λ c h. each_flat (Stays S) (standing_port_rules r s c) dirs (λ dir k. standing_stay is s below c dir))
