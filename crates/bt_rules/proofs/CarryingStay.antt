-- Layouts keep the rules of classes.
use Rattle.std.proofs.Common.{◌≡◌, inl, inr, ℕ, ◌<◌, Bool, true, not, cond, List, [], ◌∷◌, ◌++◌, map, length, refl, sym, ◌∙◌, ap, subst, ⊎_elim}
use Rattle.std.specs.List.{Contains, flat_map, filter, range_with_len}
use Rattle.std.proofs.lemmas.Bool.{false≢true}
use Rattle.bt_parts.specs.declared.part.Cell.{Cell}
use Rattle.bt_parts.specs.declared.part.Dir.{Dir}
use Rattle.bt_parts.specs.declared.part.Part.{Part}
use Rattle.bt_parts.specs.Cells.{step, IsInside}
use Rattle.bt_parts.specs.Layouts.{IsAt}
use Rattle.bt_parts.proofs.Places.{one_there}
use Rattle.bt_net.specs.declared.network.Target.TheVariants as to
use Rattle.bt_model.specs.Chains.{IsSplitter, IsLink}
use Rattle.bt_model.specs.Chains as chains
use Rattle.bt_model.specs.Handing.{Hands}
use Rattle.bt_model.specs.Laying.{Lays}
use Rattle.bt_model.specs.Requests.{LayoutRequest, IsRequest}
use Rattle.bt_model.proofs.ChainLemmas.{no_link}
use Rattle.bt_model.proofs.ExistLemmas.{at_cases, part_cases, empty_chain}
use Rattle.bt_facts.specs.declared.fact.Class.{Class}
use Rattle.bt_facts.specs.declared.fact.Class.TheVariants.{Split, Shared, Input}
use Rattle.bt_facts.specs.declared.fact.Content.TheVariants.{Empty}
use Rattle.bt_facts.specs.declared.fact.Fact.{Fact}
use Rattle.bt_facts.specs.declared.fact.Fact.TheVariants.{Kind, Carries, HalfOn}
use Rattle.bt_rules.specs.Carrying.{carried_rules, taken_rule, kept_in_rules, onward_rules, carrying_rules}
use Rattle.bt_demands.specs.Classes.{occurs, goes_to, ends_out, splitters_of, input_classes, classes_of, goals, sources, shared_into, from_inputs}
use Rattle.bt_facts.specs.Facts.{holds}
use Rattle.bt_rules.specs.Contents.{class_rules}
use Rattle.bt_rules.specs.Going.{runners}
use Rattle.bt_facts.specs.Rules.{Rule, not_all, at_most_one}
use Rattle.bt_facts.specs.Spots.{dirs}
use Rattle.bt_rules.proofs.Chaining.{chain_from_half, goes_on, ends_into, ends_out as chain_ends_out, comes_cell}
use Rattle.bt_rules.proofs.Classed.{m, the_edge, class_at, is_edge, lies_class, lies_link, link_lies, class_there, one_class, start_of, target_of, split_class_at, leads_there, class_goes, class_ends, class_listed, said_listed, in_splitters}
use Rattle.bt_rules.proofs.Deciding.{stands_at}
use Rattle.bt_facts.proofs.Geometry.{inside_cases}
use Rattle.bt_rules.proofs.GoingStay.{taker_there, runner_cases, runner_link, runs_out}
use Rattle.bt_facts.proofs.Keeping.{In, in_both, from_map, in_filter, from_filter, Distinct, distinct_both, distinct_map, distinct_filter, distinct_range, each_both, each_three, each_flat, each_map, one_of_map, at_most_stays, AllStay, Stays}
use Rattle.bt_rules.proofs.Laid.{Said, is_orderly, placed_of, inside_at}
use Rattle.bt_rules.proofs.Reading.{GoesOn, Bears, ComesFromCell}
use Rattle.bt_demands.proofs.Sharing.{from_shared, distinct_shared}
use Rattle.bt_rules.proofs.StandingStay.{HasSaid, splitter_number, split_on}

-- ---- the lists of classes

-- a class of edges from inputs is none of a splitter
no_split : (r : LayoutRequest) (s : ℕ) → In (input_classes r) (Split s) → ⊥
no_split r s h =
    ⊎_elim
    (λ shared. let found = from_shared (splitters_of r) (Split s) shared in let e = found.2 in cc)
    (λ own. let found = from_map Input (range_with_len 0 r.net.inputs) (Split s) own in let e = found.2 in cc)
    (in_both (flat_map shared_into (splitters_of r)) (map Input (range_with_len 0 r.net.inputs)) (Split s)
    (from_filter (occurs r) (from_inputs r) (Split s) h).0)

distinct_classes : (r : LayoutRequest) → Distinct (classes_of r)
distinct_classes r = distinct_both (map Split (splitters_of r)) (input_classes r)
    (distinct_map Split (λ x y e. cc) (splitters_of r) (distinct_range 0 r.net.splitters))
    (distinct_filter (occurs r) (from_inputs r)
    (distinct_both (flat_map shared_into (splitters_of r)) (map Input (range_with_len 0 r.net.inputs))
    (distinct_shared (splitters_of r) (distinct_range 0 r.net.splitters))
    (distinct_map Input (λ x y e. cc) (range_with_len 0 r.net.inputs) (distinct_range 0 r.net.inputs))
    (λ k a b.
    let x = from_shared (splitters_of r) k a in
    let y = from_map Input (range_with_len 0 r.net.inputs) k b in
    let e : Shared x.0 x.1 ≡ Input y.0 = sym x.2 ∙ y.2 in cc)))
    (λ k a b. let x = from_map Split (splitters_of r) k a in no_split r x.0 (subst (In (input_classes r)) x.2 b))

module _ (r : LayoutRequest) (parts : List Part) (lays : Lays parts r) where
  abbrev S : Fact → Type 0
  S = Said r parts lays

  abbrev Has : ℕ → Class → Type 0
  Has = HasSaid r parts lays

  -- the class of what stands on a cell
  pub there_has : (c : Cell) (i : ℕ) (k : Class) → IsAt parts i c → S (Carries c k) → Has i k
  there_has c i k at said = subst (λ j. Has j k) (one_there parts (placed_of r parts lays) said.0 i c said.1 at) said.2

  pub classes_stay : IsRequest r → (c : Cell) → AllStay S (class_rules r c)
  classes_stay is c = each_three (Stays S)
      (some_class ∷ at_most_one (map (Carries c) (classes_of r)))
      (map (λ k. not_all (Kind c Empty ∷ Carries c k ∷ [])) (classes_of r))
      (map (λ k. not_all (HalfOn c ∷ Carries c k ∷ [])) (input_classes r)) (
        λ none. ⊎_elim
            (λ found. let class = class_there r parts lays found.0 c found.1 in
            inr (one_of_map S (Carries c) (classes_of r) class.0 (said_listed r parts lays is found.0 class.0 class.1) (found.0, found.1, class.1)))
            (λ free. inl free) (at_cases parts c),
        at_most_stays S (map (Carries c) (classes_of r)) (distinct_map (Carries c) (λ x y e. cc) (classes_of r) (distinct_classes r))
            (λ f g in_f in_g p q.
            let a = from_map (Carries c) (classes_of r) f in_f in
            let b = from_map (Carries c) (classes_of r) g in_g in
            let x = subst S a.2 p in let y = subst S b.2 q in
            a.2 ∙ ap (Carries c) (one_class r parts lays y.0 a.0 b.0 (there_has c y.0 a.0 y.1 x) y.2) ∙ sym b.2),
      )
      (each_map (Stays S) (λ k. not_all (Kind c Empty ∷ Carries c k ∷ [])) (classes_of r) (λ k at given. absurd (given.0 given.1.0.0 given.1.0.1)))
      (each_map (Stays S) (λ k. not_all (HalfOn c ∷ Carries c k ∷ [])) (input_classes r)
      (λ k at given.
      let on = given.0 in
      ⊎_elim
      (λ split. absurd (no_split r split.1.0 (subst (In (input_classes r)) split.1.2 at)))
      (λ link. absurd (no_link parts on.0 on.1 (lies_link r parts lays on.0 link.0 link.1)))
      (there_has c on.0 k on.2 given.1.0)))
    where
      some_class : Rule
      some_class = record { given = []; one_of = Kind c Empty ∷ map (Carries c) (classes_of r) }

  -- ---- from part to part

  hands_of : (c : Cell) (dir : Dir) → (g : GoesOn parts c dir) → Hands parts g.giver g.taker
  hands_of c dir g = inr (c, g.feeds)

  -- the chain of an edge that starts at a half has the class of its splitter
  pub half_class : (e s i : ℕ) (half : Cell) → e < length r.net.edges → ((m r parts lays).chain_of e).source ≡ chains.leaves i half → Bears lays.naming.splitters s i → class_at r parts lays e ≡ Split s
  half_class e s i half lt source named =
      split_class_at r parts lays e s (start_of r parts lays ((m r parts lays).chain_of e).source (the_edge r parts lays e).start s i half source named (is_edge r parts lays e lt).start)

  -- a class goes on to a belt or a piece that is handed to
  carried_on : (c : Cell) (dir : Dir) (k : Class) → (g : GoesOn parts c dir) → IsLink parts g.taker → Has g.giver k → Has g.taker k
  carried_on c dir k g link (inl h) =
      let chain = chain_from_half parts lays.shows.clean g.giver g.taker c h.0 g.feeds in
      let edge = (m r parts lays).each chain.0 chain.1 in
      let source : ((m r parts lays).chain_of edge.0).source ≡ chains.leaves g.giver c = ap (λ x. x.source) edge.2 ∙ chain.2 in
      inr (edge.0, (edge.1, subst (λ x. Contains x.links g.taker) (sym edge.2) (chain.3 link)), h.1.2 ∙ sym (half_class edge.0 h.1.0 g.giver c edge.1 source h.1.1))
  carried_on c dir k g link (inr h) = inr (
    h.0,
    (h.1.0, goes_on parts lays.shows.clean ((m r parts lays).chain_of h.0) g.giver g.taker ((m r parts lays).is_chain h.0 h.1.0) h.1.1 (hands_of c dir g) link),
    h.2,
  )

  carried_back : (c : Cell) (dir : Dir) (k : Class) → (g : GoesOn parts c dir) → IsLink parts g.taker → Has g.taker k → Has g.giver k
  carried_back c dir k g link h =
      let there = class_there r parts lays g.giver c g.feeds.look.giver in
      subst (Has g.giver) (one_class r parts lays g.taker there.0 k (carried_on c dir there.0 g link there.1) h) there.1

  -- the edge of what is handed to a splitter
  pub edge_on : (c : Cell) (dir : Dir) → (g : GoesOn parts c dir) → IsSplitter parts g.taker
      → (e : ℕ) × (e < length r.net.edges) × Has g.giver (class_at r parts lays e) × (((m r parts lays).chain_of e).sink ≡ chains.enters g.taker)
      × ComesFromCell parts ((m r parts lays).chain_of e).source ((m r parts lays).chain_of e).links c
  edge_on c dir g splitter = ⊎_elim
      (λ split.
      let chain : chains.Chain = record { source = chains.leaves g.giver c; links = []; sink = chains.enters g.taker } in
      let edge = (m r parts lays).each chain (empty_chain parts g.giver g.taker c split splitter g.feeds) in
      let number = splitter_number r parts lays g.giver split in
      let source : ((m r parts lays).chain_of edge.0).source ≡ chains.leaves g.giver c = ap (λ x. x.source) edge.2 in (
        edge.0,
        edge.1,
        inl (split, (number.0, number.2, half_class edge.0 number.0 g.giver c edge.1 source number.2)),
        ap (λ x. x.sink) edge.2,
        subst (λ x. ComesFromCell parts x.source x.links c) (sym edge.2) (g.giver, refl),
      ))
      (λ link.
      let e = link_lies r parts lays g.giver link in
      let chain = (m r parts lays).chain_of e.0 in
      let into = ends_into parts lays.shows.clean chain g.giver g.taker ((m r parts lays).is_chain e.0 e.1.0) e.1.1 (hands_of c dir g) splitter in
      let h = into.1.0 in (
        e.0,
        e.1.0,
        lies_class r parts lays g.giver e.0 e.1,
        into.0,
        comes_cell parts chain.source chain.links h.first h.last c h.path (subst (λ j. IsAt parts j c) (sym into.1.1) g.feeds.look.giver),
      ))
      (part_cases parts g.giver g.feeds.look.giver.part g.feeds.look.giver.is_i)

  -- and the splitter at which it ends
  pub target_on : (e t i : ℕ) → e < length r.net.edges → ((m r parts lays).chain_of e).sink ≡ chains.enters i → Bears lays.naming.splitters t i → (the_edge r parts lays e).target ≡ to.Split t
  target_on e t i lt sink named = target_of r parts lays ((m r parts lays).chain_of e).sink (the_edge r parts lays e).target t i sink named (is_edge r parts lays e lt).target

  taker_is : (c : Cell) (dir : Dir) (i : ℕ) → (g : GoesOn parts c dir) → IsAt parts i (step dir c) → i ≡ g.taker
  taker_is c dir i g at = one_there parts (placed_of r parts lays) i g.taker (step dir c) at (taker_there r parts lays c dir g)

  carried_stay : IsRequest r → (c : Cell) (dir : Dir) (k : Class) → AllStay S (carried_rules r c dir k)
  carried_stay is c dir k = (
    λ given.
        let g = given.0 in
        let there = taker_there r parts lays c dir g in
        ⊎_elim
        (λ splitter. inl (g.taker, splitter, there))
        (λ link. inr (inl (g.taker, there, carried_on c dir k g link (there_has c g.giver k g.feeds.look.giver given.1.0))))
        (part_cases parts g.taker there.part there.is_i),
    (
      (λ given.
          let g = given.0 in
          let there = taker_there r parts lays c dir g in
          ⊎_elim
          (λ splitter. inl (g.taker, splitter, there))
          (λ link. inr (inl (g.giver, g.feeds.look.giver, carried_back c dir k g link (there_has (step dir c) g.taker k there given.1.0))))
          (part_cases parts g.taker there.part there.is_i)),
      (
        (λ given.
            let g = given.0 in
            let on = given.1.0 in
            let splitter : IsSplitter parts g.taker = subst (λ j. IsSplitter parts j) (taker_is c dir on.0 g on.2) on.1 in
            let number = splitter_number r parts lays g.taker splitter in
            let e = edge_on c dir g splitter in
            let same : class_at r parts lays e.0 ≡ k = one_class r parts lays g.giver (class_at r parts lays e.0) k e.2 (there_has c g.giver k g.feeds.look.giver given.1.1.0) in
            one_of_map S (λ t. Carries (step dir c) (Split t)) (goals r k) number.0
            (in_filter (goes_to r k) (splitters_of r) number.0 (in_splitters r is number.0 number.1)
            (subst (λ l. goes_to r l number.0 ≡ true) same (class_goes r parts lays e.0 number.0 e.1 (target_on e.0 number.0 g.taker e.1 e.3 number.2))))
            (g.taker, taker_there r parts lays c dir g, inl (splitter, (number.0, number.2, refl)))),
        tt,
      ),
    ),
  )

  taken_stays : IsRequest r → (c : Cell) (dir : Dir) (t : ℕ) → Stays S (taken_rule r c dir t)
  taken_stays is c dir t given =
      let g = given.0 in
      let on = given.1.0 in
      let splitter : IsSplitter parts g.taker = subst (λ j. IsSplitter parts j) (taker_is c dir on.0 g on.2) on.1 in
      let named = split_on r parts lays t g.taker splitter (there_has (step dir c) g.taker (Split t) (taker_there r parts lays c dir g) given.1.1.0) in
      let e = edge_on c dir g splitter in
      one_of_map S (Carries c) (sources r t) (class_at r parts lays e.0)
      (in_filter (λ k. goes_to r k t) (classes_of r) (class_at r parts lays e.0) (class_listed r parts lays is e.0 e.1)
      (class_goes r parts lays e.0 t e.1 (target_on e.0 t g.taker e.1 e.3 named)))
      (g.giver, g.feeds.look.giver, e.2)

  -- what leaves the rectangle has the class of an edge that ends at an output
  kept_in_stay : (c : Cell) (dir : Dir) (k : Class) → (IsInside r.rect (step dir c) → ⊥) → (ends_out r k ≡ true → ⊥) → AllStay S (kept_in_rules c dir k)
  kept_in_stay c dir k out none = each_map (Stays S) (λ of. not_all (Carries c k ∷ holds c of dir ∷ [])) runners
      (λ of at given.
      let s = given.1.0 in
      let here = stands_at parts (is_orderly r parts lays) c of dir s in
      let output = runs_out r parts lays c of dir (runner_cases r parts lays of at) s (λ q there. out (inside_at r parts lays q (step dir c) there)) in
      let link : IsLink parts s.index = runner_link r parts lays of dir c (runner_cases r parts lays of at) s in
      let e = link_lies r parts lays s.index link in
      let sink = chain_ends_out parts lays.shows.clean ((m r parts lays).chain_of e.0) s.index ((m r parts lays).is_chain e.0 e.1.0) e.1.1 output in
      let same : class_at r parts lays e.0 ≡ k = one_class r parts lays s.index (class_at r parts lays e.0) k (lies_class r parts lays s.index e.0 e.1) (there_has c s.index k here given.0) in
      absurd (none (subst (λ l. ends_out r l ≡ true) same (class_ends r parts lays e.0 e.1.0 (leads_there r parts lays e.0 s.index e.1.0 sink)))))

  onward_stay : IsRequest r → (c : Cell) (dir : Dir) → AllStay S (onward_rules r c dir)
  onward_stay is c dir = ⊎_elim
      (λ i. subst (λ b. AllStay S (cond b inner outer)) (sym i.1)
      (each_both (Stays S) (flat_map (carried_rules r c dir) (classes_of r)) (map (taken_rule r c dir) (splitters_of r))
      (each_flat (Stays S) (carried_rules r c dir) (classes_of r) (λ k at. carried_stay is c dir k))
      (each_map (Stays S) (taken_rule r c dir) (splitters_of r) (λ t at. taken_stays is c dir t))))
      (λ o. subst (λ b. AllStay S (cond b inner outer)) (sym o.1)
      (each_flat (Stays S) (kept_in_rules c dir) (filter (λ k. not (ends_out r k)) (classes_of r))
      (λ k at. kept_in_stay c dir k o.0 (λ t. not_both (ends_out r k) t (from_filter (λ k. not (ends_out r k)) (classes_of r) k at).1))))
      (inside_cases r.rect (step dir c))
    where
      inner : List Rule
      inner = flat_map (carried_rules r c dir) (classes_of r) ++ map (taken_rule r c dir) (splitters_of r)

      outer : List Rule
      outer = flat_map (kept_in_rules c dir) (filter (λ k. not (ends_out r k)) (classes_of r))

      not_both : (b : Bool) → b ≡ true → not b ≡ true → ⊥
      not_both b t n = false≢true (sym (ap not t) ∙ n)

  pub carrying_stay : IsRequest r → (c : Cell) → AllStay S (carrying_rules r c)
  carrying_stay is c = each_flat (Stays S) (onward_rules r c) dirs (λ d at. onward_stay is c d)
