-- A layout in which one more belt follows the last part of an output.
use Rattle.std.proofs.Common.{◌≡◌, ◌≢◌, inl, inr, ℕ, ◌==◌, cond, List, [], ◌∷◌, ◌++◌, map, length, refl, sym, ◌∙◌, ap, subst}
use lib.ListN.{length-map}
use Rattle.std.proofs.lemmas.Bool.{cases_eq, eq-eqb, ne_eqb}
use Rattle.std.proofs.lemmas.Option.{slice_get_within}
use Rattle.bt_parts.specs.declared.part.Kind.TheVariants.{Entrance}
use Rattle.bt_parts.specs.declared.part.Part.{Part}
use Rattle.bt_parts.specs.declared.part.Side.TheVariants.{Behind}
use Rattle.bt_parts.specs.Cells.{step}
use Rattle.bt_parts.specs.Handing.{TakesFrom}
use Rattle.bt_parts.specs.Layouts.{HasPart, IsAt}
use Rattle.bt_parts.proofs.Places.{same_part}
use Rattle.bt_net.specs.declared.network.Edge.{Edge}
use Rattle.bt_net.specs.declared.network.Start.{Start}
use Rattle.bt_net.specs.declared.network.Start.TheVariants as from
use Rattle.bt_net.specs.declared.network.Target.{Target}
use Rattle.bt_net.specs.declared.network.Target.TheVariants as to
use Rattle.bt_net.specs.Network.{Network}
use Rattle.bt_model.specs.Handing.{Feeds, Hands}
use Rattle.bt_model.specs.Chains.{IsInput, IsOutput, IsSplitter, Path, Source, begins, leaves, Sink, ends, enters, Chain, IsLongest, IsChain}
use Rattle.bt_model.specs.Clean.{IsClean}
use Rattle.bt_model.specs.Speeds.{HasOneTier}
use Rattle.bt_model.specs.Shown.{Naming, IsNaming, IsStartOf, IsTargetOf, IsEdgeOf, Shows}
use Rattle.bt_model.proofs.ChainLemmas.{chain_from}
use Rattle.bt_model.proofs.HandLaws.{output_hands_none}
use Rattle.bt_model.proofs.PathLemmas.{path_snoc, path_start}
use Rattle.bt_model.proofs.Lists.{has_old, has_new, has_map, each_map, each_same, each_replaced, zip_map, replaced}
use Rattle.bt_model.proofs.Exchanged.{cap_of_one}
use Rattle.bt_model.proofs.Added.{with_belt, Joins, step_apart, new_link, at_either, clean_kept, output_kept, output_back, input_kept, input_back, splitter_kept, splitter_back, starts_kept, none_before_kept, new_hands, longest_kept, empty_kept, path_kept, chain_starts, input_starts}

-- it is this one
abbrev pub IsIt : ℕ → ℕ → Type 0
IsIt i p = p ≡ i

-- it is none
abbrev pub Nothing : ℕ → Type 0
Nothing p = ⊥

-- where an output ends, and the parts of its chain
abbrev sink_on : ℕ → ℕ → Sink → Sink
sink_on i n (ends k) = ends (replaced i n k)
sink_on i n (enters s) = enters s

abbrev links_on : ℕ → ℕ → Sink → List ℕ → List ℕ
links_on i n (ends k) links = cond (k == i) (links ++ n ∷ []) links
links_on i n (enters s) links = links

abbrev chain_on : ℕ → ℕ → Chain → Chain
chain_on i n c = record { source = c.source; links = links_on i n c.sink c.links; sink = sink_on i n c.sink }

-- the naming by which the belt is the last part of the output
abbrev pub output_moved : ℕ → ℕ → Naming → Naming
output_moved i n naming = record { splitters = naming.splitters; inputs = naming.inputs; outputs = map (replaced i n) naming.outputs }

start_on : (i n : ℕ) (naming : Naming) (source : Source) (start : Start) → IsStartOf naming source start → IsStartOf (output_moved i n naming) source start
start_on i n naming (begins k cell) (from.Input j) h = h
start_on i n naming (begins k cell) (from.Split j) h = absurd h
start_on i n naming (leaves s half) (from.Input j) h = absurd h
start_on i n naming (leaves s half) (from.Split j) h = h

target_on : (i n : ℕ) (naming : Naming) (sink : Sink) (target : Target) → IsTargetOf naming sink target → IsTargetOf (output_moved i n naming) (sink_on i n sink) target
target_on i n naming (ends k) (to.Output j) h = has_map (replaced i n) naming.outputs j k h
target_on i n naming (ends k) (to.Split j) h = absurd h
target_on i n naming (enters s) (to.Output j) h = absurd h
target_on i n naming (enters s) (to.Split j) h = h

module _ (parts : List Part) (q : Part) (i : ℕ) (joins : Joins parts q (IsIt i) Nothing) (output : IsOutput parts i)
    (ahead : step output.part.dir output.part.cell ≡ q.cell) where
  new_output : IsOutput (with_belt parts q) (length parts)
  new_output = record {
    part = q;
    is_i = has_new parts q;
    kind = inl joins.belt;
    clear = λ r at. elim (at_either parts q (IsIt i) Nothing joins r (step q.dir q.cell) at) [ inl old ↦ joins.sees r old | inr new ↦ step_apart q.dir q.cell new.1 ];
  }

  above : output.part.kind ≢ Entrance
  above e = elim output.kind [ inl k ↦ let a = k in let b = e in cc | inr k ↦ let a = k in let b = e in cc ]

  hands_new : Hands (with_belt parts q) i (length parts)
  hands_new = inr (
    output.part.cell,
    record {
      side = Behind;
      look = record {
        giver = record { part = output.part; is_i = has_old parts q i output.part output.is_i; covers = inl refl };
        no_entrance = above;
        taker = record { part = q; is_i = has_new parts q; covers = inl ahead };
        comes = joins.before_along i output.part refl output.is_i;
      };
      takes = subst (λ k. TakesFrom k Behind) (sym joins.belt) (λ e. cc);
    },
  )

  pub output_passed : (x : ℕ) → IsOutput (with_belt parts q) x → x ≡ i → ⊥
  output_passed x now e =
      let same : output.part ≡ now.part = same_part (with_belt parts q) i output.part now.part (has_old parts q i output.part output.is_i)
      (subst (λ z. HasPart (with_belt parts q) z now.part) e now.is_i) in
      now.clear (length parts) (record { part = q; is_i = has_new parts q; covers = inl (subst (λ t. step t.dir t.cell ≡ q.cell) same ahead) })

  pub belt_no_input : (x : ℕ) → IsInput (with_belt parts q) x → x ≡ length parts → ⊥
  belt_no_input x now e = elim hands_new [
    | inl pair ↦ let k = pair.leaves in let l = joins.belt in let same = same_part (with_belt parts q) (length parts) pair.exit q pair.is_b (has_new parts q) in cc
    | inr feeds ↦ now.unfed i (subst (λ z. Feeds (with_belt parts q) i z) (sym e) feeds)
  ]

  naming_on : (net : Network) (naming : Naming) → IsNaming parts net naming → IsNaming (with_belt parts q) net (output_moved i (length parts) naming)
  naming_on net naming h = record {
    splitters = each_same (IsSplitter parts) (IsSplitter (with_belt parts q)) naming.splitters h.splitters
        (splitter_back parts q (IsIt i) Nothing joins) (splitter_kept parts q (IsIt i) Nothing joins);
    inputs = each_same (IsInput parts) (IsInput (with_belt parts q)) naming.inputs h.inputs
        (λ x now. input_back parts q (IsIt i) Nothing joins x (λ e. belt_no_input x now e) now) (λ x old. input_kept parts q (IsIt i) Nothing joins x (λ none. none) old);
    outputs = each_replaced (IsOutput parts) (IsOutput (with_belt parts q)) i (length parts) naming.outputs h.outputs output new_output
        (λ x old. slice_get_within parts x old.part old.is_i)
        (λ x apart now. (output_back parts q (IsIt i) Nothing joins x apart now, output_passed x now))
        (λ x old apart. output_kept parts q (IsIt i) Nothing joins x apart old);
    splitter_count = h.splitter_count;
    input_count = h.input_count;
    output_count = h.output_count ∙ sym (length-map naming.outputs (replaced i (length parts)));
  }

  grown : (source : Source) (links : List ℕ) (k : ℕ) → IsLongest parts (record { source = source; links = links; sink = ends k }) → k ≡ i
      → IsLongest (with_belt parts q) (record { source = source; links = links ++ length parts ∷ []; sink = ends (length parts) })
  grown source links k h e = record {
    first = h.first;
    last = length parts;
    path = path_snoc (with_belt parts q) h.first i (length parts) links
        (subst (λ l. Path (with_belt parts q) h.first l links) (h.ends.0 ∙ e) (path_kept parts q (IsIt i) Nothing joins h.first h.last links h.path))
        hands_new (new_link parts q (IsIt i) Nothing joins);
    starts = starts_kept parts q (IsIt i) Nothing joins source h.first (λ none. none) h.starts;
    ends = (refl, new_output);
    none_before = none_before_kept parts q (IsIt i) Nothing joins h.first (path_start parts h.first h.last links h.path) h.none_before (λ none. none);
    none_after = λ j link hands. new_hands parts q (IsIt i) Nothing joins j hands;
  }

  is_chain_on : (source : Source) (links : List ℕ) (sink : Sink) → IsChain parts (record { source = source; links = links; sink = sink })
      → IsChain (with_belt parts q) (chain_on i (length parts) (record { source = source; links = links; sink = sink }))
  is_chain_on source links (enters s) (inl h) = inl (longest_kept parts q (IsIt i) Nothing joins (record { source = source; links = links; sink = enters s }) h
      (λ none. none) (λ e. output_hands_none parts i output s (subst (λ x. Hands parts x s) e h.ends.1)))
  is_chain_on source links (enters s) (inr h) = inr (empty_kept parts q (IsIt i) Nothing joins (record { source = source; links = links; sink = enters s }) h)
  is_chain_on source links (ends k) (inr h) = absurd (let e = h.sink in cc)
  is_chain_on source links (ends k) (inl h) = elim (cases_eq k i) [
    | inl e ↦ subst (λ b. IsChain (with_belt parts q) (record { source = source; links = cond b (links ++ length parts ∷ []) links; sink = ends (cond b (length parts) k) }))
        (sym (eq-eqb k i e)) (inl (grown source links k h e))
    | inr apart ↦ subst (λ b. IsChain (with_belt parts q) (record { source = source; links = cond b (links ++ length parts ∷ []) links; sink = ends (cond b (length parts) k) }))
        (sym (ne_eqb k i apart))
        (inl (longest_kept parts q (IsIt i) Nothing joins (record { source = source; links = links; sink = ends k }) h (λ none. none) (λ e. apart (sym h.ends.0 ∙ e))))
  ]

  chain_was : IsClean parts → (c : Chain) → IsChain (with_belt parts q) c → (d : Chain) × IsChain parts d × (d.source ≡ c.source)
  chain_was clean c is = elim (chain_starts parts q (IsIt i) Nothing joins clean c is) [
    | inl now ↦
        let apart : now.0 ≢ length parts = λ e. belt_no_input now.0 now.2 e in
        let input = input_back parts q (IsIt i) Nothing joins now.0 apart now.2 in
        let at : IsAt parts now.0 now.1 = elim (at_either parts q (IsIt i) Nothing joins now.0 now.1 now.3) [ inl old ↦ old | inr new ↦ absurd (apart new.0) ] in
        let was = input_starts parts q (IsIt i) Nothing joins clean now.0 now.1 input at in
        (was.0, was.1, was.2 ∙ sym now.4)
    | inr leaves' ↦ let was = leaves'.3 in (was.0, was.1, was.2 ∙ sym leaves'.2)
  ]

  edge_on : (naming : Naming) (c : Chain) (edge : Edge) → HasOneTier parts → HasOneTier (with_belt parts q) → IsEdgeOf parts naming c edge
      → IsEdgeOf (with_belt parts q) (output_moved i (length parts) naming) (chain_on i (length parts) c) edge
  edge_on naming c edge old new h = record {
    start = start_on i (length parts) naming c.source edge.start h.start;
    target = target_on i (length parts) naming c.sink edge.target h.target;
    cap = cap_of_one parts (with_belt parts q) c (chain_on i (length parts) c) edge.cap old new h.cap;
  }

  -- it shows the network too
  pub followed : (net : Network) (naming : Naming) → HasOneTier parts → HasOneTier (with_belt parts q) → Shows parts net naming
      → Shows (with_belt parts q) net (output_moved i (length parts) naming)
  followed net naming old new h =
      let clean = clean_kept parts q (IsIt i) Nothing joins h.clean in
      record {
        clean = clean;
        names = naming_on net naming h.names;
        chains = map (chain_on i (length parts)) h.chains;
        each_once = each_map (IsChain parts) (IsChain (with_belt parts q)) (chain_on i (length parts)) h.chains h.each_once
            (λ c is.
            let was = chain_was h.clean c is in
            (was.0, was.1, chain_from (with_belt parts q) clean.well_placed c (chain_on i (length parts) was.0) is (is_chain_on was.0.source was.0.links was.0.sink was.1) (sym was.2)))
            (λ c is. is_chain_on c.source c.links c.sink is)
            (λ c d is_c is_d same. chain_from parts h.clean.well_placed c d is_c is_d (ap (λ z. z.source) same));
        edges = h.edges;
        named = zip_map (IsEdgeOf parts naming) (IsEdgeOf (with_belt parts q) (output_moved i (length parts) naming)) (chain_on i (length parts)) h.chains h.edges h.named
            (λ c edge in' is. edge_on naming c edge old new is);
        same = h.same;
      }
