-- A layout in which one more belt leads to the first part of an input.
use Rattle.std.proofs.Common.{◌≡◌, ◌⊎◌, inl, inr, ℕ, ◌==◌, cond, List, ◌∷◌, map, length, refl, sym, ◌∙◌, ap, subst, arith}
use lib.ListN.{length-map}
use Rattle.std.proofs.lemmas.Bool.{cases_eq, eq-eqb, ne_eqb}
use Rattle.std.proofs.lemmas.Option.{slice_get_within}
use Rattle.bt_parts.specs.declared.part.Cell.{Cell}
use Rattle.bt_parts.specs.declared.part.Kind.{Kind}
use Rattle.bt_parts.specs.declared.part.Kind.TheVariants.{Belt, Entrance, Exit, Splitter}
use Rattle.bt_parts.specs.declared.part.Part.{Part}
use Rattle.bt_parts.specs.declared.part.Side.TheVariants.{Behind}
use Rattle.bt_parts.specs.Cells.{step}
use Rattle.bt_parts.specs.Handing.{TakesFrom}
use Rattle.bt_parts.specs.Layouts.{HasPart, IsAt}
use Rattle.bt_parts.proofs.Places.{same_part}
use Rattle.bt_net.specs.declared.network.Edge.{Edge}
use Rattle.bt_net.specs.declared.network.Start.{Start}
use Rattle.bt_net.specs.declared.network.Start.TheVariants as from
use Rattle.bt_net.specs.declared.network.Target.{Target}
use Rattle.bt_net.specs.declared.network.Target.TheVariants as to
use Rattle.bt_net.specs.Network.{Network}
use Rattle.bt_model.specs.Handing.{FeedsFrom}
use Rattle.bt_model.specs.Chains.{IsInput, IsOutput, IsSplitter, Path, more, Source, begins, leaves, Sink, ends, enters, Chain, IsLongest, IsChain}
use Rattle.bt_model.specs.Clean.{IsClean}
use Rattle.bt_model.specs.Speeds.{HasOneTier}
use Rattle.bt_model.specs.Shown.{Naming, IsNaming, IsStartOf, IsTargetOf, IsEdgeOf, Shows}
use Rattle.bt_model.proofs.ChainLemmas.{chain_from, orderly_of, path_stop}
use Rattle.bt_model.proofs.SameChain.{begins_cell, same_begins}
use Rattle.bt_model.proofs.Lists.{has_old, has_new, has_map, each_map, each_same, each_replaced, zip_map, replaced, replaced_once}
use Rattle.bt_model.proofs.Exchanged.{cap_of_one}
use Rattle.bt_model.proofs.Followed.{IsIt, Nothing}
use Rattle.bt_model.proofs.Added.{with_belt, Joins, new_link, at_either, clean_kept, output_kept, output_back, input_kept, input_back, splitter_kept, splitter_back, ends_kept, none_after_kept, new_handed, longest_kept, empty_kept, path_kept, chain_starts, input_starts}

-- where an input begins, and the parts of its chain
abbrev source_to : Part → ℕ → ℕ → Source → Source
source_to q i n (begins k cell) = begins (replaced i n k) (cond (k == i) q.cell cell)
source_to q i n (leaves s half) = leaves s half

abbrev links_to : ℕ → ℕ → Source → List ℕ → List ℕ
links_to i n (begins k cell) links = cond (k == i) (n ∷ links) links
links_to i n (leaves s half) links = links

abbrev chain_to : Part → ℕ → ℕ → Chain → Chain
chain_to q i n c = record { source = source_to q i n c.source; links = links_to i n c.source c.links; sink = c.sink }

-- the naming by which the belt is the first part of the input
abbrev pub input_moved : ℕ → ℕ → Naming → Naming
input_moved i n naming = record { splitters = naming.splitters; inputs = map (replaced i n) naming.inputs; outputs = naming.outputs }

start_to : (q : Part) (i n : ℕ) (naming : Naming) (source : Source) (start : Start) → IsStartOf naming source start → IsStartOf (input_moved i n naming) (source_to q i n source) start
start_to q i n naming (begins k cell) (from.Input j) h = has_map (replaced i n) naming.inputs j k h
start_to q i n naming (begins k cell) (from.Split j) h = absurd h
start_to q i n naming (leaves s half) (from.Input j) h = absurd h
start_to q i n naming (leaves s half) (from.Split j) h = h

target_to : (i n : ℕ) (naming : Naming) (sink : Sink) (target : Target) → IsTargetOf naming sink target → IsTargetOf (input_moved i n naming) sink target
target_to i n naming (ends k) (to.Output j) h = h
target_to i n naming (ends k) (to.Split j) h = absurd h
target_to i n naming (enters s) (to.Output j) h = absurd h
target_to i n naming (enters s) (to.Split j) h = h

begins_number : (k l : ℕ) (a b : Cell) → begins k a ≡ begins l b → k ≡ l
begins_number k l a b e = cc

takes_behind : (kind : Kind) → (kind ≡ Belt) ⊎ (kind ≡ Entrance) → TakesFrom kind Behind
takes_behind Belt is = λ e. cc
takes_behind Entrance is = refl
takes_behind Exit (inl e) = absurd (let a = e in cc)
takes_behind Exit (inr e) = absurd (let a = e in cc)
takes_behind Splitter (inl e) = absurd (let a = e in cc)
takes_behind Splitter (inr e) = absurd (let a = e in cc)

module _ (parts : List Part) (q : Part) (i : ℕ) (joins : Joins parts q Nothing (IsIt i)) (input : IsInput parts i)
    (ahead : step q.dir q.cell ≡ input.part.cell) where
  new_input : IsInput (with_belt parts q) (length parts)
  new_input = record {
    part = q;
    is_i = has_new parts q;
    kind = inl joins.belt;
    unfed = λ p feeds. new_handed parts q Nothing (IsIt i) joins p (inr feeds);
  }

  new_feeds : FeedsFrom (with_belt parts q) (length parts) q.cell i
  new_feeds = record {
    side = Behind;
    look = record {
      giver = record { part = q; is_i = has_new parts q; covers = inl refl };
      no_entrance = λ e. let a = joins.belt in let b = e in cc;
      taker = record { part = input.part; is_i = has_old parts q i input.part input.is_i; covers = inl ahead };
      comes = sym (joins.after_along i input.part refl input.is_i);
    };
    takes = takes_behind input.part.kind input.kind;
  }

  pub input_passed : (x : ℕ) → IsInput (with_belt parts q) x → x ≡ i → ⊥
  input_passed x now e = now.unfed (length parts) (q.cell, subst (λ z. FeedsFrom (with_belt parts q) (length parts) q.cell z) (sym e) new_feeds)

  pub belt_no_output : (x : ℕ) → IsOutput (with_belt parts q) x → x ≡ length parts → ⊥
  belt_no_output x now e = now.clear i (subst (λ t. IsAt (with_belt parts q) i (step t.dir t.cell)) same
      (record { part = input.part; is_i = has_old parts q i input.part input.is_i; covers = inl ahead }))
    where
      same : q ≡ now.part
      same = same_part (with_belt parts q) (length parts) q now.part (has_new parts q) (subst (λ z. HasPart (with_belt parts q) z now.part) e now.is_i)

  naming_to : (net : Network) (naming : Naming) → IsNaming parts net naming → IsNaming (with_belt parts q) net (input_moved i (length parts) naming)
  naming_to net naming h = record {
    splitters = each_same (IsSplitter parts) (IsSplitter (with_belt parts q)) naming.splitters h.splitters
        (splitter_back parts q Nothing (IsIt i) joins) (splitter_kept parts q Nothing (IsIt i) joins);
    inputs = each_replaced (IsInput parts) (IsInput (with_belt parts q)) i (length parts) naming.inputs h.inputs input new_input
        (λ x old. slice_get_within parts x old.part old.is_i)
        (λ x apart now. (input_back parts q Nothing (IsIt i) joins x apart now, input_passed x now))
        (λ x old apart. input_kept parts q Nothing (IsIt i) joins x apart old);
    outputs = each_same (IsOutput parts) (IsOutput (with_belt parts q)) naming.outputs h.outputs
        (λ x now. output_back parts q Nothing (IsIt i) joins x (belt_no_output x now) now) (λ x old. output_kept parts q Nothing (IsIt i) joins x (λ none. none) old);
    splitter_count = h.splitter_count;
    input_count = h.input_count ∙ sym (length-map naming.inputs (replaced i (length parts)));
    output_count = h.output_count;
  }

  grown : (k : ℕ) (cell : Cell) (links : List ℕ) (sink : Sink) → IsLongest parts (record { source = begins k cell; links = links; sink = sink }) → k ≡ i
      → IsLongest (with_belt parts q) (record { source = begins (length parts) q.cell; links = length parts ∷ links; sink = sink })
  grown k cell links sink h e = record {
    first = length parts;
    last = h.last;
    path = more (length parts) i h.last links (new_link parts q Nothing (IsIt i) joins) (inr (q.cell, new_feeds))
        (subst (λ f. Path (with_belt parts q) f h.last links) (h.starts.0 ∙ e) (path_kept parts q Nothing (IsIt i) joins h.first h.last links h.path));
    starts = (refl, new_input, record { part = q; is_i = has_new parts q; covers = inl refl });
    ends = ends_kept parts q Nothing (IsIt i) joins sink h.last (λ none. none) h.ends;
    none_before = λ j link hands. new_handed parts q Nothing (IsIt i) joins j hands;
    none_after = none_after_kept parts q Nothing (IsIt i) joins h.last (path_stop parts h.first h.last links h.path) h.none_after (λ none. none);
  }

  is_chain_to : (source : Source) (links : List ℕ) (sink : Sink) → IsChain parts (record { source = source; links = links; sink = sink })
      → IsChain (with_belt parts q) (chain_to q i (length parts) (record { source = source; links = links; sink = sink }))
  is_chain_to (leaves s half) links sink (inl h) = inl (longest_kept parts q Nothing (IsIt i) joins (record { source = leaves s half; links = links; sink = sink }) h
      (λ e. input.unfed s (half, subst (λ x. FeedsFrom parts s half x) e h.starts.1)) (λ none. none))
  is_chain_to (leaves s half) links sink (inr h) = inr (empty_kept parts q Nothing (IsIt i) joins (record { source = leaves s half; links = links; sink = sink }) h)
  is_chain_to (begins k cell) links sink (inr h) = absurd (let e = h.source in cc)
  is_chain_to (begins k cell) links sink (inl h) = elim (cases_eq k i) [
    | inl e ↦ subst (λ b. IsChain (with_belt parts q) (record { source = begins (cond b (length parts) k) (cond b q.cell cell); links = cond b (length parts ∷ links) links; sink = sink }))
        (sym (eq-eqb k i e)) (inl (grown k cell links sink h e))
    | inr apart ↦ subst (λ b. IsChain (with_belt parts q) (record { source = begins (cond b (length parts) k) (cond b q.cell cell); links = cond b (length parts ∷ links) links; sink = sink }))
        (sym (ne_eqb k i apart))
        (inl (longest_kept parts q Nothing (IsIt i) joins (record { source = begins k cell; links = links; sink = sink }) h (λ e. apart (sym h.starts.0 ∙ e)) (λ none. none)))
  ]

  -- each chain of now is one of before
  abbrev Was : Source → Type 0
  Was source = (d : Chain) × IsChain parts d × (source_to q i (length parts) d.source ≡ source)

  began : IsClean parts → (k : ℕ) (cell : Cell) → IsInput (with_belt parts q) k → IsAt (with_belt parts q) k cell → Was (begins k cell)
  began clean k cell now at = elim (cases_eq k (length parts)) [
    | inl e ↦
        let was = input_starts parts q Nothing (IsIt i) joins clean i input.part.cell input (record { part = input.part; is_i = input.is_i; covers = inl refl }) in
        let here : cell ≡ q.cell = elim (at_either parts q Nothing (IsIt i) joins k cell at) [
          | inl old ↦ absurd (let lt = slice_get_within parts k old.part old.is_i in omega arith)
          | inr new ↦ new.1
        ] in (
          was.0,
          was.1,
          ap (source_to q i (length parts)) was.2
              ∙ ap (λ b. begins (cond b (length parts) i) (cond b q.cell input.part.cell)) (eq-eqb i i refl)
              ∙ ap (λ z. begins (length parts) z) (sym here) ∙ ap (λ z. begins z cell) (sym e),
        )
    | inr apart ↦
        let old = input_back parts q Nothing (IsIt i) joins k apart now in
        let there : IsAt parts k cell = elim (at_either parts q Nothing (IsIt i) joins k cell at) [ inl old ↦ old | inr new ↦ absurd (apart new.0) ] in
        let was = input_starts parts q Nothing (IsIt i) joins clean k cell old there in (
          was.0,
          was.1,
          ap (source_to q i (length parts)) was.2
              ∙ ap (λ b. begins (cond b (length parts) k) (cond b q.cell cell)) (ne_eqb k i (input_passed k now)),
        )
  ]

  chain_was : IsClean parts → (c : Chain) → IsChain (with_belt parts q) c → Was c.source
  chain_was clean c is = elim (chain_starts parts q Nothing (IsIt i) joins clean c is) [
    | inl now ↦ subst Was (sym now.4) (began clean now.0 now.1 now.2 now.3)
    | inr left ↦ let was = left.3 in (was.0, was.1, ap (source_to q i (length parts)) was.2 ∙ sym left.2)
  ]

  -- two chains of before aren't one of now
  once_by : IsClean parts → (c d : Chain) → IsChain parts c → IsChain parts d → (s t : Source) → c.source ≡ s → d.source ≡ t
      → source_to q i (length parts) s ≡ source_to q i (length parts) t → c ≡ d
  once_by clean c d is_c is_d (begins k a) (begins l b) e f same =
      let at_c = begins_cell parts c k a is_c e in
      let at_d = begins_cell parts d l b is_d f in
      let number : k ≡ l = replaced_once i (length parts) k l (slice_get_within parts k at_c.0 at_c.1) (slice_get_within parts l at_d.0 at_d.1)
      (begins_number (replaced i (length parts) k) (replaced i (length parts) l) (cond (k == i) q.cell a) (cond (l == i) q.cell b) same) in
      same_begins parts (orderly_of parts clean) c d k a b is_c is_d e (f ∙ ap (λ z. begins z b) (sym number))
  once_by clean c d is_c is_d (begins k a) (leaves t b) e f same = absurd (cc)
  once_by clean c d is_c is_d (leaves s a) (begins l b) e f same = absurd (cc)
  once_by clean c d is_c is_d (leaves s a) (leaves t b) e f same = chain_from parts clean.well_placed c d is_c is_d (e ∙ same ∙ sym f)

  edge_to : (naming : Naming) (c : Chain) (edge : Edge) → HasOneTier parts → HasOneTier (with_belt parts q) → IsEdgeOf parts naming c edge
      → IsEdgeOf (with_belt parts q) (input_moved i (length parts) naming) (chain_to q i (length parts) c) edge
  edge_to naming c edge old new h = record {
    start = start_to q i (length parts) naming c.source edge.start h.start;
    target = target_to i (length parts) naming c.sink edge.target h.target;
    cap = cap_of_one parts (with_belt parts q) c (chain_to q i (length parts) c) edge.cap old new h.cap;
  }

  -- it shows the network too
  pub led : (net : Network) (naming : Naming) → HasOneTier parts → HasOneTier (with_belt parts q) → Shows parts net naming
      → Shows (with_belt parts q) net (input_moved i (length parts) naming)
  led net naming old new h =
      let clean = clean_kept parts q Nothing (IsIt i) joins h.clean in
      record {
        clean = clean;
        names = naming_to net naming h.names;
        chains = map (chain_to q i (length parts)) h.chains;
        each_once = each_map (IsChain parts) (IsChain (with_belt parts q)) (chain_to q i (length parts)) h.chains h.each_once
            (λ c is.
            let was = chain_was h.clean c is in
            (was.0, was.1, chain_from (with_belt parts q) clean.well_placed c (chain_to q i (length parts) was.0) is (is_chain_to was.0.source was.0.links was.0.sink was.1) (sym was.2)))
            (λ c is. is_chain_to c.source c.links c.sink is)
            (λ c d is_c is_d same. once_by h.clean c d is_c is_d c.source d.source refl refl (ap (λ z. z.source) same));
        edges = h.edges;
        named = zip_map (IsEdgeOf parts naming) (IsEdgeOf (with_belt parts q) (input_moved i (length parts) naming)) (chain_to q i (length parts)) h.chains h.edges h.named
            (λ c edge in' is. edge_to naming c edge old new is);
        same = h.same;
      }
