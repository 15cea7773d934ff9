-- One edge for each chain: following a chain to its end, and adding edges in the order of their starts.
use Rattle.std.proofs.Common.{◌≡◌, ◌≢◌, ◌⊎◌, ℕ, ◌+◌, ◌<◌, ◌≤◌, List, [], ◌∷◌, ◌++◌, length, get_or, Option, Some, None, refl, sym, ◌∙◌, ap, subst, inl, inr, ⊎_elim, arith}
use Rattle.std.specs.List.{slice_get, AllPairs, Contains}
use Rattle.std.proofs.lemmas.Int.{ints}
use Rattle.std.proofs.lemmas.Option.{same_Some, slice_get_within, get_or_from_slice_get}
use Rattle.std.proofs.lemmas.Bool.{cases_lt}
use Rattle.std.proofs.lemmas.List.{get_or_default, length_push}
use Rattle.std.proofs.lemmas.List.Elements.{Contains-append_left, Contains-push, Contains-push_cases}
use Rattle.std.proofs.lemmas.List.Quantifiers.{all_pairs_push}
use Rattle.bt_parts.specs.declared.part.Cell.{Cell}
use Rattle.bt_parts.specs.declared.part.Dir.{Dir}
use Rattle.bt_parts.specs.declared.part.Dir.TheVariants.{North, East, South, West}
use Rattle.bt_parts.specs.declared.part.Kind.TheVariants.{Entrance}
use Rattle.bt_parts.specs.declared.part.Part.{Part}
use Rattle.bt_parts.specs.Cells.{beside, step}
use Rattle.bt_parts.specs.Layouts.{HasPart, IsAt}
use Rattle.bt_net.specs.declared.network.Target.TheVariants as to
use Rattle.bt_model.specs.Handing.{FeedsFrom, Hands}
use Rattle.bt_model.specs.Chains.{IsSplitter, IsLink, Path, one, IsInput, IsOutput, Source, begins, leaves, Sink, ends, enters, Chain, IsChain, StartsAs}
use Rattle.bt_model.specs.Clean.{IsClean}
use Rattle.bt_model.specs.Speeds.{HasSpeed, IsLeastSpeed, IsOnWay, IsSpeedOf}
use Rattle.bt_model.specs.Shown.{Naming, ListsEach, Precedes, IsPlacedBefore, ComesBefore}
use Rattle.bt_parts.proofs.Places.{same_part, own_cell, covers_at}
use Rattle.bt_model.proofs.HandLemmas.{taker_at}
use Rattle.bt_model.proofs.PathLemmas.{path_snoc}
use Rattle.bt_model.proofs.SpeedLemmas.{least_more, least_alone, least_at_splitter, least_to_output, least_to_splitter, speed_from_input, speed_from_splitter}
use Rattle.bt_recover.specs.declared.edges.Way.{Way}
use Rattle.bt_recover.specs.inner.Edges.{AreNames, IsFrontOf, EntersAt, EndsAtAny, LeadsTo, LeadsFrom, StartsNone, AreEdges, HasEdges, AllDone}
use Rattle.bt_recover.specs.inner.Speeds.{IsSlowedBy}
use Rattle.bt_recover.proofs.Done.{InputsDone, SplittersDone, HalfDone}
use Rattle.bt_model.proofs.HandLaws.{front_fed}
use Rattle.bt_model.proofs.ChainLemmas.{orderly_of, chain_from}
use Rattle.bt_model.proofs.ExistLemmas.{no_long_path, input_chain, half_chain, empty_chain}
use Rattle.bt_model.proofs.Places.{contained_at}
use Rattle.bt_model.proofs.SameChain.{begins_cell, leaves_half, into_splitter}
use Rattle.bt_recover.proofs.Counts.{zip_push}

-- ---- following a chain

-- what is read from the numbers
pub number_at : (parts : List Part) (numbers : List ℕ) (i number : ℕ) → length numbers ≡ length parts → i < length parts → number ≡ get_or numbers i number
    → number ≡ get_or numbers i 0
number_at parts numbers i number count lt at = at ∙ get_or_default numbers i number 0 (omega arith)

-- a path of so many parts leads here, and this is their least speed
pub record IsFollowing (parts : List Part) (first last steps speed : ℕ) : Type 0 where
  pub links : List ℕ
  pub path : Path parts first last links
  pub count : length links ≡ steps + 1
  pub link : IsLink parts last
  pub within : last < length parts
  pub speed_is : IsLeastSpeed parts (Contains links) speed

pub following_first : (parts : List Part) (first speed : ℕ) → IsLink parts first → first < length parts → HasSpeed parts first speed → IsFollowing parts first first 0 speed
following_first parts first speed link within has = record {
  links = first ∷ [];
  path = one first link;
  count = refl;
  link = link;
  within = within;
  speed_is = least_alone parts first speed has;
}

pub following_more : (parts : List Part) (first last next steps speed least : ℕ) → IsFollowing parts first last steps speed → Hands parts last next → IsLink parts next → next < length parts
    → IsSlowedBy parts speed next least → IsFollowing parts first next (steps + 1) least
following_more parts first last next steps speed least on hands link within slowed = record {
  links = on.links ++ next ∷ [];
  path = path_snoc parts first last next on.links on.path hands link;
  count = length_push on.links next ∙ (let e = on.count in omega arith);
  link = link;
  within = within;
  speed_is = subst (λ x. IsLeastSpeed parts (Contains (on.links ++ next ∷ [])) x) (sym slowed.2)
      (least_more parts (Contains on.links) (Contains (on.links ++ next ∷ [])) next speed slowed.0 on.speed_is slowed.1
      (λ j. ⊎_elim (λ there. Contains-append_left on.links (next ∷ []) j there)
      (λ same. subst (λ x. Contains (on.links ++ next ∷ []) x) (sym same) (Contains-push on.links next)))
      (λ j there. ⊎_elim (λ before. inl before) (λ same. inr (sym same)) (Contains-push_cases on.links next j there)));
}

pub following_output : (parts : List Part) (numbers : List ℕ) (first last steps speed number : ℕ) → IsFollowing parts first last steps speed → IsOutput parts last
    → number ≡ get_or numbers last 0 → LeadsTo parts numbers first (record { target = to.Output number; sink_half = None; speed = speed })
following_output parts numbers first last steps speed number on output at = record {
  last = last;
  links = on.links;
  path = on.path;
  sink = ends last;
  ends_as = (refl, output);
  target_is = ap to.Output at;
  enters_at = refl;
  speed_is = least_to_output parts on.links last speed on.speed_is;
}

-- what a part of one cell that hands to a splitter has in front is the half to which it hands
enters_front : (parts : List Part) (last s : ℕ) (ahead : Cell) → IsLink parts last → IsSplitter parts s → Hands parts last s → IsFrontOf parts last ahead → EntersAt parts last (enters s) (Some ahead)
enters_front parts last s ahead link splitter hands is =
    let feeds = into_splitter parts last s splitter hands in
    let look = feeds.1.look in
    let same : look.giver.part ≡ is.0 = same_part parts last look.giver.part is.0 look.giver.is_i is.1 in
    let own : feeds.0 ≡ link.0.cell = own_cell link.0 feeds.0 link.2 (covers_at parts last link.0 feeds.0 link.1 look.giver) in
    let here : link.0.cell ≡ is.0.cell = ap (λ p. p.cell) (same_part parts last link.0 is.0 link.1 is.1) in
    (feeds.0, feeds.1, ap Some (is.2 ∙ ap (λ p. step p.dir is.0.cell) (sym same) ∙ ap (step look.giver.part.dir) (sym (own ∙ here))))

pub following_splitter : (parts : List Part) (numbers : List ℕ) (first last next steps speed least number : ℕ) (ahead : Cell) → IsFollowing parts first last steps speed → Hands parts last next → IsSplitter parts next
    → IsFrontOf parts last ahead → IsSlowedBy parts speed next least → number ≡ get_or numbers next 0 → LeadsTo parts numbers first (record { target = to.Split number; sink_half = Some ahead; speed = least })
following_splitter parts numbers first last next steps speed least number ahead on hands splitter faces slowed at = record {
  last = last;
  links = on.links;
  path = on.path;
  sink = enters next;
  ends_as = (splitter, hands);
  target_is = ap to.Split at;
  enters_at = enters_front parts last next ahead on.link splitter hands faces;
  speed_is = subst (λ x. IsLeastSpeed parts (IsOnWay on.links (enters next)) x) (sym slowed.2)
      (least_to_splitter parts on.links next speed slowed.0 on.speed_is slowed.1);
}

pub following_too_long : (parts : List Part) → IsClean parts → (first last steps speed : ℕ) → IsFollowing parts first last steps speed → length parts ≤ steps → ⊥
following_too_long parts clean first last steps speed on many =
    no_long_path parts clean.no_ring first last on.links on.path (let e = on.count in omega arith)

-- the half at which a chain with these parts ends
ends_at_any : (parts : List Part) (source : Source) (first last : ℕ) (links : List ℕ) (sink : Sink) (told : Option Cell) → Path parts first last links → EntersAt parts last sink told
    → EndsAtAny parts (record { source = source; links = links; sink = sink }) told
ends_at_any parts source first last links (ends i) told path is =
    subst (EndsAtAny parts (record { source = source; links = links; sink = ends i })) (sym is) (λ s half at. absurd (let e = at.sink in cc))
ends_at_any parts source first last links (enters s) told path is =
    subst (EndsAtAny parts (record { source = source; links = links; sink = enters s })) (sym is.2)
    (s, record { sink = refl; giver = last; cell = is.0; hands_on = inl (first, path); feeds = is.1; faces = refl })

-- the chain from an input, from the cell of its first part
pub leads_from_input : (parts : List Part) → IsClean parts → (numbers : List ℕ) (i : ℕ) (way : Way) (input : IsInput parts i) → LeadsTo parts numbers i way
    → LeadsFrom parts numbers (begins i input.part.cell) way
leads_from_input parts clean numbers i way input leads = record {
  chain = record { source = begins i input.part.cell; links = leads.links; sink = leads.sink };
  is_chain = input_chain parts clean.well_placed i leads.last input.part.cell leads.links leads.sink input
      (record { part = input.part; is_i = input.is_i; covers = inl refl }) leads.path leads.ends_as;
  source_is = refl;
  target_is = leads.target_is;
  ends_at = ends_at_any parts (begins i input.part.cell) i leads.last leads.links leads.sink way.sink_half leads.path leads.enters_at;
  speed_is = speed_from_input parts (record { source = begins i input.part.cell; links = leads.links; sink = leads.sink }) way.speed
      (λ j none. none) leads.speed_is;
}

-- the chain from a half
splitter_above : (parts : List Part) (s : ℕ) (part : Part) → HasPart parts s part → IsSplitter parts s → part.kind ≢ Entrance
splitter_above parts s part is_s splitter e =
    absurd (let a = e in let b = splitter.2 in let c = same_part parts s part splitter.0 is_s splitter.1 in (cc))

pub half_feeds : (parts : List Part) → IsClean parts → (s next : ℕ) (half there : Cell) (part : Part) → HasPart parts s part → IsSplitter parts s → IsAt parts s half
    → there ≡ step part.dir half → IsAt parts next there → FeedsFrom parts s half next
half_feeds parts clean s next half there part is_s splitter here e at =
    front_fed parts (orderly_of parts clean) s next half part is_s here (splitter_above parts s part is_s splitter) (subst (λ c. IsAt parts next c) e at)

pub leads_at_once : (parts : List Part) (numbers : List ℕ) (s next speed least number : ℕ) (half ahead : Cell) (part : Part) → HasPart parts s part → ahead ≡ step part.dir half → IsSplitter parts s → FeedsFrom parts s half next
    → IsSplitter parts next → HasSpeed parts next speed → IsSlowedBy parts speed s least → number ≡ get_or numbers next 0
    → LeadsFrom parts numbers (leaves s half) (record { target = to.Split number; sink_half = Some ahead; speed = least })
leads_at_once parts numbers s next speed least number half ahead part is_s faces splitter feeds into has slowed at = record {
  chain = record { source = leaves s half; links = []; sink = enters next };
  is_chain = empty_chain parts s next half splitter into feeds;
  source_is = refl;
  target_is = ap to.Split at;
  ends_at = (
    next,
    record {
      sink = refl;
      giver = s;
      cell = half;
      hands_on = inr (refl, refl);
      feeds = feeds;
      faces = faces ∙ ap (λ p. step p.dir half) (same_part parts s part feeds.look.giver.part is_s feeds.look.giver.is_i);
    },
  );
  speed_is = subst (λ x. IsSpeedOf parts (record { source = leaves s half; links = []; sink = enters next }) x) (sym slowed.2)
      (speed_from_splitter parts (record { source = leaves s half; links = []; sink = enters next }) s speed slowed.0 (λ j e. e) refl
      (least_at_splitter parts next speed has) slowed.1);
}

pub leads_from_half : (parts : List Part) → IsClean parts → (numbers : List ℕ) (s next least : ℕ) (half : Cell) (way : Way) → IsSplitter parts s → FeedsFrom parts s half next
    → LeadsTo parts numbers next way → IsSlowedBy parts way.speed s least → LeadsFrom parts numbers (leaves s half) (record { target = way.target; sink_half = way.sink_half; speed = least })
leads_from_half parts clean numbers s next least half way splitter feeds leads slowed = record {
  chain = record { source = leaves s half; links = leads.links; sink = leads.sink };
  is_chain = half_chain parts (orderly_of parts clean) s next leads.last half leads.links leads.sink splitter feeds leads.path leads.ends_as;
  source_is = refl;
  target_is = leads.target_is;
  ends_at = ends_at_any parts (leaves s half) next leads.last leads.links leads.sink way.sink_half leads.path leads.enters_at;
  speed_is = subst (λ x. IsSpeedOf parts (record { source = leaves s half; links = leads.links; sink = leads.sink }) x) (sym slowed.2)
      (speed_from_splitter parts (record { source = leaves s half; links = leads.links; sink = leads.sink }) s way.speed slowed.0 (λ j e. e) refl
      leads.speed_is slowed.1);
}

-- where nothing is in front of the half, no chain starts there
fed_by : (parts : List Part) (s : ℕ) (half : Cell) (chain : Chain) → IsChain parts chain → chain.source ≡ leaves s half → (next : ℕ) × FeedsFrom parts s half next
fed_by parts s half chain (inl h) e = (h.first, (subst (λ x. StartsAs parts x h.first) e h.starts).1)
fed_by parts s half chain (inr h) e =
    let sources : leaves h.from h.half ≡ leaves s half = sym h.source ∙ e in
    let splitters : h.from ≡ s = cc in
    let halves : h.half ≡ half = cc in
    (h.to, subst (λ x. FeedsFrom parts x half h.to) splitters (subst (λ x. FeedsFrom parts h.from x h.to) halves h.feeds))

pub half_starts_none : (parts : List Part) (s : ℕ) (half there : Cell) (part : Part) → HasPart parts s part → there ≡ step part.dir half → ((j : ℕ) → IsAt parts j there → ⊥)
    → StartsNone parts (leaves s half)
half_starts_none parts s half there part is_s e none chain is_chain source =
    let fed = fed_by parts s half chain is_chain source in
    none fed.0 (subst (λ c. IsAt parts fed.0 c) (sym e) (taker_at parts s fed.0 part half is_s fed.1))

-- ---- one more edge

-- the chain that starts here, and what stands for it
pub record IsEdgeFrom {X : Type 0} (parts : List Part) (IsFor : Chain → X → Type 0) (source : Source) (edge : X) : Type 0 where
  pub chain : Chain
  pub is_chain : IsChain parts chain
  pub source_is : chain.source ≡ source
  pub named : IsFor chain edge

-- the edge of the chain that starts here is added, if one does
abbrev pub AddsEdgeFrom : {X : Type 0} → List Part → (Chain → X → Type 0) → Source → List X → List X → Type 0
AddsEdgeFrom {X} parts IsFor source old new =
    (StartsNone parts source × (new ≡ old)) ⊎ ((edge : X) × IsEdgeFrom parts IsFor source edge × (new ≡ old ++ edge ∷ []))

-- once a source more is done, the chains are those of before and the one from there
record IsNext (parts : List Part) (done later : Source → Type 0) (source : Source) : Type 0 where
  widen : (x : Source) → done x → later x
  here : later source
  cases : (c : Chain) → IsChain parts c → later c.source → done c.source ⊎ (c.source ≡ source)
  before : (c : Chain) → IsChain parts c → done c.source → ComesBefore c.source source

edge_more : {X : Type 0} (parts : List Part) → IsClean parts → (IsFor : Chain → X → Type 0) (done later : Source → Type 0) (source : Source) (chains : List Chain) (edges : List X) (edge : X)
    → IsNext parts done later source → (n : IsEdgeFrom parts IsFor source edge) → AreEdges parts IsFor done chains edges
    → AreEdges parts IsFor later (chains ++ n.chain ∷ []) (edges ++ edge ∷ [])
edge_more parts clean IsFor done later source chains edges edge next n are = record {
  named = zip_push IsFor chains edges n.chain edge are.named n.named;
  only = λ c there. ⊎_elim
      (λ had. let known = are.only c had in (known.0, next.widen c.source known.1))
      (λ e. (subst (λ x. IsChain parts x) e n.is_chain, subst (λ x. later x.source) e (subst later (sym n.source_is) next.here)))
      (Contains-push_cases chains n.chain c there);
  all = λ c is_c is_later. ⊎_elim
      (λ was. Contains-append_left chains (n.chain ∷ []) c (are.all c is_c was))
      (λ e. subst (λ x. Contains (chains ++ n.chain ∷ []) x)
      (chain_from parts clean.well_placed n.chain c n.is_chain is_c (n.source_is ∙ sym e)) (Contains-push chains n.chain))
      (next.cases c is_c is_later);
  in_order = all_pairs_push (λ one other. ComesBefore one.source other.source) chains n.chain are.in_order
      (λ k d lt.
      let known = are.only (get_or chains k d) (k, lt, get_or_default chains k (get_or chains k d) d lt) in
      subst (λ x. ComesBefore (get_or chains k d).source x) (sym n.source_is) (next.before (get_or chains k d) known.0 known.1));
}

-- no more chains, though more sources are done
edges_same : {X : Type 0} (parts : List Part) (IsFor : Chain → X → Type 0) (done later : Source → Type 0) (edges : List X)
    → ((x : Source) → done x → later x) → ((c : Chain) → IsChain parts c → later c.source → done c.source)
    → HasEdges parts IsFor done edges → HasEdges parts IsFor later edges
edges_same parts IsFor done later edges widen cases has = (
  has.0,
  record {
    named = has.1.named;
    only = λ c there. let known = has.1.only c there in (known.0, widen c.source known.1);
    all = λ c is_c is_later. has.1.all c is_c (cases c is_c is_later);
    in_order = has.1.in_order;
  },
)

edges_add : {X : Type 0} (parts : List Part) → IsClean parts → (IsFor : Chain → X → Type 0) (done later : Source → Type 0) (source : Source) (old new : List X)
    → IsNext parts done later source → AddsEdgeFrom parts IsFor source old new → HasEdges parts IsFor done old → HasEdges parts IsFor later new
edges_add parts clean IsFor done later source old new next (inl none) has =
    subst (λ es. HasEdges parts IsFor later es) (sym none.1)
    (edges_same parts IsFor done later old next.widen
    (λ c is_c is_later. ⊎_elim (λ was. was) (λ e. absurd (none.0 c is_c e)) (next.cases c is_c is_later)) has)
edges_add parts clean IsFor done later source old new next (inr some) has =
    subst (λ es. HasEdges parts IsFor later es) (sym some.2)
    (has.0 ++ some.1.chain ∷ [], edge_more parts clean IsFor done later source has.0 old some.0 next some.1 has.1)

-- ---- the inputs

no_input_done : (x : Source) (inputs : List ℕ) → InputsDone inputs 0 x → ⊥
no_input_done (begins i cell) inputs done = let lt = done.1 in omega arith
no_input_done (leaves s half) inputs done = done

pub edges_none : {X : Type 0} (parts : List Part) (IsFor : Chain → X → Type 0) (naming : Naming) → HasEdges parts IsFor (InputsDone naming.inputs 0) []
edges_none parts IsFor naming = (
  [],
  record {
    named = tt;
    only = λ c there. let lt = there.1 in absurd (omega arith);
    all = λ c is_c done. absurd (no_input_done c.source naming.inputs done);
    in_order = λ i j d lt in'. absurd (omega arith);
  },
)

-- what two places of a list in order have
placed_at : (R : ℕ → ℕ → Type 0) (xs : List ℕ) (i j a b : ℕ) → AllPairs R xs → slice_get xs i ≡ Some a → slice_get xs j ≡ Some b → i < j → R a b
placed_at R xs i j a b up at_i at_j lt =
    let in_j = slice_get_within xs j b at_j in
    subst (λ x. R x b) (get_or_from_slice_get xs i a b at_i)
    (subst (λ y. R (get_or xs i b) y) (get_or_from_slice_get xs j b b at_j) (up i j b lt in_j))

widen_inputs : (inputs : List ℕ) (k : ℕ) (x : Source) → InputsDone inputs k x → InputsDone inputs (k + 1) x
widen_inputs inputs k (begins i cell) done = (done.0, let lt = done.1 in omega arith, done.2)
widen_inputs inputs k (leaves s half) done = done

later_inputs : (parts : List Part) (inputs : List ℕ) (k i : ℕ) (part : Part) → HasPart parts i part → slice_get inputs k ≡ Some i → (c : Chain) → IsChain parts c → (x : Source) → c.source ≡ x
    → InputsDone inputs (k + 1) x → InputsDone inputs k x ⊎ (x ≡ begins i part.cell)
later_inputs parts inputs k i part is_i at c is_c (begins j cell) e done =
    ⊎_elim (λ lt. inl (done.0, lt, done.2))
    (λ ge.
    let lt = done.1 in
    let same : done.0 ≡ k = omega arith in
    let here : j ≡ i = same_Some j i (sym done.2 ∙ ap (λ y. slice_get inputs y) same ∙ at) in
    let own = begins_cell parts c j cell is_c e in
    let cells : cell ≡ part.cell = own.2 ∙ ap (λ p. p.cell) (same_part parts i own.0 part (subst (λ y. HasPart parts y own.0) here own.1) is_i) in
    inr (ap (λ y. begins y cell) here ∙ ap (λ y. begins i y) cells))
    (cases_lt done.0 k)
later_inputs parts inputs k i part is_i at c is_c (leaves s half) e done = absurd done

-- an input that is done comes before the next
before_input : (parts : List Part) (inputs : List ℕ) (k i : ℕ) (part : Part) → AllPairs (IsPlacedBefore parts) inputs → slice_get inputs k ≡ Some i → HasPart parts i part
    → (c : Chain) → IsChain parts c → (x : Source) → c.source ≡ x → InputsDone inputs k x → ComesBefore x (begins i part.cell)
before_input parts inputs k i part up at is_i c is_c (begins j other) source done =
    let at_j = begins_cell parts c j other is_c source in
    let place = placed_at (IsPlacedBefore parts) inputs done.0 k j i up done.2 at done.1 in
    subst (λ y. Precedes other y) (ap (λ p. p.cell) (same_part parts i place.other part place.is_j is_i))
    (subst (λ y. Precedes y place.other.cell) (ap (λ p. p.cell) (same_part parts j place.one at_j.0 place.is_i at_j.1) ∙ sym at_j.2) place.before)
before_input parts inputs k i part up at is_i c is_c (leaves s half) source done = absurd done

pub edges_input : {X : Type 0} (parts : List Part) → IsClean parts → (IsFor : Chain → X → Type 0) (naming : Naming) → AreNames parts naming → (k i : ℕ) (edges : List X) (edge : X) (input : IsInput parts i)
    → slice_get naming.inputs k ≡ Some i → IsEdgeFrom parts IsFor (begins i input.part.cell) edge → HasEdges parts IsFor (InputsDone naming.inputs k) edges
    → HasEdges parts IsFor (InputsDone naming.inputs (k + 1)) (edges ++ edge ∷ [])
edges_input parts clean IsFor naming names k i edges edge input at n has =
    edges_add parts clean IsFor (InputsDone naming.inputs k) (InputsDone naming.inputs (k + 1)) (begins i input.part.cell) edges (edges ++ edge ∷ []) (record {
      widen = widen_inputs naming.inputs k;
      here = (k, omega arith, at);
      cases = λ c is_c done. later_inputs parts naming.inputs k i input.part input.is_i at c is_c c.source refl done;
      before = λ c is_c done. before_input parts naming.inputs k i input.part names.in_order.inputs at input.is_i c is_c c.source refl done;
    }) (inr (edge, n, refl)) has

-- all inputs are done
input_of : (parts : List Part) (c : Chain) (i : ℕ) (cell : Cell) → IsChain parts c → c.source ≡ begins i cell → IsInput parts i
input_of parts c i cell (inl h) e = (subst (λ x. StartsAs parts x h.first) e h.starts).1
input_of parts c i cell (inr h) e = absurd (let s = h.source in cc)

splitter_of : (parts : List Part) (c : Chain) (s : ℕ) (half : Cell) → IsChain parts c → c.source ≡ leaves s half → IsSplitter parts s
splitter_of parts c s half (inl h) e = (subst (λ x. StartsAs parts x h.first) e h.starts).0
splitter_of parts c s half (inr h) e =
    let sources : leaves h.from h.half ≡ leaves s half = sym h.source ∙ e in
    let splitters : h.from ≡ s = cc in
    subst (λ x. IsSplitter parts x) splitters h.is_from

widen_all : (inputs splitters : List ℕ) (x : Source) → InputsDone inputs (length inputs) x → SplittersDone splitters 0 x
widen_all inputs splitters (begins i cell) done = tt
widen_all inputs splitters (leaves s half) done = absurd done

all_inputs : (parts : List Part) (inputs splitters : List ℕ) → ListsEach (IsInput parts) inputs → (c : Chain) → IsChain parts c → (x : Source) → c.source ≡ x
    → SplittersDone splitters 0 x → InputsDone inputs (length inputs) x
all_inputs parts inputs splitters each c is_c (begins i cell) e done = contained_at inputs i (each.all i (input_of parts c i cell is_c e))
all_inputs parts inputs splitters each c is_c (leaves s half) e done = let lt = done.1 in absurd (omega arith)

pub edges_inputs : {X : Type 0} (parts : List Part) (IsFor : Chain → X → Type 0) (naming : Naming) (edges : List X) → AreNames parts naming
    → HasEdges parts IsFor (InputsDone naming.inputs (length naming.inputs)) edges → HasEdges parts IsFor (SplittersDone naming.splitters 0) edges
edges_inputs parts IsFor naming edges names has =
    edges_same parts IsFor (InputsDone naming.inputs (length naming.inputs)) (SplittersDone naming.splitters 0) edges (widen_all naming.inputs naming.splitters)
    (λ c is_c done. all_inputs parts naming.inputs naming.splitters names.inputs c is_c c.source refl done) has

-- ---- the splitters

widen_half : (splitters : List ℕ) (k s : ℕ) (first : Cell) (x : Source) → SplittersDone splitters k x → HalfDone splitters k s first x
widen_half splitters k s first (begins i cell) done = tt
widen_half splitters k s first (leaves t half) done = inl done

later_half : (splitters : List ℕ) (k s : ℕ) (first : Cell) (x : Source) → HalfDone splitters k s first x → SplittersDone splitters k x ⊎ (x ≡ leaves s first)
later_half splitters k s first (begins i cell) done = inl tt
later_half splitters k s first (leaves t half) (inl done) = inl done
later_half splitters k s first (leaves t half) (inr e) = inr (ap (λ y. leaves y half) e.0 ∙ ap (λ y. leaves s y) e.1)

before_half : (splitters : List ℕ) (k s : ℕ) (half : Cell) → AllPairs ◌<◌ splitters → slice_get splitters k ≡ Some s → (x : Source) → SplittersDone splitters k x → ComesBefore x (leaves s half)
before_half splitters k s half up at (begins i cell) done = tt
before_half splitters k s half up at (leaves t other) done = inl (placed_at ◌<◌ splitters done.0 k t s up done.2 at done.1)

lesser_next : (parts : List Part) (naming : Naming) (k s : ℕ) (first : Cell) → AreNames parts naming → slice_get naming.splitters k ≡ Some s
    → IsNext parts (SplittersDone naming.splitters k) (HalfDone naming.splitters k s first) (leaves s first)
lesser_next parts naming k s first names at = record {
  widen = widen_half naming.splitters k s first;
  here = inr (refl, refl);
  cases = λ c is_c done. later_half naming.splitters k s first c.source done;
  before = λ c is_c done. before_half naming.splitters k s first names.in_order.splitters at c.source done;
}

-- and the greater half
widen_both : (splitters : List ℕ) (k s : ℕ) (first : Cell) → slice_get splitters k ≡ Some s → (x : Source) → HalfDone splitters k s first x → SplittersDone splitters (k + 1) x
widen_both splitters k s first at (begins i cell) done = tt
widen_both splitters k s first at (leaves t half) (inl done) = (done.0, let lt = done.1 in omega arith, done.2)
widen_both splitters k s first at (leaves t half) (inr e) = (k, omega arith, at ∙ ap Some (sym e.0))

later_both : (parts : List Part) (splitters : List ℕ) (k s : ℕ) (part : Part) → HasPart parts s part → slice_get splitters k ≡ Some s → (c : Chain) → IsChain parts c → (x : Source) → c.source ≡ x
    → SplittersDone splitters (k + 1) x → HalfDone splitters k s part.cell x ⊎ (x ≡ leaves s (beside part.dir part.cell))
later_both parts splitters k s part is_s at c is_c (begins i cell) e done = inl tt
later_both parts splitters k s part is_s at c is_c (leaves t half) e done =
    ⊎_elim (λ lt. inl (inl (done.0, lt, done.2)))
    (λ ge.
    let lt = done.1 in
    let same : done.0 ≡ k = omega arith in
    let here : t ≡ s = same_Some t s (sym done.2 ∙ ap (λ y. slice_get splitters y) same ∙ at) in
    ⊎_elim (λ own. inl (inr (here, own))) (λ greater. inr (ap (λ y. leaves y half) here ∙ ap (λ y. leaves s y) greater))
    (leaves_half parts c t half part (subst (λ y. HasPart parts y part) (sym here) is_s) is_c e))
    (cases_lt done.0 k)

lesser_first : (dir : Dir) (cell : Cell) → Precedes cell (beside dir cell)
lesser_first North cell = inl (omega (arith, ints))
lesser_first East cell = inr (refl, omega (arith, ints))
lesser_first South cell = inl (omega (arith, ints))
lesser_first West cell = inr (refl, omega (arith, ints))

before_both : (splitters : List ℕ) (k s : ℕ) (part : Part) → AllPairs ◌<◌ splitters → slice_get splitters k ≡ Some s → (x : Source) → HalfDone splitters k s part.cell x
    → ComesBefore x (leaves s (beside part.dir part.cell))
before_both splitters k s part up at (begins i cell) done = tt
before_both splitters k s part up at (leaves t other) (inl done) = inl (placed_at ◌<◌ splitters done.0 k t s up done.2 at done.1)
before_both splitters k s part up at (leaves t other) (inr e) = inr (e.0, subst (λ y. Precedes y (beside part.dir part.cell)) (sym e.1) (lesser_first part.dir part.cell))

greater_next : (parts : List Part) (naming : Naming) (k s : ℕ) (part : Part) → AreNames parts naming → HasPart parts s part → slice_get naming.splitters k ≡ Some s
    → IsNext parts (HalfDone naming.splitters k s part.cell) (SplittersDone naming.splitters (k + 1)) (leaves s (beside part.dir part.cell))
greater_next parts naming k s part names is_s at = record {
  widen = widen_both naming.splitters k s part.cell at;
  here = (k, omega arith, at);
  cases = λ c is_c done. later_both parts naming.splitters k s part is_s at c is_c c.source refl done;
  before = λ c is_c done. before_both naming.splitters k s part names.in_order.splitters at c.source done;
}

pub edges_halves : {X : Type 0} (parts : List Part) → IsClean parts → (IsFor : Chain → X → Type 0) (naming : Naming) → AreNames parts naming → (k s : ℕ) (part : Part) (old mid new : List X) → HasPart parts s part
    → slice_get naming.splitters k ≡ Some s → AddsEdgeFrom parts IsFor (leaves s part.cell) old mid → AddsEdgeFrom parts IsFor (leaves s (beside part.dir part.cell)) mid new
    → HasEdges parts IsFor (SplittersDone naming.splitters k) old → HasEdges parts IsFor (SplittersDone naming.splitters (k + 1)) new
edges_halves parts clean IsFor naming names k s part old mid new is_s at lesser greater has =
    edges_add parts clean IsFor (HalfDone naming.splitters k s part.cell) (SplittersDone naming.splitters (k + 1)) (leaves s (beside part.dir part.cell)) mid new
    (greater_next parts naming k s part names is_s at) greater
    (edges_add parts clean IsFor (SplittersDone naming.splitters k) (HalfDone naming.splitters k s part.cell) (leaves s part.cell) old mid
    (lesser_next parts naming k s part.cell names at) lesser has)

all_splitters : (parts : List Part) (splitters : List ℕ) → ListsEach (IsSplitter parts) splitters → (c : Chain) → IsChain parts c → (x : Source) → c.source ≡ x → SplittersDone splitters (length splitters) x
all_splitters parts splitters each c is_c (begins i cell) e = tt
all_splitters parts splitters each c is_c (leaves s half) e = contained_at splitters s (each.all s (splitter_of parts c s half is_c e))

pub edges_all : {X : Type 0} (parts : List Part) (IsFor : Chain → X → Type 0) (naming : Naming) (edges : List X) → AreNames parts naming
    → HasEdges parts IsFor (SplittersDone naming.splitters (length naming.splitters)) edges → HasEdges parts IsFor AllDone edges
edges_all parts IsFor naming edges names has =
    edges_same parts IsFor (SplittersDone naming.splitters (length naming.splitters)) AllDone edges (λ x done. tt)
    (λ c is_c done. all_splitters parts naming.splitters names.splitters c is_c c.source refl) has
