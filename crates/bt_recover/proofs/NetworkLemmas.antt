-- From the numbers of the parts and the edges of the chains to the numbered network.
use Rattle.std.proofs.Common.{◌≡◌, ℕ, zero, suc, ◌+◌, ◌<◌, ◌≤◌, List, [], ◌∷◌, ◌++◌, map, length, get_or, Option, Some, None, ◌↔◌, Err, Bool, true, false, IsTrue, refl, sym, ◌∙◌, ap, subst, inl, inr, ◌⊎◌, ⊎_elim, arith}
use Rattle.std.specs.List.{slice_get, All, AllZip}
use Rattle.std.proofs.lemmas.Option.{same_Some, none-some, slice_get_within, slice_get-get_or}
use Rattle.std.proofs.lemmas.Bool.{false≢true}
use Rattle.std.proofs.lemmas.List.{get_or_default}
use Rattle.bt_parts.specs.declared.part.Cell.{Cell}
use Rattle.bt_parts.specs.declared.part.Kind.TheVariants.{Splitter}
use Rattle.bt_parts.specs.declared.part.Part.{Part}
use Rattle.bt_parts.specs.Cells.{IsGreaterHalf, beside, step}
use Rattle.bt_parts.specs.Layouts.{HasPart, IsAt}
use Rattle.bt_net.specs.declared.network.Edge.{Edge}
use Rattle.bt_net.specs.declared.network.Start.{Start}
use Rattle.bt_net.specs.declared.network.Start.TheVariants as from
use Rattle.bt_net.specs.declared.network.Target.{Target}
use Rattle.bt_net.specs.declared.network.Target.TheVariants as to
use Rattle.bt_net.specs.declared.fault.NetFault.{NetFault}
use Rattle.bt_net.specs.declared.fault.NetFault.TheVariants.{TooLarge, NoEnds, NetLine, Memory}
use Rattle.bt_net.specs.Network.{Network, HasNoPriorities, IsLarge, IsNetOf, network_of}
use Rattle.bt_model.specs.Handing.{FeedsFrom}
use Rattle.bt_model.specs.Chains.{IsSplitter, IsLink, IsInput, IsOutput, Source, begins, leaves, Sink, ends, enters, Chain, IsChain, EndsAs}
use Rattle.bt_model.specs.Clean.{IsClean}
use Rattle.bt_model.specs.Shown.{IsEdgeOf, Naming, ListsEach, ComesBefore, IsStartOf, IsTargetOf, IsNumbered, IsNaming}
use Rattle.bt_model.specs.Speeds.{IsSpeedOf, HasOneTier, IsCapOf}
use Rattle.bt_model.proofs.Orders.{sources_asymmetric}
use Rattle.bt_model.proofs.SpeedLemmas.{cap_exists}
use Rattle.bt_parts.proofs.Places.{same_part}
use Rattle.bt_recover.specs.declared.edges.Joint.{Joint}
use Rattle.bt_recover.specs.declared.edges.Labels.{Labels}
use Rattle.bt_recover.specs.declared.edges.Way.{Way}
use Rattle.bt_recover.specs.inner.Edges.{AreNames, HasMany, KeepsOthers, AreNumbered, AreNumbers, AreLabels, target_at, LeadsTo, LeadsFrom, cap_at, edge_to, half_of, joint_of, IsJoint, AddsEdge, AddsHalves, HasEdges, AllDone, net_with}
use Rattle.bt_recover.specs.inner.Refused.{size_fault, IsNetTold}
use Rattle.bt_recover.proofs.Done.{InputsDone, SplittersDone}
use Rattle.bt_model.proofs.ChainLemmas.{orderly_of, no_link}
use Rattle.bt_model.proofs.ExistLemmas.{at_cases, part_cases, run_from, input_link, output_link, input_chain, half_chain, empty_chain}
use Rattle.bt_model.proofs.Places.{contained_at}
use Rattle.bt_recover.proofs.EdgeLemmas.{IsEdgeFrom, AddsEdgeFrom, half_feeds, half_starts_none, leads_from_input, edges_none, edges_input, edges_inputs, edges_halves, edges_all}

-- ---- the numbers of the parts

pub input_within : (parts : List Part) (i : ℕ) → IsInput parts i → i < length parts
input_within parts i input = slice_get_within parts i input.part input.is_i

pub splitter_within : (parts : List Part) (i : ℕ) → IsSplitter parts i → i < length parts
splitter_within parts i splitter = slice_get_within parts i splitter.0 splitter.1

pub output_within : (parts : List Part) (i : ℕ) → IsOutput parts i → i < length parts
output_within parts i output = slice_get_within parts i output.part output.is_i

-- what a list of each has at a place
pub each_at : (P : ℕ → Type 0) (xs : List ℕ) (k : ℕ) → ListsEach P xs → k < length xs → P (get_or xs k 0)
each_at P xs k each lt = each.only (get_or xs k 0) (k, lt, get_or_default xs k (get_or xs k 0) 0 lt)

-- each of a list of each is within the parts
pub each_within : (P : ℕ → Type 0) (xs : List ℕ) (n : ℕ) → ((i : ℕ) → P i → i < n) → ListsEach P xs → All (λ i. i < n) xs
each_within P xs n within each k d lt = within (get_or xs k d) (each.only (get_or xs k d) (k, lt, get_or_default xs k (get_or xs k d) d lt))

-- no splitter is an output, so the numbers of the splitters stay
no_output : (parts : List Part) (i : ℕ) → IsSplitter parts i → IsOutput parts i → ⊥
no_output parts i splitter output = no_link parts i splitter (output_link parts i output)

pub numbers_stay : (parts : List Part) (naming : Naming) (old new : List ℕ) → AreNames parts naming → AreNumbered old naming.splitters
    → KeepsOthers naming.outputs old new → AreNumbered new naming.splitters
numbers_stay parts naming old new names numbered others k i at =
    others i (λ there. no_output parts i
    (names.splitters.only i (k, slice_get_within naming.splitters k i at, same_Some _ _ (sym (slice_get-get_or naming.splitters k i (slice_get_within naming.splitters k i at)) ∙ at)))
    (names.outputs.only i there))
    ∙ numbered k i at

-- ---- the edge of a chain

-- what ends a chain
abbrev SinkIs : List Part → Sink → Type 0
SinkIs parts (ends i) = IsOutput parts i
SinkIs parts (enters s) = IsSplitter parts s

ends_is : (parts : List Part) (x : Sink) (last : ℕ) → EndsAs parts x last → SinkIs parts x
ends_is parts (ends i) last h = h.1
ends_is parts (enters s) last h = h.0

sink_is : (parts : List Part) (c : Chain) → IsChain parts c → SinkIs parts c.sink
sink_is parts c (inl h) = ends_is parts c.sink h.last h.ends
sink_is parts c (inr h) = subst (λ x. SinkIs parts x) (sym h.sink) h.is_to

target_named : (parts : List Part) (naming : Naming) (numbers : List ℕ) → AreNames parts naming → AreNumbers parts naming numbers → (x : Sink) → SinkIs parts x
    → IsTargetOf naming x (target_at numbers x)
target_named parts naming numbers names are (ends i) output =
    let there = contained_at naming.outputs i (names.outputs.all i output) in
    subst (λ k. slice_get naming.outputs k ≡ Some i) (sym (are.outputs there.0 i there.2)) there.2
target_named parts naming numbers names are (enters s) splitter =
    let there = contained_at naming.splitters s (names.splitters.all s splitter) in
    subst (λ k. slice_get naming.splitters k ≡ Some s) (sym (are.splitters there.0 s there.2)) there.2

-- the cap by the labels is the chain's
cap_named : (parts : List Part) (chain : Chain) (one_tier : Bool) (speed : ℕ) → IsTrue one_tier ↔ HasOneTier parts → IsSpeedOf parts chain speed
    → IsCapOf parts chain (cap_at one_tier speed)
cap_named parts chain true speed same is = inl (same.0 refl, refl)
cap_named parts chain false speed same is = inr (λ one. false≢true (same.1 one), is)

-- the edge to the target to which the chain leads
named_edge : (parts : List Part) (naming : Naming) (labels : Labels) → AreNames parts naming → AreLabels parts naming labels → (source : Source) (start : Start) (way : Way)
    → IsStartOf naming source start → (leads : LeadsFrom parts labels.numbers.items source way) → IsEdgeOf parts naming leads.chain (edge_to labels.one_tier start way)
named_edge parts naming labels names are source start way starts leads = record {
  start = subst (λ x. IsStartOf naming x start) (sym leads.source_is) starts;
  target = subst (λ t. IsTargetOf naming leads.chain.sink t) (sym leads.target_is)
      (target_named parts naming labels.numbers.items names are.numbers leads.chain.sink (sink_is parts leads.chain leads.is_chain));
  cap = cap_named parts leads.chain labels.one_tier way.speed are.one_tier leads.speed_is;
}

-- and with the halves that it joins
joint_from : (parts : List Part) (naming : Naming) (labels : Labels) → AreNames parts naming → AreLabels parts naming labels → (source : Source) (start : Start) (way : Way)
    → IsStartOf naming source start → LeadsFrom parts labels.numbers.items source way → IsEdgeFrom parts (IsJoint parts naming) source (joint_of labels.one_tier source start way)
joint_from parts naming labels names are source start way starts leads = record {
  chain = leads.chain;
  is_chain = leads.is_chain;
  source_is = leads.source_is;
  named = record {
    edge = named_edge parts naming labels names are source start way starts leads;
    starts_at = ap half_of (sym leads.source_is);
    ends_at = leads.ends_at;
  };
}

adds_from : (parts : List Part) (naming : Naming) (labels : Labels) → AreNames parts naming → AreLabels parts naming labels → (source : Source) (start : Start) (old new : List Joint)
    → IsStartOf naming source start → AddsEdge parts labels source start old new → AddsEdgeFrom parts (IsJoint parts naming) source old new
adds_from parts naming labels names are source start old new starts (inl none) = inl none
adds_from parts naming labels names are source start old new starts (inr some) =
    inr (joint_of labels.one_tier source start some.0, joint_from parts naming labels names are source start some.0 starts some.1, some.2)

-- ---- the loops over the inputs and the splitters

-- the cell of the first part makes no difference
joint_same : (one_tier : Bool) (start : Start) (way : Way) (i : ℕ) (cell : Cell) (joint : Joint) → ((source : Source) → None ≡ half_of source → joint ≡ joint_of one_tier source start way)
    → joint ≡ joint_of one_tier (begins i cell) start way
joint_same one_tier start way i cell joint is = is (begins i cell) refl

pub input_step : (parts : List Part) → IsClean parts → (naming : Naming) (labels : Labels) → AreNames parts naming → AreLabels parts naming labels → (k : ℕ) (joints : List Joint) (way : Way) (joint : Joint)
    → ((source : Source) → None ≡ half_of source → joint ≡ joint_of labels.one_tier source (from.Input k) way)
    → k < length naming.inputs → LeadsTo parts labels.numbers.items (get_or naming.inputs k 0) way → HasEdges parts (IsJoint parts naming) (InputsDone naming.inputs k) joints
    → HasEdges parts (IsJoint parts naming) (InputsDone naming.inputs (k + 1)) (joints ++ joint ∷ [])
input_step parts clean naming labels names are k joints way joint is lt leads has =
    let i = get_or naming.inputs k 0 in
    let input = each_at (IsInput parts) naming.inputs k names.inputs lt in
    let at = slice_get-get_or naming.inputs k 0 lt in
    subst (λ j. HasEdges parts (IsJoint parts naming) (InputsDone naming.inputs (k + 1)) (joints ++ j ∷ [])) (sym (joint_same labels.one_tier (from.Input k) way i input.part.cell joint is))
    (edges_input parts clean (IsJoint parts naming) naming names k i joints (joint_of labels.one_tier (begins i input.part.cell) (from.Input k) way) input at
    (joint_from parts naming labels names are (begins i input.part.cell) (from.Input k) way at (leads_from_input parts clean labels.numbers.items i way input leads)) has)

pub halves_step : (parts : List Part) → IsClean parts → (naming : Naming) (labels : Labels) → AreNames parts naming → AreLabels parts naming labels → (k : ℕ) (old new : List Joint)
    → k < length naming.splitters → AddsHalves parts labels (get_or naming.splitters k 0) (from.Split k) old new → HasEdges parts (IsJoint parts naming) (SplittersDone naming.splitters k) old
    → HasEdges parts (IsJoint parts naming) (SplittersDone naming.splitters (k + 1)) new
halves_step parts clean naming labels names are k old new lt adds has =
    let s = get_or naming.splitters k 0 in
    let at = slice_get-get_or naming.splitters k 0 lt in
    edges_halves parts clean (IsJoint parts naming) naming names k s adds.part old adds.mid new adds.is_s at
    (adds_from parts naming labels names are (leaves s adds.part.cell) (from.Split k) old adds.mid at adds.lesser)
    (adds_from parts naming labels names are (leaves s (beside adds.part.dir adds.part.cell)) (from.Split k) adds.mid new at adds.greater) has

-- what stands for a chain with its halves stands for it without them
pub halves_off : (parts : List Part) (naming : Naming) (chains : List Chain) (joints : List Joint) → AllZip (IsJoint parts naming) chains joints → AllZip (IsEdgeOf parts naming) chains (map (λ joint. joint.edge) joints)
halves_off parts naming [] [] z = tt
halves_off parts naming [] (j ∷ js) z = absurd z
halves_off parts naming (c ∷ cs) [] z = absurd z
halves_off parts naming (c ∷ cs) (j ∷ js) z = (z.0.edge, halves_off parts naming cs js z.1)

abbrev pub edges_alone : (parts : List Part) (naming : Naming) (done : Source → Type 0) (joints : List Joint) → HasEdges parts (IsJoint parts naming) done joints
    → HasEdges parts (IsEdgeOf parts naming) done (map (λ joint. joint.edge) joints)
edges_alone parts naming done joints has =
    (has.0, record { named = halves_off parts naming has.0 joints has.1.named; only = has.1.only; all = has.1.all; in_order = has.1.in_order })

-- the edges from both halves
pub adds_both : (parts : List Part) (labels : Labels) (old mid new : List Joint) (start : Start) (s : ℕ) (part : Part) (first half : Cell) (second : Option Cell) → HasPart parts s part → first ≡ part.cell
    → ((c : Cell) → (second ≡ Some c) ↔ IsGreaterHalf part c) → second ≡ Some half → AddsEdge parts labels (leaves s first) start old mid → AddsEdge parts labels (leaves s half) start mid new
    → AddsHalves parts labels s start old new
adds_both parts labels old mid new start s part first half second is_s e is_second some lesser greater = record {
  part = part;
  is_s = is_s;
  mid = mid;
  lesser = subst (λ c. AddsEdge parts labels (leaves s c) start old mid) e lesser;
  greater = subst (λ c. AddsEdge parts labels (leaves s c) start mid new) ((is_second half).0 some).1 greater;
}

pub no_second : (parts : List Part) (s : ℕ) (part : Part) (second : Option Cell) → HasPart parts s part → IsSplitter parts s → ((c : Cell) → (second ≡ Some c) ↔ IsGreaterHalf part c) → second ≡ None → ⊥
no_second parts s part second is_s splitter is_second none =
    none-some (beside part.dir part.cell) (sym none ∙ (is_second (beside part.dir part.cell)).1
    (subst (λ p. p.kind ≡ Splitter) (same_part parts s splitter.0 part splitter.1 is_s) splitter.2, refl))

-- ---- there are edges for all chains, also where they are too many for a table of numbers

target_exists : (parts : List Part) (naming : Naming) → AreNames parts naming → (x : Sink) → SinkIs parts x → (target : Target) × IsTargetOf naming x target
target_exists parts naming names (ends i) output = let there = contained_at naming.outputs i (names.outputs.all i output) in (to.Output there.0, there.2)
target_exists parts naming names (enters s) splitter = let there = contained_at naming.splitters s (names.splitters.all s splitter) in (to.Split there.0, there.2)

edge_exists : (parts : List Part) (naming : Naming) → AreNames parts naming → (chain : Chain) (start : Start) → IsChain parts chain → IsStartOf naming chain.source start
    → (edge : Edge) × IsEdgeFrom parts (IsEdgeOf parts naming) chain.source edge
edge_exists parts naming names chain start is_chain starts =
    let target = target_exists parts naming names chain.sink (sink_is parts chain is_chain) in
    let cap = cap_exists parts chain is_chain in (
      record { start = start; target = target.0; cap = cap.0 },
      record { chain = chain; is_chain = is_chain; source_is = refl; named = record { start = starts; target = target.1; cap = cap.1 } },
    )

inputs_exist : (parts : List Part) → IsClean parts → (naming : Naming) → AreNames parts naming → (k : ℕ) → k ≤ length naming.inputs
    → (edges : List Edge) × HasEdges parts (IsEdgeOf parts naming) (InputsDone naming.inputs k) edges
inputs_exist parts clean naming names zero few = ([], edges_none parts (IsEdgeOf parts naming) naming)
inputs_exist parts clean naming names (suc k) few =
    let before = inputs_exist parts clean naming names k (omega arith) in
    let lt : k < length naming.inputs = omega arith in
    let i = get_or naming.inputs k 0 in
    let at = slice_get-get_or naming.inputs k 0 lt in
    let input = each_at (IsInput parts) naming.inputs k names.inputs lt in
    let run = run_from parts (orderly_of parts clean) clean.no_ring i (input_link parts i input) in
    let edge = edge_exists parts naming names (record { source = begins i input.part.cell; links = run.links; sink = run.sink }) (from.Input k)
    (input_chain parts clean.well_placed i run.last input.part.cell run.links run.sink input (record { part = input.part; is_i = input.is_i; covers = inl refl }) run.path run.ends) at in
    let more : k + 1 ≡ suc k = omega arith in (
      before.0 ++ edge.0 ∷ [],
      subst (λ n. HasEdges parts (IsEdgeOf parts naming) (InputsDone naming.inputs n) (before.0 ++ edge.0 ∷ [])) more
          (edges_input parts clean (IsEdgeOf parts naming) naming names k i before.0 edge.0 input at edge.1 before.1),
    )

half_exists : (parts : List Part) → IsClean parts → (naming : Naming) → AreNames parts naming → (k s : ℕ) (part : Part) (half : Cell) (old : List Edge) → slice_get naming.splitters k ≡ Some s
    → HasPart parts s part → part.kind ≡ Splitter → IsAt parts s half → (new : List Edge) × AddsEdgeFrom parts (IsEdgeOf parts naming) (leaves s half) old new
half_exists parts clean naming names k s part half old at is_s splits here =
    ⊎_elim (λ next. taken next.0 (half_feeds parts clean s next.0 half (step part.dir half) part is_s splitter here refl next.1) (part_cases parts next.0 next.1.part next.1.is_i))
    (λ none. (old, inl (half_starts_none parts s half (step part.dir half) part is_s refl none, refl)))
    (at_cases parts (step part.dir half))
  where
    splitter : IsSplitter parts s
    splitter = (part, is_s, splits)

    adds : (edge : Edge) → IsEdgeFrom parts (IsEdgeOf parts naming) (leaves s half) edge → (new : List Edge) × AddsEdgeFrom parts (IsEdgeOf parts naming) (leaves s half) old new
    adds edge n = (old ++ edge ∷ [], inr (edge, n, refl))

    taken : (next : ℕ) → FeedsFrom parts s half next → IsSplitter parts next ⊎ IsLink parts next → (new : List Edge) × AddsEdgeFrom parts (IsEdgeOf parts naming) (leaves s half) old new
    taken next feeds (inl into) =
        let edge = edge_exists parts naming names (record { source = leaves s half; links = []; sink = enters next }) (from.Split k) (empty_chain parts s next half splitter into feeds) at in
        adds edge.0 edge.1
    taken next feeds (inr on) =
        let run = run_from parts (orderly_of parts clean) clean.no_ring next on in
        let edge = edge_exists parts naming names (record { source = leaves s half; links = run.links; sink = run.sink }) (from.Split k)
        (half_chain parts (orderly_of parts clean) s next run.last half run.links run.sink splitter feeds run.path run.ends) at in
        adds edge.0 edge.1

splitters_exist : (parts : List Part) → IsClean parts → (naming : Naming) → AreNames parts naming → (k : ℕ) → k ≤ length naming.splitters
    → (edges : List Edge) × HasEdges parts (IsEdgeOf parts naming) (SplittersDone naming.splitters k) edges
splitters_exist parts clean naming names zero few =
    let before = inputs_exist parts clean naming names (length naming.inputs) (omega arith) in
    (before.0, edges_inputs parts (IsEdgeOf parts naming) naming before.0 names before.1)
splitters_exist parts clean naming names (suc k) few =
    let before = splitters_exist parts clean naming names k (omega arith) in
    let lt : k < length naming.splitters = omega arith in
    let s = get_or naming.splitters k 0 in
    let at = slice_get-get_or naming.splitters k 0 lt in
    let splitter = each_at (IsSplitter parts) naming.splitters k names.splitters lt in
    let part = splitter.0 in
    let lesser = half_exists parts clean naming names k s part part.cell before.0 at splitter.1 splitter.2 (record { part = part; is_i = splitter.1; covers = inl refl }) in
    let greater = half_exists parts clean naming names k s part (beside part.dir part.cell) lesser.0 at splitter.1 splitter.2
    (record { part = part; is_i = splitter.1; covers = inr (splitter.2, refl) }) in
    let more : k + 1 ≡ suc k = omega arith in (
      greater.0,
      subst (λ n. HasEdges parts (IsEdgeOf parts naming) (SplittersDone naming.splitters n) greater.0) more
          (edges_halves parts clean (IsEdgeOf parts naming) naming names k s part before.0 lesser.0 greater.0 splitter.1 at lesser.1 greater.1 before.1),
    )

edges_exist : (parts : List Part) → IsClean parts → (naming : Naming) → AreNames parts naming → (edges : List Edge) × HasEdges parts (IsEdgeOf parts naming) AllDone edges
edges_exist parts clean naming names =
    let found = splitters_exist parts clean naming names (length naming.splitters) (omega arith) in
    (found.0, edges_all parts (IsEdgeOf parts naming) naming found.0 names found.1)

-- ---- the network

pub each_once : (parts : List Part) (naming : Naming) (edges : List Edge) → (has : HasEdges parts (IsEdgeOf parts naming) AllDone edges) → ListsEach (IsChain parts) has.0
each_once parts naming edges has = record {
  all = λ c is_c. has.1.all c is_c tt;
  only = λ c there. (has.1.only c there).0;
  once = λ i j d lt in' same. sources_asymmetric _ _ (has.1.in_order i j d lt in')
      (subst (λ x. ComesBefore x.source (get_or has.0 i d).source) same
      (subst (λ x. ComesBefore (get_or has.0 i d).source x.source) (sym same) (has.1.in_order i j d lt in')));
}

pub named : (parts : List Part) (naming : Naming) (edges : List Edge) → AreNames parts naming → IsNaming parts (net_with naming edges) naming
named parts naming edges names = record {
  splitters = names.splitters;
  inputs = names.inputs;
  outputs = names.outputs;
  splitter_count = refl;
  input_count = refl;
  output_count = refl;
}

-- with edges for all chains the network is numbered
abbrev pub numbered : (parts : List Part) → IsClean parts → (naming : Naming) (edges : List Edge) → AreNames parts naming → HasEdges parts (IsEdgeOf parts naming) AllDone edges
    → IsNumbered parts (net_with naming edges) naming
numbered parts clean naming edges names has = record {
  clean = clean;
  names = named parts naming edges names;
  numbering = names.in_order;
  chains = has.0;
  each_once = each_once parts naming edges has;
  in_order = has.1.in_order;
  named = has.1.named;
}

-- the network of these numbers and edges
pub net_same : (naming : Naming) (edges : List Edge) (i o s : ℕ) → i ≡ length naming.inputs → o ≡ length naming.outputs → s ≡ length naming.splitters
    → network_of i o s edges ≡ net_with naming edges
net_same naming edges i o s a b c =
    ap (λ x. network_of x o s edges) a ∙ ap (λ x. network_of (length naming.inputs) x s edges) b ∙ ap (λ x. network_of (length naming.inputs) (length naming.outputs) x edges) c

-- the fault by its size
pub size_told : (n : Network) (fault : NetFault) → IsNetOf n (Err fault) → IsNetTold n (Err (size_fault fault))
size_told n TooLarge large = large
size_told n NoEnds lacks = lacks
size_told n (NetLine k) none = absurd none
size_told n Memory none = absurd none

-- a layout with too many ends or splitters has a network that is too large
pub large_exists : (parts : List Part) → IsClean parts → (naming : Naming) → AreNames parts naming → HasMany naming
    → (net : Network) × (naming : Naming) × IsNumbered parts net naming × HasNoPriorities net × IsLarge net
large_exists parts clean naming names many =
    let found = edges_exist parts clean naming names in (
      net_with naming found.0,
      naming,
      numbered parts clean naming found.0 names found.1,
      record { gives = refl; takes = refl; merges = refl },
      ⊎_elim (λ i. inl i) (λ more. ⊎_elim (λ o. inr (inl o)) (λ s. inr (inr (inl s))) more) many,
    )
