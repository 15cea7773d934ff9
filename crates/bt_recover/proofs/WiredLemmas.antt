-- The edges of a numbered network are wired.
use Rattle.std.proofs.Common.{◌≡◌, ◌≢◌, ◌⊎◌, ℕ, ◌<◌, ◌≤◌, List, [], length, get_or, pos, Some, Bool, true, refl, sym, ◌∙◌, ap, subst, ⊎_elim, arith}
use Rattle.std.specs.List.{slice_get, AllPairs, Contains, count_by}
use Rattle.std.proofs.lemmas.Option.{same_Some, slice_get_within, slice_get-get_or}
use Rattle.std.proofs.lemmas.Bool.{eqb-true, eq-eqb, false≢true}
use Rattle.std.proofs.lemmas.List.{get_or_default}
use Rattle.bt_parts.specs.declared.part.Cell.{Cell}
use Rattle.bt_parts.specs.declared.part.Part.{Part}
use Rattle.bt_parts.specs.Cells.{beside, step, opposite}
use Rattle.bt_net.specs.declared.network.Edge.{Edge}
use Rattle.bt_net.specs.declared.network.Start.{Start}
use Rattle.bt_net.specs.declared.network.Start.TheVariants as from
use Rattle.bt_net.specs.declared.network.Target.{Target}
use Rattle.bt_net.specs.declared.network.Target.TheVariants as to
use Rattle.bt_net.specs.Network.{Network, IsWired, leaves as leaves_from, enters as enters_to, is_input, is_output, StartsIn, EndsIn}
use Rattle.bt_model.specs.Chains.{IsSplitter, IsInput, IsOutput, Source, begins, leaves, Sink, ends, enters, Chain, IsChain}
use Rattle.bt_model.specs.Shown.{Naming, IsNaming, IsStartOf, IsTargetOf, IsEdgeOf, IsNumbered}
use Rattle.bt_model.proofs.Sorted.{one_place}
use Rattle.bt_model.proofs.SpeedLemmas.{cap_range}
use Rattle.bt_model.proofs.ChainLemmas.{orderly_of, chain_from}
use Rattle.bt_model.proofs.ExistLemmas.{from_input, to_output}
use Rattle.bt_model.proofs.SameChain.{same_begins, same_ends, leaves_half, Hop, hop_of, hop_half, same_hop}
use Rattle.bt_model.proofs.Places.{zip_length, zip_at}
use Rattle.bt_recover.proofs.Counts.{AtMostOne, AtMostTwo, count_one, count_two, count_some, two_of_three}

-- what the tests of edges tell
input_tells : (i : ℕ) (e : Edge) → is_input i e ≡ true → e.start ≡ from.Input i
input_tells i e t = by e.start e.target e.cap t where
  by : (s : Start) (t : Target) (c : ℕ) → is_input i (record { start = s; target = t; cap = c }) ≡ true → s ≡ from.Input i
  by (from.Input k) t c h = ap from.Input (eqb-true k i h)
  by (from.Split k) t c h = absurd (false≢true h)

leaves_tells : (s : ℕ) (e : Edge) → leaves_from s e ≡ true → e.start ≡ from.Split s
leaves_tells i e t = by e.start e.target e.cap t where
  by : (s : Start) (t : Target) (c : ℕ) → leaves_from i (record { start = s; target = t; cap = c }) ≡ true → s ≡ from.Split i
  by (from.Split k) t c h = ap from.Split (eqb-true k i h)
  by (from.Input k) t c h = absurd (false≢true h)

output_tells : (o : ℕ) (e : Edge) → is_output o e ≡ true → e.target ≡ to.Output o
output_tells i e t = by e.start e.target e.cap t where
  by : (s : Start) (t : Target) (c : ℕ) → is_output i (record { start = s; target = t; cap = c }) ≡ true → t ≡ to.Output i
  by s (to.Output k) c h = ap to.Output (eqb-true k i h)
  by s (to.Split k) c h = absurd (false≢true h)

enters_tells : (s : ℕ) (e : Edge) → enters_to s e ≡ true → e.target ≡ to.Split s
enters_tells i e t = by e.start e.target e.cap t where
  by : (s : Start) (t : Target) (c : ℕ) → enters_to i (record { start = s; target = t; cap = c }) ≡ true → t ≡ to.Split i
  by s (to.Split k) c h = ap to.Split (eqb-true k i h)
  by s (to.Output k) c h = absurd (false≢true h)

-- the edge of a chain that begins with an input, and of one that ends with an output
input_passes : (i : ℕ) (e : Edge) → e.start ≡ from.Input i → is_input i e ≡ true
input_passes i e h = by e.start e.target e.cap h where
  by : (s : Start) (t : Target) (c : ℕ) → s ≡ from.Input i → is_input i (record { start = s; target = t; cap = c }) ≡ true
  by (from.Input k) t c h = eq-eqb k i (cc)
  by (from.Split k) t c h = absurd (cc)

output_passes : (i : ℕ) (e : Edge) → e.target ≡ to.Output i → is_output i e ≡ true
output_passes i e h = by e.start e.target e.cap h where
  by : (s : Start) (t : Target) (c : ℕ) → t ≡ to.Output i → is_output i (record { start = s; target = t; cap = c }) ≡ true
  by s (to.Output k) c h = eq-eqb k i (cc)
  by s (to.Split k) c h = absurd (cc)

-- a source whose start is this input, or this splitter
begins_of : (naming : Naming) (source : Source) (start : Start) (i a : ℕ) → IsStartOf naming source start → start ≡ from.Input i → slice_get naming.inputs i ≡ Some a
    → (cell : Cell) × (source ≡ begins a cell)
begins_of naming (begins b cell) (from.Input k) i a h e at =
    let same : k ≡ i = cc in
    let parts_same : b ≡ a = same_Some b a (sym h ∙ ap (λ x. slice_get naming.inputs x) same ∙ at) in
    (cell, ap (λ x. begins x cell) parts_same)
begins_of naming (begins b cell) (from.Split k) i a h e at = absurd h
begins_of naming (leaves s half) (from.Input k) i a h e at = absurd h
begins_of naming (leaves s half) (from.Split k) i a h e at = absurd (cc)

leaves_of : (naming : Naming) (source : Source) (start : Start) (i a : ℕ) → IsStartOf naming source start → start ≡ from.Split i → slice_get naming.splitters i ≡ Some a
    → (half : Cell) × (source ≡ leaves a half)
leaves_of naming (leaves b half) (from.Split k) i a h e at =
    let same : k ≡ i = cc in
    let parts_same : b ≡ a = same_Some b a (sym h ∙ ap (λ x. slice_get naming.splitters x) same ∙ at) in
    (half, ap (λ x. leaves x half) parts_same)
leaves_of naming (leaves b half) (from.Input k) i a h e at = absurd h
leaves_of naming (begins s cell) (from.Split k) i a h e at = absurd h
leaves_of naming (begins s cell) (from.Input k) i a h e at = absurd (cc)

ends_of : (naming : Naming) (sink : Sink) (target : Target) (i a : ℕ) → IsTargetOf naming sink target → target ≡ to.Output i → slice_get naming.outputs i ≡ Some a → sink ≡ ends a
ends_of naming (ends b) (to.Output k) i a h e at =
    let same : k ≡ i = cc in ap ends (same_Some b a (sym h ∙ ap (λ x. slice_get naming.outputs x) same ∙ at))
ends_of naming (ends b) (to.Split k) i a h e at = absurd h
ends_of naming (enters s) (to.Output k) i a h e at = absurd h
ends_of naming (enters s) (to.Split k) i a h e at = absurd (cc)

enters_of : (naming : Naming) (sink : Sink) (target : Target) (i a : ℕ) → IsTargetOf naming sink target → target ≡ to.Split i → slice_get naming.splitters i ≡ Some a → sink ≡ enters a
enters_of naming (enters b) (to.Split k) i a h e at =
    let same : k ≡ i = cc in ap enters (same_Some b a (sym h ∙ ap (λ x. slice_get naming.splitters x) same ∙ at))
enters_of naming (enters b) (to.Output k) i a h e at = absurd h
enters_of naming (ends s) (to.Split k) i a h e at = absurd h
enters_of naming (ends s) (to.Output k) i a h e at = absurd (cc)

-- the chain and the edge at a place
some_chain : Chain
some_chain = record { source = begins 0 (record { x = pos 0; y = pos 0 }); links = []; sink = ends 0 }

record IsPlace (parts : List Part) (naming : Naming) (chains : List Chain) (l : ℕ) (edge : Edge) : Type 0 where
  within : l < length chains
  is_chain : IsChain parts (get_or chains l some_chain)
  named : IsEdgeOf parts naming (get_or chains l some_chain) edge

place_at : (parts : List Part) (net : Network) (naming : Naming) (n : IsNumbered parts net naming) (l : ℕ) (d : Edge) → l < length net.edges
    → IsPlace parts naming n.chains l (get_or net.edges l d)
place_at parts net naming n l d lt =
    let same = zip_length (IsEdgeOf parts naming) n.chains net.edges n.named in
    let in' : l < length n.chains = omega arith in
    let chain = get_or n.chains l some_chain in
    record {
      within = in';
      is_chain = n.each_once.only chain (l, in', get_or_default n.chains l chain some_chain in');
      named = zip_at (IsEdgeOf parts naming) n.chains net.edges l some_chain d n.named in';
    }

-- where the edges that pass a test stand for one chain, one edge passes
passes_once : (parts : List Part) (net : Network) (naming : Naming) → IsNumbered parts net naming → (p : Edge → Bool) (P : Chain → Type 0)
    → ((c : Chain) (e : Edge) → IsEdgeOf parts naming c e → p e ≡ true → P c) → ((c d : Chain) → IsChain parts c → IsChain parts d → P c → P d → c ≡ d) → AtMostOne p net.edges
passes_once parts net naming n p P tells same l m d lt in' t u =
    let x = place_at parts net naming n l d (omega arith) in
    let y = place_at parts net naming n m d in' in
    n.each_once.once l m some_chain lt y.within (same _ _ x.is_chain y.is_chain (tells _ _ x.named t) (tells _ _ y.named u))

-- and where they stand for chains of two halves, two edges pass
passes_twice : (parts : List Part) (net : Network) (naming : Naming) → IsNumbered parts net naming → (p : Edge → Bool) (P : Chain → Cell → Type 0) (a b : Cell)
    → ((c : Chain) (e : Edge) → IsChain parts c → IsEdgeOf parts naming c e → p e ≡ true → (half : Cell) × P c half × ((half ≡ a) ⊎ (half ≡ b)))
    → ((c d : Chain) (half other : Cell) → IsChain parts c → IsChain parts d → P c half → P d other → half ≡ other → c ≡ d) → AtMostTwo p net.edges
passes_twice parts net naming n p P a b tells same k l m d lt lt' in' s t u =
    let x = place_at parts net naming n k d (omega arith) in
    let y = place_at parts net naming n l d (omega arith) in
    let z = place_at parts net naming n m d in' in
    let f = tells _ _ x.is_chain x.named s in
    let g = tells _ _ y.is_chain y.named t in
    let h = tells _ _ z.is_chain z.named u in
    ⊎_elim
    (λ e. n.each_once.once k l some_chain lt y.within (same _ _ f.0 g.0 x.is_chain y.is_chain f.1 g.1 e))
    (λ other. ⊎_elim
    (λ e. n.each_once.once l m some_chain lt' z.within (same _ _ g.0 h.0 y.is_chain z.is_chain g.1 h.1 e))
    (λ e. n.each_once.once k m some_chain (omega arith) z.within (same _ _ f.0 h.0 x.is_chain z.is_chain f.1 h.1 e))
    other)
    (two_of_three a b f.0 g.0 h.0 f.2 g.2 h.2)

-- and where an edge that stands for a chain passes, one passes
passes_some : (parts : List Part) (net : Network) (naming : Naming) → IsNumbered parts net naming → (p : Edge → Bool) (c : Chain) → IsChain parts c
    → ((e : Edge) → IsEdgeOf parts naming c e → p e ≡ true) → 1 ≤ count_by p net.edges
passes_some parts net naming n p c is_c tells =
    let there = n.each_once.all c is_c in
    let same = zip_length (IsEdgeOf parts naming) n.chains net.edges n.named in
    let in' : there.0 < length net.edges = let lt = there.1 in omega arith in
    let some_edge : Edge = record { start = from.Input 0; target = to.Output 0; cap = 1 } in
    count_some p net.edges there.0 some_edge in'
    (tells (get_or net.edges there.0 some_edge)
    (subst (λ x. IsEdgeOf parts naming x (get_or net.edges there.0 some_edge)) there.2 (zip_at (IsEdgeOf parts naming) n.chains net.edges there.0 c some_edge n.named there.1)))

one_begins : (parts : List Part) (net : Network) (naming : Naming) → IsNumbered parts net naming → (i a : ℕ) → slice_get naming.inputs i ≡ Some a → AtMostOne (is_input i) net.edges
one_begins parts net naming n i a at =
    passes_once parts net naming n (is_input i) (λ c. (cell : Cell) × (c.source ≡ begins a cell))
    (λ c e named t. begins_of naming c.source e.start i a named.start (input_tells i e t) at)
    (λ c d is_c is_d x y. same_begins parts (orderly_of parts n.clean) c d a x.0 y.0 is_c is_d x.1 y.1)

one_ends : (parts : List Part) (net : Network) (naming : Naming) → IsNumbered parts net naming → (i a : ℕ) → slice_get naming.outputs i ≡ Some a → AtMostOne (is_output i) net.edges
one_ends parts net naming n i a at =
    passes_once parts net naming n (is_output i) (λ c. c.sink ≡ ends a)
    (λ c e named t. ends_of naming c.sink e.target i a named.target (output_tells i e t) at)
    (λ c d is_c is_d x y. same_ends parts (orderly_of parts n.clean) c d a is_c is_d x y)

two_leave : (parts : List Part) (net : Network) (naming : Naming) → IsNumbered parts net naming → (i a : ℕ) → slice_get naming.splitters i ≡ Some a → IsSplitter parts a
    → AtMostTwo (leaves_from i) net.edges
two_leave parts net naming n i a at splitter =
    passes_twice parts net naming n (leaves_from i) (λ c half. c.source ≡ leaves a half) splitter.0.cell (beside splitter.0.dir splitter.0.cell)
    (λ c e is_c named t.
    let x = leaves_of naming c.source e.start i a named.start (leaves_tells i e t) at in
    (x.0, x.1, leaves_half parts c a x.0 splitter.0 splitter.1 is_c x.1))
    (λ c d half other is_c is_d x y e. chain_from parts n.clean.well_placed c d is_c is_d (x ∙ ap (λ z. leaves a z) e ∙ sym y))

two_enter : (parts : List Part) (net : Network) (naming : Naming) → IsNumbered parts net naming → (i a : ℕ) → slice_get naming.splitters i ≡ Some a → IsSplitter parts a
    → AtMostTwo (enters_to i) net.edges
two_enter parts net naming n i a at splitter =
    passes_twice parts net naming n (enters_to i) (λ c half. (c.sink ≡ enters a) × (hop : Hop parts c a) × (hop.half ≡ half))
    (step (opposite splitter.0.dir) splitter.0.cell) (step (opposite splitter.0.dir) (beside splitter.0.dir splitter.0.cell))
    (λ c e is_c named t.
    let x = enters_of naming c.sink e.target i a named.target (enters_tells i e t) at in
    let hop = hop_of parts c a is_c x in
    (hop.half, (x, hop, refl), hop_half parts c a splitter.0 splitter.1 splitter.2 hop))
    (λ c d half other is_c is_d x y e. same_hop parts (orderly_of parts n.clean) c d a is_c is_d x.0 y.0 x.1 y.1 (x.2 ∙ e ∙ sym y.2))

-- the number of an edge's start and of its target are in range
start_in : (parts : List Part) (net : Network) (naming : Naming) → IsNaming parts net naming → (source : Source) (start : Start) → IsStartOf naming source start → StartsIn net start
start_in parts net naming names (begins i c) (from.Input k) h = let lt = slice_get_within naming.inputs k i h in let e = names.input_count in omega arith
start_in parts net naming names (begins i c) (from.Split k) h = absurd h
start_in parts net naming names (leaves s c) (from.Input k) h = absurd h
start_in parts net naming names (leaves s c) (from.Split k) h = let lt = slice_get_within naming.splitters k s h in let e = names.splitter_count in omega arith

target_in : (parts : List Part) (net : Network) (naming : Naming) → IsNaming parts net naming → (sink : Sink) (target : Target) → IsTargetOf naming sink target → EndsIn net target
target_in parts net naming names (ends i) (to.Output k) h = let lt = slice_get_within naming.outputs k i h in let e = names.output_count in omega arith
target_in parts net naming names (ends i) (to.Split k) h = absurd h
target_in parts net naming names (enters s) (to.Output k) h = absurd h
target_in parts net naming names (enters s) (to.Split k) h = let lt = slice_get_within naming.splitters k s h in let e = names.splitter_count in omega arith

-- the start of an edge for a chain that begins with an input of this number
start_is : (naming : Naming) (source : Source) (start : Start) (i a : ℕ) (cell : Cell) → AllPairs ◌≢◌ naming.inputs → IsStartOf naming source start → source ≡ begins a cell
    → slice_get naming.inputs i ≡ Some a → start ≡ from.Input i
start_is naming (begins b c) (from.Input k) i a cell once h e at =
    let same : b ≡ a = cc in
    ap from.Input (one_place naming.inputs once k i a (h ∙ ap Some same) at)
start_is naming (begins b c) (from.Split k) i a cell once h e at = absurd h
start_is naming (leaves s c) (from.Input k) i a cell once h e at = absurd h
start_is naming (leaves s c) (from.Split k) i a cell once h e at = absurd (cc)

target_is : (naming : Naming) (sink : Sink) (target : Target) (i a : ℕ) → AllPairs ◌≢◌ naming.outputs → IsTargetOf naming sink target → sink ≡ ends a
    → slice_get naming.outputs i ≡ Some a → target ≡ to.Output i
target_is naming (ends b) (to.Output k) i a once h e at =
    let same : b ≡ a = cc in
    ap to.Output (one_place naming.outputs once k i a (h ∙ ap Some same) at)
target_is naming (ends b) (to.Split k) i a once h e at = absurd h
target_is naming (enters s) (to.Output k) i a once h e at = absurd h
target_is naming (enters s) (to.Split k) i a once h e at = absurd (cc)

-- what a list has at a place
at_number : (xs : List ℕ) (i : ℕ) → i < length xs → (a : ℕ) × (slice_get xs i ≡ Some a) × Contains xs a
at_number xs i lt = (get_or xs i 0, slice_get-get_or xs i 0 lt, (i, lt, get_or_default xs i (get_or xs i 0) 0 lt))

some_begins : (parts : List Part) (net : Network) (naming : Naming) → IsNumbered parts net naming → (i a : ℕ) → slice_get naming.inputs i ≡ Some a → IsInput parts a
    → 1 ≤ count_by (is_input i) net.edges
some_begins parts net naming n i a at input =
    let found = from_input parts (orderly_of parts n.clean) n.clean.no_ring a input in
    passes_some parts net naming n (is_input i) found.0 found.2
    (λ e named. input_passes i e (start_is naming found.0.source e.start i a found.1 n.names.inputs.once named.start found.3 at))

some_ends : (parts : List Part) (net : Network) (naming : Naming) → IsNumbered parts net naming → (i a : ℕ) → slice_get naming.outputs i ≡ Some a → IsOutput parts a
    → 1 ≤ count_by (is_output i) net.edges
some_ends parts net naming n i a at output =
    let found = to_output parts (orderly_of parts n.clean) n.clean.no_ring a output in
    passes_some parts net naming n (is_output i) found.0 found.1
    (λ e named. output_passes i e (target_is naming found.0.sink e.target i a n.names.outputs.once named.target found.2 at))

-- the edges of a numbered network are wired
pub wired : (parts : List Part) (net : Network) (naming : Naming) → IsNumbered parts net naming → IsWired net
wired parts net naming n = record {
  starts = λ l d lt. start_in parts net naming n.names _ _ (place_at parts net naming n l d lt).named.start;
  targets = λ l d lt. target_in parts net naming n.names _ _ (place_at parts net naming n l d lt).named.target;
  caps = λ l d lt. cap_range parts _ _ (place_at parts net naming n l d lt).named.cap;
  one_in = λ i lt.
      let there = at_number naming.inputs i (let e = n.names.input_count in omega arith) in
      let most = count_one (is_input i) net.edges (one_begins parts net naming n i there.0 there.1) in
      let some = some_begins parts net naming n i there.0 there.1 (n.names.inputs.only there.0 there.2) in
      omega arith;
  one_out = λ i lt.
      let there = at_number naming.outputs i (let e = n.names.output_count in omega arith) in
      let most = count_one (is_output i) net.edges (one_ends parts net naming n i there.0 there.1) in
      let some = some_ends parts net naming n i there.0 there.1 (n.names.outputs.only there.0 there.2) in
      omega arith;
  few_in = λ i lt.
      let there = at_number naming.splitters i (let e = n.names.splitter_count in omega arith) in
      count_two (enters_to i) net.edges (two_enter parts net naming n i there.0 there.1 (n.names.splitters.only there.0 there.2));
  few_out = λ i lt.
      let there = at_number naming.splitters i (let e = n.names.splitter_count in omega arith) in
      count_two (leaves_from i) net.edges (two_leave parts net naming n i there.0 there.1 (n.names.splitters.only there.0 there.2));
}
