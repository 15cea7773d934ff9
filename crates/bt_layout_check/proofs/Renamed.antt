-- A layout shows a network by given names where its own network is the same but for the names.
use Rattle.std.proofs.Common.{◌≡◌, ◌⊎◌, ℕ, ◌<◌, List, [], ◌∷◌, length, get_or, Some, slice_get, slice_index_or, refl, sym, ◌∙◌, ap, subst, inl, inr, IsPermutation, arith}
use Rattle.std.specs.List.{All, AllZip}
use Rattle.std.proofs.lemmas.Option.{slice_get-get_or, get_or_from_slice_get}
use Rattle.std.proofs.lemmas.List.{get_or_default}
use Rattle.std.proofs.lemmas.List.Elements.{All-tail}
use Rattle.std.proofs.lemmas.List.Sorted.{All-permutation, IsPermutation-map, IsPermutation-sym, IsPermutation-trans}
use Rattle.bt_parts.specs.declared.part.Cell.{Cell}
use Rattle.bt_parts.specs.declared.part.Kind.TheVariants.{Belt, Entrance, Exit, Splitter}
use Rattle.bt_parts.specs.declared.part.Part.{Part}
use Rattle.bt_parts.proofs.Places.{same_part}
use Rattle.bt_net.specs.declared.network.Edge.{Edge}
use Rattle.bt_net.specs.declared.network.Start.{Start}
use Rattle.bt_net.specs.declared.network.Start.TheVariants as from
use Rattle.bt_net.specs.declared.network.Target.{Target}
use Rattle.bt_net.specs.declared.network.Target.TheVariants as to
use Rattle.bt_net.specs.Network.{Network, IsNetwork, StartsIn, EndsIn}
use Rattle.bt_model.specs.Chains.{IsSplitter, IsInput, IsOutput, Source, begins, leaves, Sink, ends, enters, Chain, IsChain, StartsAs, EndsAs}
use Rattle.bt_model.specs.Shown.{Naming, ListsEach, IsNaming, IsStartOf, IsTargetOf, IsEdgeOf, Shows, IsNumbered}
use Rattle.bt_model.specs.Speeds.{IsCapOf}
use Rattle.bt_model.proofs.SpeedLemmas.{same_cap}
use Rattle.bt_layout_check.specs.declared.joins.Join.{Join}
use Rattle.bt_layout_check.specs.inner.Joins.{join_of, joins_of, start_part, target_part}
use Rattle.bt_layout_check.specs.inner.Tests.{AreNamedAs, AreJoinedAs}
use Rattle.bt_layout_check.proofs.Listing.{each_rearranged, each_moved, along, lift}

-- the names of a layout's own network, in another order
pub named_as : (parts : List Part) (own naming : Naming) (net : Network) → ListsEach (IsSplitter parts) own.splitters → ListsEach (IsInput parts) own.inputs
    → ListsEach (IsOutput parts) own.outputs → IsNaming parts net naming → AreNamedAs own naming net
named_as parts own naming net splitters inputs outputs names = record {
  splitters = each_rearranged (IsSplitter parts) own.splitters naming.splitters splitters names.splitters;
  inputs = each_rearranged (IsInput parts) own.inputs naming.inputs inputs names.inputs;
  outputs = each_rearranged (IsOutput parts) own.outputs naming.outputs outputs names.outputs;
  splitter_count = names.splitter_count;
  input_count = names.input_count;
  output_count = names.output_count;
}

pub naming_as : (parts : List Part) (own naming : Naming) (net : Network) → ListsEach (IsSplitter parts) own.splitters → ListsEach (IsInput parts) own.inputs
    → ListsEach (IsOutput parts) own.outputs → AreNamedAs own naming net → IsNaming parts net naming
naming_as parts own naming net splitters inputs outputs named = record {
  splitters = each_moved (IsSplitter parts) own.splitters naming.splitters splitters named.splitters;
  inputs = each_moved (IsInput parts) own.inputs naming.inputs inputs named.inputs;
  outputs = each_moved (IsOutput parts) own.outputs naming.outputs outputs named.outputs;
  splitter_count = named.splitter_count;
  input_count = named.input_count;
  output_count = named.output_count;
}

-- the part at which a chain starts or ends
pub source_part : Source → ℕ
source_part (begins i cell) = i
source_part (leaves s half) = s

pub sink_part : Sink → ℕ
sink_part (ends i) = i
sink_part (enters s) = s

-- where a chain leaves or enters a splitter, that is the part
pub source_leaves : (s : ℕ) (half : Cell) → source_part (leaves s half) ≡ s
unfolding source_part
source_leaves s half = refl

pub sink_enters : (s : ℕ) → sink_part (enters s) ≡ s
unfolding sink_part
sink_enters s = refl

at_number : (xs : List ℕ) (k i : ℕ) → slice_get xs k ≡ Some i → slice_index_or xs k 0 ≡ i
at_number xs k i e = get_or_from_slice_get xs k i 0 e

pub start_at : (naming : Naming) (source : Source) (start : Start) → IsStartOf naming source start → start_part naming start ≡ source_part source
unfolding source_part
start_at naming (begins i cell) (from.Input k) h = at_number naming.inputs k i h
start_at naming (begins i cell) (from.Split k) h = absurd h
start_at naming (leaves s half) (from.Input k) h = absurd h
start_at naming (leaves s half) (from.Split k) h = at_number naming.splitters k s h

pub target_at : (naming : Naming) (sink : Sink) (target : Target) → IsTargetOf naming sink target → target_part naming target ≡ sink_part sink
unfolding sink_part
target_at naming (ends i) (to.Output k) h = at_number naming.outputs k i h
target_at naming (ends i) (to.Split k) h = absurd h
target_at naming (enters s) (to.Output k) h = absurd h
target_at naming (enters s) (to.Split k) h = at_number naming.splitters k s h

same_join : (a b : Join) → a.start ≡ b.start → a.target ≡ b.target → a.cap ≡ b.cap → a ≡ b
same_join a b s t c = λ i. record { start = s i; target = t i; cap = c i }

-- a chain has no parts of both kinds at its start, nor at its end
source_kind : (parts : List Part) (chain : Chain) → IsChain parts chain → (i : ℕ) (cell : Cell) → chain.source ≡ begins i cell → IsInput parts i
source_kind parts chain (inl h) i cell e = let at : StartsAs parts (begins i cell) h.first = subst (λ x. StartsAs parts x h.first) e h.starts in at.1
source_kind parts chain (inr h) i cell e = absurd (let s = h.source in cc)

pub source_splits : (parts : List Part) (chain : Chain) → IsChain parts chain → (s : ℕ) (half : Cell) → chain.source ≡ leaves s half → IsSplitter parts s
source_splits parts chain (inl h) s half e = let at : StartsAs parts (leaves s half) h.first = subst (λ x. StartsAs parts x h.first) e h.starts in at.0
source_splits parts chain (inr h) s half e = let same : h.from ≡ s = let x = h.source in cc in subst (IsSplitter parts) same h.is_from

sink_kind : (parts : List Part) (chain : Chain) → IsChain parts chain → (i : ℕ) → chain.sink ≡ ends i → IsOutput parts i
sink_kind parts chain (inl h) i e = let at : EndsAs parts (ends i) h.last = subst (λ x. EndsAs parts x h.last) e h.ends in subst (IsOutput parts) at.0 (subst (λ x. IsOutput parts x) (sym at.0) at.1)
sink_kind parts chain (inr h) i e = absurd (let s = h.sink in cc)

pub sink_splits : (parts : List Part) (chain : Chain) → IsChain parts chain → (s : ℕ) → chain.sink ≡ enters s → IsSplitter parts s
sink_splits parts chain (inl h) s e = let at : EndsAs parts (enters s) h.last = subst (λ x. EndsAs parts x h.last) e h.ends in at.0
sink_splits parts chain (inr h) s e = let same : h.to ≡ s = let x = h.sink in cc in subst (IsSplitter parts) same h.is_to

no_input_splits : (parts : List Part) (i : ℕ) → IsInput parts i → IsSplitter parts i → ⊥
no_input_splits parts i input splitter =
    by input.kind (ap (λ p. p.kind) (same_part parts i input.part splitter.0 input.is_i splitter.1) ∙ splitter.2)
  where
    by : (input.part.kind ≡ Belt) ⊎ (input.part.kind ≡ Entrance) → input.part.kind ≡ Splitter → ⊥
    by (inl e) f = absurd (cc)
    by (inr e) f = absurd (cc)

no_output_splits : (parts : List Part) (i : ℕ) → IsOutput parts i → IsSplitter parts i → ⊥
no_output_splits parts i output splitter =
    by output.kind (ap (λ p. p.kind) (same_part parts i output.part splitter.0 output.is_i splitter.1) ∙ splitter.2)
  where
    by : (output.part.kind ≡ Belt) ⊎ (output.part.kind ≡ Exit) → output.part.kind ≡ Splitter → ⊥
    by (inl e) f = absurd (cc)
    by (inr e) f = absurd (cc)

listed : (P : ℕ → Type 0) (xs : List ℕ) (k : ℕ) → ListsEach P xs → k < length xs → P (slice_index_or xs k 0)
listed P xs k lists lt = lists.only (get_or xs k 0) (k, lt, kept)
  where
    kept : get_or xs k (get_or xs k 0) ≡ get_or xs k 0
    kept = get_or_default xs k (get_or xs k 0) 0 lt

module _ (parts : List Part) (net : Network) (naming : Naming) (names : IsNaming parts net naming) where
  -- a start of the network whose part is that of the chain names the chain's start
  pub start_from : (chain : Chain) → IsChain parts chain → (source : Source) → chain.source ≡ source → (start : Start) → StartsIn net start
      → start_part naming start ≡ source_part source → IsStartOf naming source start
  unfolding source_part
  start_from chain is (begins i cell) e (from.Input k) inside same =
      let count = names.input_count in slice_get-get_or naming.inputs k 0 (omega (arith, count, inside)) ∙ ap Some same
  start_from chain is (begins i cell) e (from.Split k) inside same =
      let count = names.splitter_count in
      absurd (no_input_splits parts i (source_kind parts chain is i cell e) (subst (IsSplitter parts) same (listed (IsSplitter parts) naming.splitters k names.splitters (omega (arith, count, inside)))))
  start_from chain is (leaves s half) e (from.Input k) inside same =
      let count = names.input_count in
      absurd (no_input_splits parts s (subst (IsInput parts) same (listed (IsInput parts) naming.inputs k names.inputs (omega (arith, count, inside)))) (source_splits parts chain is s half e))
  start_from chain is (leaves s half) e (from.Split k) inside same =
      let count = names.splitter_count in slice_get-get_or naming.splitters k 0 (omega (arith, count, inside)) ∙ ap Some same

  pub target_from : (chain : Chain) → IsChain parts chain → (sink : Sink) → chain.sink ≡ sink → (target : Target) → EndsIn net target
      → target_part naming target ≡ sink_part sink → IsTargetOf naming sink target
  unfolding sink_part
  target_from chain is (ends i) e (to.Output k) inside same =
      let count = names.output_count in slice_get-get_or naming.outputs k 0 (omega (arith, count, inside)) ∙ ap Some same
  target_from chain is (ends i) e (to.Split k) inside same =
      let count = names.splitter_count in
      absurd (no_output_splits parts i (sink_kind parts chain is i e) (subst (IsSplitter parts) same (listed (IsSplitter parts) naming.splitters k names.splitters (omega (arith, count, inside)))))
  target_from chain is (enters s) e (to.Output k) inside same =
      let count = names.output_count in
      absurd (no_output_splits parts s (subst (IsOutput parts) same (listed (IsOutput parts) naming.outputs k names.outputs (omega (arith, count, inside)))) (sink_splits parts chain is s e))
  target_from chain is (enters s) e (to.Split k) inside same =
      let count = names.splitter_count in slice_get-get_or naming.splitters k 0 (omega (arith, count, inside)) ∙ ap Some same

  -- an edge that joins the parts that the chain's own edge joins stands for the chain
  edge_from : (own : Naming) (chain : Chain) (e f : Edge) → IsChain parts chain → IsEdgeOf parts own chain e → StartsIn net f.start → EndsIn net f.target
      → join_of naming f ≡ join_of own e → IsEdgeOf parts naming chain f
  edge_from own chain e f is h starts stops same =
      let cap : f.cap ≡ e.cap = ap (λ j. j.cap) same in
      record {
        start = start_from chain is chain.source refl f.start starts (ap (λ j. j.start) same ∙ start_at own chain.source e.start h.start);
        target = target_from chain is chain.sink refl f.target stops (ap (λ j. j.target) same ∙ target_at own chain.sink e.target h.target);
        cap = subst (λ c. IsCapOf parts chain c) (sym cap) h.cap;
      }

  edges_from : (own : Naming) (chains : List Chain) (es fs : List Edge) → All (IsChain parts) chains → AllZip (IsEdgeOf parts own) chains es
      → All (λ f. StartsIn net f.start) fs → All (λ f. EndsIn net f.target) fs → joins_of naming fs ≡ joins_of own es → AllZip (IsEdgeOf parts naming) chains fs
  edges_from own [] [] [] are h starts stops same = tt
  edges_from own [] [] (f ∷ fs) are h starts stops same = absurd (cc)
  edges_from own [] (e ∷ es) fs are h starts stops same = absurd h
  edges_from own (c ∷ cs) [] fs are h starts stops same = absurd h
  edges_from own (c ∷ cs) (e ∷ es) [] are h starts stops same = absurd (cc)
  edges_from own (c ∷ cs) (e ∷ es) (f ∷ fs) are h starts stops same =
      let first : join_of naming f ≡ join_of own e = cc in
      let rest : joins_of naming fs ≡ joins_of own es = cc in (
        edge_from own c e f (are 0 c (omega arith)) h.0 (starts 0 f (omega arith)) (stops 0 f (omega arith)) first,
        edges_from own cs es fs (All-tail (IsChain parts) c cs are) h.1 (All-tail (λ f. StartsIn net f.start) f fs starts) (All-tail (λ f. EndsIn net f.target) f fs stops) rest,
      )

-- edges of one chain by two namings join the same parts
same_joins : (parts : List Part) (one other : Naming) (chains : List Chain) (es fs : List Edge) → AllZip (IsEdgeOf parts one) chains es → AllZip (IsEdgeOf parts other) chains fs
    → joins_of one es ≡ joins_of other fs
same_joins parts one other [] [] [] h g = refl
same_joins parts one other [] [] (f ∷ fs) h g = absurd g
same_joins parts one other [] (e ∷ es) fs h g = absurd h
same_joins parts one other (c ∷ cs) [] fs h g = absurd h
same_joins parts one other (c ∷ cs) (e ∷ es) [] h g = absurd g
same_joins parts one other (c ∷ cs) (e ∷ es) (f ∷ fs) h g =
    let first : join_of one e ≡ join_of other f = same_join (join_of one e) (join_of other f)
    (start_at one c.source e.start h.0.start ∙ sym (start_at other c.source f.start g.0.start))
    (target_at one c.sink e.target h.0.target ∙ sym (target_at other c.sink f.target g.0.target))
    (same_cap parts c e.cap f.cap h.0.cap g.0.cap) in
    let rest = same_joins parts one other cs es fs h.1 g.1 in
    ap (λ j. j ∷ joins_of one es) first ∙ ap (λ js. join_of other f ∷ js) rest

-- where the layout shows the network, its own edges join the same parts
pub joined_as : (parts : List Part) (m net : Network) (own naming : Naming) → IsNumbered parts m own → Shows parts net naming → AreJoinedAs own m naming net
joined_as parts m net own naming h shows =
    let chains = each_rearranged (IsChain parts) shows.chains h.chains shows.each_once h.each_once in
    let new = along (IsEdgeOf parts naming) shows.chains shows.edges h.chains shows.named chains in
    let same : joins_of own m.edges ≡ joins_of naming new.list = same_joins parts own naming h.chains m.edges new.list h.named new.agree in
    subst (λ js. IsPermutation js (joins_of naming net.edges)) (sym same)
    (IsPermutation-map (join_of naming) new.list net.edges
    (IsPermutation-trans new.list shows.edges net.edges (IsPermutation-sym shows.edges new.list new.moved) shows.same))

-- and where they do, it shows it
pub shows_as : (parts : List Part) (m net : Network) (own naming : Naming) → IsNetwork net → IsNumbered parts m own → IsNaming parts net naming
    → AreJoinedAs own m naming net → Shows parts net naming
shows_as parts m net own naming is h names joined =
    let lifted = lift (join_of naming) net.edges (joins_of own m.edges) (IsPermutation-sym (joins_of own m.edges) (joins_of naming net.edges) joined) in
    record {
      clean = h.clean;
      names = names;
      chains = h.chains;
      each_once = h.each_once;
      edges = lifted.list;
      named = edges_from parts net naming names own h.chains m.edges lifted.list (λ k d lt. h.each_once.only (get_or h.chains k d) (k, lt, get_or_default h.chains k (get_or h.chains k d) d lt)) h.named
          (All-permutation (λ f. StartsIn net f.start) net.edges lifted.list lifted.moved is.wired.starts)
          (All-permutation (λ f. EndsIn net f.target) net.edges lifted.list lifted.moved is.wired.targets) lifted.seen;
      same = IsPermutation-sym net.edges lifted.list lifted.moved;
    }
