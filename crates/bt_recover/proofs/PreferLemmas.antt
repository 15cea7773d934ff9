-- The edges that splitters prefer.
use Rattle.std.proofs.Common.{◌≡◌, ◌≢◌, ◌⊎◌, ℕ, zero, suc, ◌+◌, ◌-◌, ◌<◌, List, [], ◌∷◌, map, length, get_or, Option, Some, None, true, false, replicate, IsTrue, refl, sym, ◌∙◌, ap, subst, inl, inr, ⊎_elim, arith}
use Rattle.std.specs.Prelude.{MatchOption, Ok, Err}
use Rattle.std.specs.List.{slice_get, AllPairs, AllZip, Contains}
use Rattle.std.proofs.Common.{set}
use Rattle.std.specs.Prelude.{Result}
use Rattle.std.proofs.Math.ListN.{get_or-eq_default}
use Rattle.std.proofs.lemmas.Bool.{eq-eqb}
use Rattle.bt_text.specs.Answers.{UnlessMemory, Answers, HasOneAnswer}
use Rattle.bt_text.proofs.OneAnswer.{answers_of}
use Rattle.bt_parts.specs.declared.hand.Hand.{Hand}
use Rattle.bt_parts.specs.Hands.{half_on}
use Rattle.std.proofs.lemmas.Bool.{cases_lt, cases_eq}
use Rattle.std.proofs.lemmas.Grind.{get_or-set_at}
use Rattle.std.proofs.lemmas.List.{get_or-set_other, length-set, length-replicate}
use Rattle.std.proofs.lemmas.Option.{same_Some, none-some, slice_get_within, slice_get-get_or, get_or_from_slice_get}
use Rattle.bt_parts.specs.declared.hand.Priority.{Priority}
use Rattle.bt_parts.specs.declared.part.Cell.{Cell}
use Rattle.bt_parts.specs.declared.part.Part.{Part}
use Rattle.bt_parts.specs.declared.part.Kind.TheVariants.{Splitter}
use Rattle.bt_parts.specs.declared.part.Side.TheVariants.{Behind}
use Rattle.bt_parts.specs.Cells.{step, opposite}
use Rattle.bt_parts.specs.Handing.{ComesFrom, TakesFrom}
use Rattle.bt_parts.specs.Layouts.{HasPart, IsAt}
use Rattle.bt_parts.proofs.Places.{same_part, own_cell, covers_at}
use Rattle.bt_parts.proofs.Steps.{near_end}
use Rattle.bt_net.specs.Network.{Network, HasNoPriorities, IsNetwork, IsPrioritised, none_each, leaves as leaves_from, enters as enters_to}
use Rattle.bt_net.specs.Priorities.{preferring}
use Rattle.bt_net.proofs.Preference.{plain_is_prioritised, preferring_network, none_any}
use Rattle.bt_model.specs.Handing.{FeedsFrom}
use Rattle.bt_net.specs.declared.network.Edge.{Edge}
use Rattle.bt_net.specs.declared.network.Start.{Start}
use Rattle.bt_net.specs.declared.network.Start.TheVariants as from
use Rattle.bt_net.specs.declared.network.Target.{Target}
use Rattle.bt_net.specs.declared.network.Target.TheVariants as into
use Rattle.bt_model.specs.Chains.{Path, IsSplitter, leaves, Sink, ends, enters, Chain, EndsAs, IsLongest, IsEmptyChain, IsChain}
use Rattle.bt_model.specs.Clean.{IsClean}
use Rattle.bt_model.specs.Shown.{Naming, IsStartOf, IsTargetOf, IsEdgeOf, ComesBefore, IsNumbered}
use Rattle.bt_model.proofs.ChainLemmas.{path_stop, orderly_of, chain_from}
use Rattle.bt_model.proofs.HandLaws.{takes_at, comes_at}
use Rattle.bt_model.proofs.OneNetwork.{same_network, same_naming}
use Rattle.bt_model.proofs.Orders.{sources_asymmetric}
use Rattle.bt_model.proofs.PathLemmas.{path_head, path_next}
use Rattle.bt_model.proofs.SameChain.{Hop, same_hop}
use Rattle.bt_model.proofs.Sorted.{one_place, same_ascending}
use Rattle.bt_recover.specs.declared.edges.Joint.{Joint}
use Rattle.bt_recover.specs.Preferred.{HandsOnFrom, EndsAtHalf, no_priority, priority_of, IsHalfOn, IsGivenFirst, IsTakenFirst, ArePreferred, IsPreferring, IsRecoveredWith}
use Rattle.bt_recover.specs.inner.Edges.{naming_of, AreNames, EndsAtAny, IsJoint, HasEdges, AllDone, net_with}
use Rattle.bt_recover.specs.inner.Found.{TellsPreferred, HasJoints}
use Rattle.bt_recover.specs.declared.fault.RecoverFault.{RecoverFault}
use Rattle.bt_recover.specs.declared.fault.RecoverFault.TheVariants.{Memory}
use Rattle.bt_recover.specs.declared.recovery.Found.{Found}
use Rattle.bt_recover.specs.Recovered.{IsRecovered}
use Rattle.bt_recover.proofs.OneRecovery.{one_recovery}
use Rattle.bt_recover.proofs.NetworkLemmas.{numbered, edges_alone}

-- the network with the edges of the chains is numbered
pub numbered_of : (parts : List Part) → IsClean parts → (naming : Naming) (edges : List Edge) (joints : List Joint) → AreNames parts naming → edges ≡ map (λ joint. joint.edge) joints
    → HasEdges parts (IsJoint parts naming) AllDone joints → IsNumbered parts (net_with naming edges) naming
numbered_of parts clean naming edges joints names is has =
    numbered parts clean naming edges names (subst (λ es. HasEdges parts (IsEdgeOf parts naming) AllDone es) (sym is) (edges_alone parts naming AllDone joints has))

abbrev numbered_joints : (parts : List Part) → IsClean parts → (naming : Naming) (joints : List Joint) → AreNames parts naming
    → HasEdges parts (IsJoint parts naming) AllDone joints → IsNumbered parts (net_with naming (map (λ joint. joint.edge) joints)) naming
numbered_joints parts clean naming joints names has = numbered parts clean naming (map (λ joint. joint.edge) joints) names (edges_alone parts naming AllDone joints has)

-- ---- which splitter prefers the chain of an edge

enters_here : (naming : Naming) (sink : Sink) (target : Target) (k : ℕ) → IsTargetOf naming sink target → target ≡ into.Split k
    → (s : ℕ) × (slice_get naming.splitters k ≡ Some s) × (sink ≡ enters s)
enters_here naming (ends i) (into.Output j) k is e = absurd (cc)
enters_here naming (ends i) (into.Split j) k is e = absurd is
enters_here naming (enters s) (into.Output j) k is e = absurd is
enters_here naming (enters s) (into.Split j) k is e =
    let same : j ≡ k = cc in (s, ap (λ x. slice_get naming.splitters x) (sym same) ∙ is, refl)

-- an edge that starts at a splitter starts at this half of it
record StartsHere (naming : Naming) (chain : Chain) (k : ℕ) (half : Cell) : Type 0 where
  s : ℕ
  at : slice_get naming.splitters k ≡ Some s
  source : chain.source ≡ leaves s half

number_missed : (naming : Naming) (splitters : List ℕ) (k s : ℕ) → naming.splitters ≡ splitters → slice_get naming.splitters k ≡ Some s → slice_get splitters k ≡ None → ⊥
number_missed naming splitters k s e at none = none-some s (sym none ∙ ap (λ xs. slice_get xs k) (sym e) ∙ at)

splitter_same : (naming : Naming) (splitters : List ℕ) (k s t : ℕ) → naming.splitters ≡ splitters → slice_get naming.splitters k ≡ Some s → slice_get splitters k ≡ Some t → s ≡ t
splitter_same naming splitters k s t e at is = same_Some s t (sym at ∙ ap (λ xs. slice_get xs k) e ∙ is)

leaves_same : (s t : ℕ) (a b : Cell) → leaves s a ≡ leaves t b → (s ≡ t) × (a ≡ b)
leaves_same s t a b e = (cc, cc)

enters_same : (s t : ℕ) → enters s ≡ enters t → s ≡ t
enters_same s t e = cc

-- ---- where a chain ends

path_end : (parts : List Part) (i last : ℕ) (links : List ℕ) → Path parts i last links → (k : ℕ) → suc k ≡ length links → get_or links k 0 ≡ last
path_end parts i last links p k e =
    ⊎_elim (λ on. let lt = on.1 in absurd (omega arith)) (λ end. end.1) (path_next parts i last links p k (omega arith))

-- a path of some parts has one end, and no path has no part
paths_end : (parts : List Part) (i j a b : ℕ) (links : List ℕ) → Path parts i a links → Path parts j b links → a ≡ b
paths_end parts i j a b links p q =
    let some = (path_head parts i a links 0 p).0 in
    let e : suc (length links - 1) ≡ length links = omega arith in
    sym (path_end parts i a links p (length links - 1) e) ∙ path_end parts j b links q (length links - 1) e

no_path : (parts : List Part) (i a : ℕ) (links : List ℕ) → Path parts i a links → links ≡ [] → ⊥
no_path parts i a links p e =
    let some = (path_head parts i a links 0 p).0 in
    let none : length links ≡ 0 = ap length e in
    omega arith

-- a chain hands on from one cell of one part
record SameGiver (g h : ℕ) (c d : Cell) : Type 0 where
  giver : g ≡ h
  cell : c ≡ d

same_giver : (parts : List Part) (chain : Chain) (s t : ℕ) (half other : Cell) (x : EndsAtHalf parts chain s half) (y : EndsAtHalf parts chain t other) → SameGiver x.giver y.giver x.cell y.cell
same_giver parts chain s t half other x y = by x.hands_on y.hands_on
  where
    by : HandsOnFrom parts chain x.giver x.cell → HandsOnFrom parts chain y.giver y.cell → SameGiver x.giver y.giver x.cell y.cell
    by (inl p) (inl q) =
        let giver : x.giver ≡ y.giver = paths_end parts p.0 q.0 x.giver y.giver chain.links p.1 q.1 in
        let link = path_stop parts q.0 y.giver chain.links q.1 in
        record {
          giver = giver;
          cell = own_cell link.0 x.cell link.2 (covers_at parts y.giver link.0 x.cell link.1 (subst (λ g. IsAt parts g x.cell) giver x.feeds.look.giver))
              ∙ sym (own_cell link.0 y.cell link.2 (covers_at parts y.giver link.0 y.cell link.1 y.feeds.look.giver));
        }
    by (inl p) (inr q) = absurd (no_path parts p.0 x.giver chain.links p.1 q.0)
    by (inr p) (inl q) = absurd (no_path parts q.0 y.giver chain.links q.1 p.0)
    by (inr p) (inr q) = let e = leaves_same x.giver y.giver x.cell y.cell (sym p.1 ∙ q.1) in record { giver = e.0; cell = e.1 }

-- so it ends at one half
same_end : (parts : List Part) (chain : Chain) (s t : ℕ) (half other : Cell) → EndsAtHalf parts chain s half → EndsAtHalf parts chain t other → half ≡ other
same_end parts chain s t half other x y =
    let e = same_giver parts chain s t half other x y in
    let part : x.feeds.look.giver.part ≡ y.feeds.look.giver.part =
    same_part parts y.giver x.feeds.look.giver.part y.feeds.look.giver.part (subst (λ g. HasPart parts g x.feeds.look.giver.part) e.giver x.feeds.look.giver.is_i) y.feeds.look.giver.is_i in
    x.faces ∙ ap (λ p. step p.dir x.cell) part ∙ ap (step y.feeds.look.giver.part.dir) e.cell ∙ sym y.faces

-- an edge that ends at a splitter ends at this half of it
record EndsHere (parts : List Part) (naming : Naming) (chain : Chain) (k : ℕ) (half : Cell) : Type 0 where
  s : ℕ
  at : slice_get naming.splitters k ≡ Some s
  ends_at : EndsAtHalf parts chain s half

ends_here : (parts : List Part) (naming : Naming) (chain : Chain) (joint : Joint) (k : ℕ) (half : Cell) → IsJoint parts naming chain joint → joint.edge.target ≡ into.Split k → joint.sink_half ≡ Some half
    → EndsHere parts naming chain k half
ends_here parts naming chain joint k half is e f =
    let found = enters_here naming chain.sink joint.edge.target k is.edge.target e in
    let there : (s : ℕ) × EndsAtHalf parts chain s half = subst (λ told. EndsAtAny parts chain told) f is.ends_at in
    let same : there.0 ≡ found.0 = enters_same there.0 found.0 (sym there.1.sink ∙ found.2) in
    record { s = found.0; at = found.1; ends_at = subst (λ s. EndsAtHalf parts chain s half) same there.1 }

pub taken_none : (parts : List Part) (priorities : List Priority) (splitters : List ℕ) (joint : Joint) (k : ℕ) (half : Cell) → joint.edge.target ≡ into.Split k → joint.sink_half ≡ Some half → slice_get splitters k ≡ None
    → (naming : Naming) (chain : Chain) → naming.splitters ≡ splitters → IsJoint parts naming chain joint → TellsPreferred (IsTakenFirst parts priorities) splitters chain None
taken_none parts priorities splitters joint k half e f none naming chain same is s given =
    let here = ends_here parts naming chain joint k half is e f in
    number_missed naming splitters k here.s same here.at none

pub taken_here : (parts : List Part) (priorities : List Priority) (splitters : List ℕ) (joint : Joint) (k s : ℕ) (half : Cell) → joint.edge.target ≡ into.Split k → joint.sink_half ≡ Some half → slice_get splitters k ≡ Some s
    → IsHalfOn parts s (priority_of priorities s).take half
    → (naming : Naming) (chain : Chain) → naming.splitters ≡ splitters → IsJoint parts naming chain joint → TellsPreferred (IsTakenFirst parts priorities) splitters chain (Some k)
taken_here parts priorities splitters joint k s half e f at on naming chain same is =
    let here = ends_here parts naming chain joint k half is e f in
    (s, at, (half, subst (λ x. EndsAtHalf parts chain x half) (splitter_same naming splitters k here.s s same here.at at) here.ends_at, on))

pub taken_other : (parts : List Part) (priorities : List Priority) (splitters : List ℕ) (joint : Joint) (k s : ℕ) (half : Cell) → joint.edge.target ≡ into.Split k → joint.sink_half ≡ Some half → slice_get splitters k ≡ Some s
    → (IsHalfOn parts s (priority_of priorities s).take half → ⊥)
    → (naming : Naming) (chain : Chain) → naming.splitters ≡ splitters → IsJoint parts naming chain joint → TellsPreferred (IsTakenFirst parts priorities) splitters chain None
taken_other parts priorities splitters joint k s half e f at off naming chain same is t taken =
    let here = ends_here parts naming chain joint k half is e f in
    let halves : half ≡ taken.0 = same_end parts chain here.s t half taken.0 here.ends_at taken.1 in
    let splitter : t ≡ s = sym (enters_same here.s t (sym here.ends_at.sink ∙ taken.1.sink)) ∙ splitter_same naming splitters k here.s s same here.at at in
    off (subst (λ x. IsHalfOn parts x (priority_of priorities x).take half) splitter
    (subst (λ h. IsHalfOn parts t (priority_of priorities t).take h) (sym halves) taken.2))

-- an edge that ends at an output, or at no half, is taken first by none
pub taken_never : (parts : List Part) (priorities : List Priority) (splitters : List ℕ) (joint : Joint) → joint.sink_half ≡ None
    → (naming : Naming) (chain : Chain) → naming.splitters ≡ splitters → IsJoint parts naming chain joint → TellsPreferred (IsTakenFirst parts priorities) splitters chain None
taken_never parts priorities splitters joint none naming chain same is s taken =
    let never : (t : ℕ) (half : Cell) → EndsAtHalf parts chain t half → ⊥ = subst (λ told. EndsAtAny parts chain told) none is.ends_at in
    never s taken.0 taken.1

-- ---- one edge after another

-- as far as this edge each splitter has the place of the chain that it prefers
pub record PreferredUpTo (Prefers : Chain → ℕ → Type 0) (splitters : List ℕ) (chains : List Chain) (edges : List (Option ℕ)) (a : ℕ) : Type 0 where
  pub count : length edges ≡ length splitters
  pub each : (k s : ℕ) → slice_get splitters k ≡ Some s → MatchOption (get_or edges k None)
      ((b : ℕ) (chain : Chain) → b < a → slice_get chains b ≡ Some chain → Prefers chain s → ⊥)
      (λ b. (chain : Chain) × (slice_get chains b ≡ Some chain) × Prefers chain s)

abbrev NoneBefore : (Chain → ℕ → Type 0) → List Chain → ℕ → ℕ → Type 0
NoneBefore Prefers chains s a = (b : ℕ) (chain : Chain) → b < a → slice_get chains b ≡ Some chain → Prefers chain s → ⊥

abbrev HasPlace : (Chain → ℕ → Type 0) → List Chain → ℕ → ℕ → Type 0
HasPlace Prefers chains s b = (chain : Chain) × (slice_get chains b ≡ Some chain) × Prefers chain s

one_later : (Prefers : Chain → ℕ → Type 0) (chains : List Chain) (s a : ℕ) (chain : Chain) (o : Option ℕ) → slice_get chains a ≡ Some chain → (Prefers chain s → ⊥)
    → MatchOption o (NoneBefore Prefers chains s a) (HasPlace Prefers chains s) → MatchOption o (NoneBefore Prefers chains s (a + 1)) (HasPlace Prefers chains s)
one_later Prefers chains s a chain None at off none = λ b c lt got p.
    ⊎_elim (λ less. none b c less got p)
    (λ ge.
    let same : b ≡ a = omega (arith, lt, ge) in
    off (subst (λ x. Prefers x s) (same_Some c chain (sym got ∙ ap (λ x. slice_get chains x) same ∙ at)) p))
    (cases_lt b a)
one_later Prefers chains s a chain (Some b) at off some = some

pub preferred_skip : (Prefers : Chain → ℕ → Type 0) (splitters : List ℕ) (chains : List Chain) (edges : List (Option ℕ)) (a : ℕ) (chain : Chain) → slice_get chains a ≡ Some chain
    → TellsPreferred Prefers splitters chain None → PreferredUpTo Prefers splitters chains edges a → PreferredUpTo Prefers splitters chains edges (a + 1)
preferred_skip Prefers splitters chains edges a chain at told up = record {
  count = up.count;
  each = λ k s got. one_later Prefers chains s a chain (get_or edges k None) at (told s) (up.each k s got);
}

pub preferred_more : (Prefers : Chain → ℕ → Type 0) → ((c : Chain) (s t : ℕ) → Prefers c s → Prefers c t → s ≡ t) → (splitters : List ℕ) (chains : List Chain) (edges : List (Option ℕ)) (a k : ℕ) (chain : Chain)
    → AllPairs ◌≢◌ splitters → slice_get chains a ≡ Some chain → TellsPreferred Prefers splitters chain (Some k) → PreferredUpTo Prefers splitters chains edges a
    → PreferredUpTo Prefers splitters chains (set edges k (Some a)) (a + 1)
preferred_more Prefers functional splitters chains edges a k chain once at told up = record {
  count = length-set edges k (Some a) ∙ up.count;
  each = λ j t got. ⊎_elim
      (λ same.
      let here : get_or (set edges k (Some a)) j None ≡ Some a =
      get_or-set_at edges k j (Some a) None same (omega (arith, up.count, slice_get_within splitters k told.0 told.1)) in
      let splitter : told.0 ≡ t = same_Some told.0 t (sym told.1 ∙ ap (λ x. slice_get splitters x) (sym same) ∙ got) in
      subst (λ o. MatchOption o (NoneBefore Prefers chains t (a + 1)) (HasPlace Prefers chains t)) (sym here) (chain, at, subst (Prefers chain) splitter told.2))
      (λ apart.
      let there : get_or (set edges k (Some a)) j None ≡ get_or edges j None = get_or-set_other edges k j (Some a) None apart in
      subst (λ o. MatchOption o (NoneBefore Prefers chains t (a + 1)) (HasPlace Prefers chains t)) (sym there)
      (one_later Prefers chains t a chain (get_or edges j None) at
      (λ p. apart (one_place splitters once j k t got (told.1 ∙ ap Some (functional chain told.0 t told.2 p)))) (up.each j t got)))
      (cases_eq j k);
}

at_place : {X : Type 0} (xs : List X) (x : X) → Contains xs x → (k : ℕ) × (k < length xs) × (slice_get xs k ≡ Some x)
at_place xs x there = (there.0, there.1, slice_get-get_or xs there.0 x there.1 ∙ ap Some there.2)

place_of : {X : Type 0} (xs : List X) (k : ℕ) (x : X) → slice_get xs k ≡ Some x → Contains xs x
place_of xs k x at = (k, slice_get_within xs k x at, get_or_from_slice_get xs k x x at)

all_before : (Prefers : Chain → ℕ → Type 0) (chains : List Chain) (s : ℕ) (o : Option ℕ) → MatchOption o (NoneBefore Prefers chains s (length chains)) (HasPlace Prefers chains s)
    → MatchOption o ((chain : Chain) → Contains chains chain → Prefers chain s → ⊥) (HasPlace Prefers chains s)
all_before Prefers chains s None none = λ chain there p. let k = at_place chains chain there in none k.0 chain k.1 k.2 p
all_before Prefers chains s (Some b) some = some

pub preferred_all : (Prefers : Chain → ℕ → Type 0) (splitters : List ℕ) (chains : List Chain) (edges : List (Option ℕ)) (a : ℕ) → a ≡ length chains → PreferredUpTo Prefers splitters chains edges a
    → ArePreferred Prefers splitters chains edges
preferred_all Prefers splitters chains edges a all up =
    let done : PreferredUpTo Prefers splitters chains edges (length chains) = subst (PreferredUpTo Prefers splitters chains edges) all up in
    record { count = done.count; each = λ k s at. all_before Prefers chains s (get_or edges k None) (done.each k s at) }

pub zip_get : {X Y : Type 0} (R : X → Y → Type 0) (xs : List X) (ys : List Y) (i : ℕ) (y : Y) → AllZip R xs ys → slice_get ys i ≡ Some y → (x : X) × (slice_get xs i ≡ Some x) × R x y
zip_get R [] [] i y z at = absurd (none-some y at)
zip_get R [] (w ∷ ws) i y z at = absurd z
zip_get R (x ∷ xs) [] i y z at = absurd z
zip_get R (x ∷ xs) (w ∷ ws) zero y z at = (x, refl, subst (R x) (same_Some w y at) z.0)
zip_get R (x ∷ xs) (w ∷ ws) (suc i) y z at = zip_get R xs ws i y z.1 at

zip_back : {X Y : Type 0} (R : X → Y → Type 0) (xs : List X) (ys : List Y) (i : ℕ) (x : X) → AllZip R xs ys → slice_get xs i ≡ Some x → (y : Y) × (slice_get ys i ≡ Some y) × R x y
zip_back R [] [] i x z at = absurd (none-some x at)
zip_back R [] (w ∷ ws) i x z at = absurd z
zip_back R (v ∷ xs) [] i x z at = absurd z
zip_back R (v ∷ xs) (w ∷ ws) zero x z at = (w, refl, subst (λ t. R t w) (same_Some v x at) z.0)
zip_back R (v ∷ xs) (w ∷ ws) (suc i) x z at = zip_back R xs ws i x z.1 at

pub given_functional : (parts : List Part) (priorities : List Priority) (c : Chain) (s t : ℕ) → IsGivenFirst parts priorities c s → IsGivenFirst parts priorities c t → s ≡ t
given_functional parts priorities c s t x y = (leaves_same s t x.0 y.0 (sym x.1 ∙ y.1)).0

pub taken_functional : (parts : List Part) (priorities : List Priority) (c : Chain) (s t : ℕ) → IsTakenFirst parts priorities c s → IsTakenFirst parts priorities c t → s ≡ t
taken_functional parts priorities c s t x y = enters_same s t (sym x.1.sink ∙ y.1.sink)

-- ---- the network with what its splitters prefer

-- which edges are preferred makes no difference to the numbering
abbrev pub renumbered : (parts : List Part) (n : Network) (naming : Naming) (gives takes : List (Option ℕ)) → IsNumbered parts n naming → IsNumbered parts (preferring n gives takes) naming
renumbered parts n naming gives takes h = record {
  clean = h.clean;
  names = record {
    splitters = h.names.splitters;
    inputs = h.names.inputs;
    outputs = h.names.outputs;
    splitter_count = h.names.splitter_count;
    input_count = h.names.input_count;
    output_count = h.names.output_count;
  };
  numbering = h.numbering;
  chains = h.chains;
  each_once = h.each_once;
  in_order = h.in_order;
  named = h.named;
}

start_of : (naming : Naming) (start : Start) (k s : ℕ) (half : Cell) → AllPairs ◌≢◌ naming.splitters → slice_get naming.splitters k ≡ Some s → IsStartOf naming (leaves s half) start → start ≡ from.Split k
start_of naming (from.Input j) k s half once at is = absurd is
start_of naming (from.Split j) k s half once at is = ap from.Split (one_place naming.splitters once j k s is at)

target_of : (naming : Naming) (target : Target) (k s : ℕ) → AllPairs ◌≢◌ naming.splitters → slice_get naming.splitters k ≡ Some s → IsTargetOf naming (enters s) target → target ≡ into.Split k
target_of naming (into.Output j) k s once at is = absurd is
target_of naming (into.Split j) k s once at is = ap into.Split (one_place naming.splitters once j k s is at)

leaves_passes : (k : ℕ) (e : Edge) → e.start ≡ from.Split k → IsTrue (leaves_from k e)
leaves_passes k e h = by e.start e.target e.cap h
  where
    by : (s : Start) (t : Target) (c : ℕ) → s ≡ from.Split k → leaves_from k (record { start = s; target = t; cap = c }) ≡ true
    by (from.Split j) t c h = eq-eqb j k (cc)
    by (from.Input i) t c h = absurd (cc)

enters_passes : (k : ℕ) (e : Edge) → e.target ≡ into.Split k → IsTrue (enters_to k e)
enters_passes k e h = by e.start e.target e.cap h
  where
    by : (s : Start) (t : Target) (c : ℕ) → t ≡ into.Split k → enters_to k (record { start = s; target = t; cap = c }) ≡ true
    by s (into.Split j) c h = eq-eqb j k (cc)
    by s (into.Output o) c h = absurd (cc)

-- a place that is preferred is that of a splitter
preferred_within : (Prefers : Chain → ℕ → Type 0) (splitters : List ℕ) (chains : List Chain) (edges : List (Option ℕ)) (k a : ℕ) → ArePreferred Prefers splitters chains edges → get_or edges k None ≡ Some a
    → (s : ℕ) × (slice_get splitters k ≡ Some s) × HasPlace Prefers chains s a
preferred_within Prefers splitters chains edges k a are is =
    ⊎_elim (λ lt.
    let in' : k < length splitters = omega (arith, are.count, lt) in
    let at = slice_get-get_or splitters k 0 in' in (
      get_or splitters k 0,
      at,
      subst (λ o. MatchOption o ((chain : Chain) → Contains chains chain → Prefers chain (get_or splitters k 0) → ⊥) (HasPlace Prefers chains (get_or splitters k 0))) is (are.each k (get_or splitters k 0) at),
    ))
    (λ ge. absurd (none-some a (sym (get_or-eq_default edges None ge) ∙ is)))
    (cases_lt k (length edges))

-- the edges that are preferred are the splitters' own
pub prioritised : (parts : List Part) (priorities : List Priority) (n : Network) (naming : Naming) (gives takes : List (Option ℕ)) (h : IsNumbered parts n naming)
    → ArePreferred (IsGivenFirst parts priorities) naming.splitters h.chains gives → ArePreferred (IsTakenFirst parts priorities) naming.splitters h.chains takes
    → n.merges ≡ replicate n.splitters false → IsPrioritised (preferring n gives takes)
prioritised parts priorities n naming gives takes h given taken even = record {
  gives_each = given.count ∙ sym h.names.splitter_count;
  takes_each = taken.count ∙ sym h.names.splitter_count;
  merges_each = ap length even ∙ length-replicate n.splitters false;
  gives = λ k a is.
      let s = preferred_within (IsGivenFirst parts priorities) naming.splitters h.chains gives k a given is in
      let e = zip_back (IsEdgeOf parts naming) h.chains n.edges a s.2.0 h.named s.2.1 in
      (e.0, e.1, leaves_passes k e.0 (start_of naming e.0.start k s.0 s.2.2.0 h.names.splitters.once s.1 (subst (λ x. IsStartOf naming x e.0.start) s.2.2.1 e.2.start)));
  takes = λ k a is.
      let s = preferred_within (IsTakenFirst parts priorities) naming.splitters h.chains takes k a taken is in
      let e = zip_back (IsEdgeOf parts naming) h.chains n.edges a s.2.0 h.named s.2.1 in
      (e.0, e.1, enters_passes k e.0 (target_of naming e.0.target k s.0 h.names.splitters.once s.1 (subst (λ x. IsTargetOf naming x e.0.target) s.2.2.1.sink e.2.target)));
  one_of_both = λ k any. absurd (let none : get_or n.merges k false ≡ false = ap (λ merges. get_or merges k false) even ∙ none_any n.splitters k in cc);
}

-- ---- one network

lists_same : (xs ys : List (Option ℕ)) → length xs ≡ length ys → ((k : ℕ) → k < length xs → get_or xs k None ≡ get_or ys k None) → xs ≡ ys
lists_same [] [] e h = refl
lists_same [] (y ∷ ys) e h = absurd (omega (arith, e))
lists_same (x ∷ xs) [] e h = absurd (omega (arith, e))
lists_same (x ∷ xs) (y ∷ ys) e h =
    let first : x ≡ y = h 0 (omega arith) in
    let others = lists_same xs ys (omega (arith, e)) (λ k small. h (suc k) (omega (arith, small))) in
    λ i. first i ∷ others i

one_pick : (Prefers : Chain → ℕ → Type 0) (chains : List Chain) (s : ℕ) → AllPairs ◌≢◌ chains → ((c d : Chain) → Contains chains c → Contains chains d → Prefers c s → Prefers d s → c ≡ d)
    → (o p : Option ℕ) → MatchOption o ((chain : Chain) → Contains chains chain → Prefers chain s → ⊥) (HasPlace Prefers chains s)
    → MatchOption p ((chain : Chain) → Contains chains chain → Prefers chain s → ⊥) (HasPlace Prefers chains s) → o ≡ p
one_pick Prefers chains s once one None None x y = refl
one_pick Prefers chains s once one None (Some b) x y = absurd (x y.0 (place_of chains b y.0 y.1) y.2)
one_pick Prefers chains s once one (Some a) None x y = absurd (y x.0 (place_of chains a x.0 x.1) x.2)
one_pick Prefers chains s once one (Some a) (Some b) x y =
    let same : y.0 ≡ x.0 = one y.0 x.0 (place_of chains b y.0 y.1) (place_of chains a x.0 x.1) y.2 x.2 in
    ap Some (one_place chains once a b x.0 x.1 (y.1 ∙ ap Some same))

one_preferred : (Prefers : Chain → ℕ → Type 0) (splitters : List ℕ) (chains : List Chain) → AllPairs ◌≢◌ chains → ((s : ℕ) (c d : Chain) → Contains chains c → Contains chains d → Prefers c s → Prefers d s → c ≡ d)
    → (xs ys : List (Option ℕ)) → ArePreferred Prefers splitters chains xs → ArePreferred Prefers splitters chains ys → xs ≡ ys
one_preferred Prefers splitters chains once one xs ys x y = lists_same xs ys (x.count ∙ sym y.count) (λ k lt.
    let at = slice_get-get_or splitters k 0 (omega (arith, x.count, lt)) in
    one_pick Prefers chains (get_or splitters k 0) once (one (get_or splitters k 0)) (get_or xs k None) (get_or ys k None) (x.each k (get_or splitters k 0) at) (y.each k (get_or splitters k 0) at))

one_half_on : (parts : List Part) (s : ℕ) (hand : Option Hand) (a b : Cell) → IsHalfOn parts s hand a → IsHalfOn parts s hand b → a ≡ b
one_half_on parts s None a b x y = absurd x.2
one_half_on parts s (Some hand) a b x y = x.2 ∙ ap (λ p. half_on hand p.dir p.cell) (same_part parts s x.0 y.0 x.1 y.1) ∙ sym y.2

pub one_given : (parts : List Part) (priorities : List Priority) → IsClean parts → (s : ℕ) (c d : Chain) → IsChain parts c → IsChain parts d → IsGivenFirst parts priorities c s → IsGivenFirst parts priorities d s → c ≡ d
one_given parts priorities clean s c d is_c is_d x y =
    chain_from parts clean.well_placed c d is_c is_d
    (x.1 ∙ ap (λ h. leaves s h) (one_half_on parts s (priority_of priorities s).give x.0 y.0 x.2 y.2) ∙ sym y.1)

-- what looks at a splitter looks in its direction
along_at : (parts : List Part) (p s : ℕ) (cell : Cell) (part : Part) → HasPart parts s part → part.kind ≡ Splitter → (feeds : FeedsFrom parts p cell s) → feeds.look.giver.part.dir ≡ part.dir
along_at parts p s cell part is_s splits feeds =
    let behind : feeds.side ≡ Behind = subst (λ k. TakesFrom k feeds.side) splits (takes_at parts p s cell part is_s feeds) in
    subst (λ x. ComesFrom feeds.look.giver.part.dir part.dir x) behind (comes_at parts p s cell part is_s feeds)

cell_behind : (parts : List Part) (chain : Chain) (s : ℕ) (half : Cell) (splitter : IsSplitter parts s) (x : EndsAtHalf parts chain s half) → x.cell ≡ step (opposite splitter.0.dir) half
cell_behind parts chain s half splitter x =
    near_end splitter.0.dir 1 x.cell half (x.faces ∙ ap (λ d. step d x.cell) (along_at parts x.giver s x.cell splitter.0 splitter.1 splitter.2 x.feeds))

hop_at : (parts : List Part) (chain : Chain) (s : ℕ) (half : Cell) → IsChain parts chain → (x : EndsAtHalf parts chain s half) → (hop : Hop parts chain s) × (hop.half ≡ x.cell)
hop_at parts chain s half is_chain x = (record { from_part = x.giver; half = x.cell; feeds = x.feeds; via = via is_chain x.hands_on }, refl)
  where
    via : IsChain parts chain → HandsOnFrom parts chain x.giver x.cell
        → ((h : IsLongest parts chain) × (h.last ≡ x.giver)) ⊎ ((h : IsEmptyChain parts chain) × (h.from ≡ x.giver) × (h.half ≡ x.cell))
    via (inl h) (inl p) = inl (h, paths_end parts h.first p.0 h.last x.giver chain.links h.path p.1)
    via (inl h) (inr q) = absurd (no_path parts h.first h.last chain.links h.path q.0)
    via (inr h) (inl p) = absurd (no_path parts p.0 x.giver chain.links p.1 h.no_link)
    via (inr h) (inr q) = let e = leaves_same h.from x.giver h.half x.cell (sym h.source ∙ q.1) in inr (h, e.0, e.1)

one_ending : (parts : List Part) → IsClean parts → (s : ℕ) (half : Cell) (c d : Chain) → IsSplitter parts s → IsChain parts c → IsChain parts d → EndsAtHalf parts c s half → EndsAtHalf parts d s half → c ≡ d
one_ending parts clean s half c d splitter is_c is_d x y =
    let f = hop_at parts c s half is_c x in
    let g = hop_at parts d s half is_d y in
    same_hop parts (orderly_of parts clean) c d s is_c is_d x.sink y.sink f.0 g.0
    (f.1 ∙ cell_behind parts c s half splitter x ∙ sym (cell_behind parts d s half splitter y) ∙ sym g.1)

pub one_taken : (parts : List Part) (priorities : List Priority) → IsClean parts → (s : ℕ) (c d : Chain) → IsSplitter parts s → IsChain parts c → IsChain parts d → IsTakenFirst parts priorities c s → IsTakenFirst parts priorities d s → c ≡ d
one_taken parts priorities clean s c d splitter is_c is_d x y =
    one_ending parts clean s y.0 c d splitter is_c is_d
    (subst (λ h. EndsAtHalf parts c s h) (one_half_on parts s (priority_of priorities s).take x.0 y.0 x.2 y.2) x.1) y.1

into_splitter_at : (parts : List Part) (chain : Chain) (s : ℕ) → IsChain parts chain → chain.sink ≡ enters s → IsSplitter parts s
into_splitter_at parts chain s (inl h) e = (subst (λ x. EndsAs parts x h.last) e h.ends).0
into_splitter_at parts chain s (inr h) e = subst (λ x. IsSplitter parts x) (enters_same h.to s (sym h.sink ∙ e)) h.is_to

-- a layout with priorities has one numbered network at most
same_preferring : (parts : List Part) (priorities : List Priority) (m n : Network) (naming : Naming) → IsPreferring parts priorities m naming → IsPreferring parts priorities n naming → m ≡ n
same_preferring parts priorities m n naming h k =
    let x = h.numbered in
    let y = k.numbered in
    let chains : x.chains ≡ y.chains = same_ascending (λ one other. ComesBefore one.source other.source) (λ c d. sources_asymmetric c.source d.source) x.chains y.chains x.in_order y.in_order
    (λ c there. y.each_once.all c (x.each_once.only c there)) (λ c there. x.each_once.all c (y.each_once.only c there)) in
    let alone : preferring m (none_each m.splitters) (none_each m.splitters) ≡ preferring n (none_each n.splitters) (none_each n.splitters) =
    same_network parts (preferring m (none_each m.splitters) (none_each m.splitters)) (preferring n (none_each n.splitters) (none_each n.splitters)) naming naming
    (record { gives = refl; takes = refl; merges = h.merges }) (record { gives = refl; takes = refl; merges = k.merges })
    (renumbered parts m naming (none_each m.splitters) (none_each m.splitters) x) (renumbered parts n naming (none_each n.splitters) (none_each n.splitters) y) in
    let gives : m.gives ≡ n.gives = one_preferred (IsGivenFirst parts priorities) naming.splitters x.chains x.each_once.once
    (λ s c d in_c in_d p q. one_given parts priorities x.clean s c d (x.each_once.only c in_c) (x.each_once.only d in_d) p q) m.gives n.gives h.gives
    (subst (λ cs. ArePreferred (IsGivenFirst parts priorities) naming.splitters cs n.gives) (sym chains) k.gives) in
    let takes : m.takes ≡ n.takes = one_preferred (IsTakenFirst parts priorities) naming.splitters x.chains x.each_once.once
    (λ s c d in_c in_d p q.
    one_taken parts priorities x.clean s c d (into_splitter_at parts c s (x.each_once.only c in_c) p.1.sink) (x.each_once.only c in_c) (x.each_once.only d in_d) p q) m.takes n.takes h.takes
    (subst (λ cs. ArePreferred (IsTakenFirst parts priorities) naming.splitters cs n.takes) (sym chains) k.takes) in
    ap (λ w. preferring w m.gives m.takes) alone ∙ ap (λ g. preferring n g m.takes) gives ∙ ap (λ t. preferring n n.gives t) takes

pub one_preferring : (parts : List Part) (priorities : List Priority) (m n : Network) (a b : Naming) → IsPreferring parts priorities m a → IsPreferring parts priorities n b → (m ≡ n) × (a ≡ b)
one_preferring parts priorities m n a b h k =
    let naming : a ≡ b = same_naming parts m n a b h.numbered k.numbered in
    (same_preferring parts priorities m n b (subst (λ x. IsPreferring parts priorities m x) naming h) k, naming)

-- ---- one right answer

-- its network without what is preferred is what is recovered without priorities
alone_recovered : (parts : List Part) (priorities : List Priority) (n : Network) (naming : Naming) → IsPreferring parts priorities n naming → IsNetwork n
    → IsRecovered parts (Ok (preferring n (none_each n.splitters) (none_each n.splitters), naming))
alone_recovered parts priorities n naming h is =
    let plain : HasNoPriorities (preferring n (none_each n.splitters) (none_each n.splitters)) = record { gives = refl; takes = refl; merges = h.merges } in (
      renumbered parts n naming (none_each n.splitters) (none_each n.splitters) h.numbered,
      preferring_network n (none_each n.splitters) (none_each n.splitters) is (plain_is_prioritised (preferring n (none_each n.splitters) (none_each n.splitters)) plain),
      plain,
    )

abbrev Told : Type 0
Told = Result (Network × Naming) RecoverFault

not_fault : (parts : List Part) (priorities : List Priority) (n : Network) (naming : Naming) (fault : RecoverFault) → IsPreferring parts priorities n naming → IsNetwork n → IsRecovered parts (Err fault) → ⊥
not_fault parts priorities n naming fault h is other =
    let found : Network × Naming = (preferring n (none_each n.splitters) (none_each n.splitters), naming) in
    let told : Told = Ok found in
    let refused : Told = Err fault in
    let e : told ≡ refused = one_recovery parts told refused (alone_recovered parts priorities n naming h is) other in
    absurd cc

abbrev found_as : Network → Naming → Network × Naming
found_as n naming = (n, naming)

pub one_recovery_with : (parts : List Part) (priorities : List Priority) → HasOneAnswer (IsRecoveredWith parts priorities)
one_recovery_with parts priorities (Ok p) (Ok q) h k =
    let same = one_preferring parts priorities p.0 q.0 p.1 q.1 h.0 k.0 in
    ap (λ n. Ok (found_as n p.1)) same.0 ∙ ap (λ naming. Ok (found_as q.0 naming)) same.1
one_recovery_with parts priorities (Ok p) (Err f) h k = absurd (not_fault parts priorities p.0 p.1 f h.0 h.1 k)
one_recovery_with parts priorities (Err f) (Ok q) h k = absurd (not_fault parts priorities q.0 q.1 f k.0 k.1 h)
one_recovery_with parts priorities (Err f) (Err g) h k = one_recovery parts (Err f) (Err g) h k

pub recovery_with_answers : (parts : List Part) (priorities : List Priority) (told : Told) → UnlessMemory Memory (IsRecoveredWith parts priorities) told → Answers Memory (IsRecoveredWith parts priorities) told
recovery_with_answers parts priorities told right = answers_of Memory (IsRecoveredWith parts priorities) (one_recovery_with parts priorities) told right

-- ---- what was found

pub found_recovered : (parts : List Part) (found : Found) → HasJoints parts found → IsRecovered parts (Ok (found.net, naming_of found.names))
found_recovered parts found h =
    let edges = map (λ joint. joint.edge) found.joints.items in
    let numbered_here = numbered_of parts h.clean (naming_of found.names) edges found.joints.items h.names refl h.joints in (
      subst (λ n. IsNumbered parts n (naming_of found.names)) (sym h.net_is) numbered_here,
      h.network,
      subst HasNoPriorities (sym h.net_is) (record { gives = refl; takes = refl; merges = refl }),
    )

-- what is preferred by the halves of the edges is preferred in the numbered network
pub found_with : (parts : List Part) (priorities : List Priority) (found : Found) (gives takes : List (Option ℕ)) → HasJoints parts found
    → ((naming : Naming) (chains : List Chain) → naming.splitters ≡ found.names.splitters.items → AllZip (IsJoint parts naming) chains found.joints.items
    → ArePreferred (IsGivenFirst parts priorities) found.names.splitters.items chains gives)
    → ((naming : Naming) (chains : List Chain) → naming.splitters ≡ found.names.splitters.items → AllZip (IsJoint parts naming) chains found.joints.items
    → ArePreferred (IsTakenFirst parts priorities) found.names.splitters.items chains takes)
    → IsPrioritised (preferring found.net gives takes) × IsRecoveredWith parts priorities (Ok (preferring found.net gives takes, naming_of found.names))
found_with parts priorities found gives takes h given taken =
    let naming = naming_of found.names in
    let edges = map (λ joint. joint.edge) found.joints.items in
    let n = net_with naming edges in
    let numbered_here = numbered_joints parts h.clean naming found.joints.items h.names h.joints in
    let gives_are = given naming h.joints.0 refl h.joints.1.named in
    let takes_are = taken naming h.joints.0 refl h.joints.1.named in
    let own : IsPrioritised (preferring n gives takes) = prioritised parts priorities n naming gives takes numbered_here gives_are takes_are refl in
    let numbered_so : IsPreferring parts priorities (preferring n gives takes) naming =
    record { numbered = renumbered parts n naming gives takes numbered_here; gives = gives_are; takes = takes_are; merges = refl } in
    let own_here : IsPrioritised (preferring found.net gives takes) = subst (λ m. IsPrioritised (preferring m gives takes)) (sym h.net_is) own in (
      own_here,
      (subst (λ m. IsPreferring parts priorities (preferring m gives takes) naming) (sym h.net_is) numbered_so, preferring_network found.net gives takes h.network own_here),
    )

-- ---- without priorities

none_listed : (edges : List (Option ℕ)) (count : ℕ) → length edges ≡ count → ((k : ℕ) → k < count → get_or edges k None ≡ None) → edges ≡ none_each count
none_listed [] zero is none = refl
none_listed [] (suc c) is none = absurd (omega (arith, is))
none_listed (e ∷ edges) zero is none = absurd (omega (arith, is))
none_listed (e ∷ edges) (suc c) is none =
    let first : e ≡ None = none 0 (omega arith) in
    let others = none_listed edges c (omega (arith, is)) (λ k small. none (suc k) (omega (arith, small))) in
    λ i. first i ∷ others i

none_of : (Prefers : Chain → ℕ → Type 0) (chains : List Chain) (s : ℕ) (o : Option ℕ) → ((c : Chain) (t : ℕ) → Prefers c t → ⊥) → MatchOption o ((chain : Chain) → Contains chains chain → Prefers chain s → ⊥) (HasPlace Prefers chains s)
    → o ≡ None
none_of Prefers chains s None never is = refl
none_of Prefers chains s (Some a) never is = absurd (never is.0 s is.2)

never_preferred : (Prefers : Chain → ℕ → Type 0) (splitters : List ℕ) (chains : List Chain) (edges : List (Option ℕ)) (count : ℕ) → count ≡ length splitters → ((c : Chain) (s : ℕ) → Prefers c s → ⊥)
    → ArePreferred Prefers splitters chains edges → edges ≡ none_each count
never_preferred Prefers splitters chains edges count is never are = none_listed edges count (are.count ∙ sym is) (λ k lt.
    let at = slice_get-get_or splitters k 0 (omega (arith, is, lt)) in
    none_of Prefers chains (get_or splitters k 0) (get_or edges k None) never (are.each k (get_or splitters k 0) at))

never_on : (parts : List Part) (s : ℕ) (hand : Option Hand) (half : Cell) → hand ≡ None → IsHalfOn parts s hand half → ⊥
never_on parts s hand half none on = (subst (λ h. IsHalfOn parts s h half) none on).2

-- where no part has a priority, what is recovered with priorities is what is recovered without
pub plain_recovery : (parts : List Part) (priorities : List Priority) → ((i : ℕ) → priority_of priorities i ≡ no_priority) → (told : Told) → IsRecoveredWith parts priorities told → IsRecovered parts told
plain_recovery parts priorities none (Ok found) h = (
  h.0.numbered,
  h.1,
  record {
    gives = never_preferred (IsGivenFirst parts priorities) found.1.splitters h.0.numbered.chains found.0.gives found.0.splitters h.0.numbered.names.splitter_count
        (λ c s given. never_on parts s (priority_of priorities s).give given.0 (ap (λ p. p.give) (none s)) given.2) h.0.gives;
    takes = never_preferred (IsTakenFirst parts priorities) found.1.splitters h.0.numbered.chains found.0.takes found.0.splitters h.0.numbered.names.splitter_count
        (λ c s taken. never_on parts s (priority_of priorities s).take taken.0 (ap (λ p. p.take) (none s)) taken.2) h.0.takes;
    merges = h.0.merges;
  },
)
plain_recovery parts priorities none (Err fault) h = h
