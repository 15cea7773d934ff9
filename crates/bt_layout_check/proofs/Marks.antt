-- Networks whose edges have the same marks prefer the same of the chains of a layout.
use Rattle.std.proofs.Common.{◌≡◌, ◌≢◌, ◌↔◌, ℕ, zero, suc, ◌<◌, Bool, true, false, IsTrue, List, [], ◌∷◌, ◌++◌, length, get_or, Option, Some, None, slice_get, slice_index_or, refl, sym, ◌∙◌, ap, subst, ⊎_elim, IsPermutation, arith}
use Rattle.std.specs.Prelude.{MatchOption}
use Rattle.std.specs.List.{AllPairs, AllZip, Contains}
use Rattle.std.proofs.lemmas.Bool.{cases_lt, eqb-true, false≢true}
use Rattle.std.proofs.lemmas.Option.{get_or_from_slice_get, none-some, same_Some, slice_get-get_or, slice_get_within}
use Rattle.std.proofs.lemmas.List.{get_or_append_left, get_or_push, length_push}
use Rattle.std.proofs.lemmas.List.Sorted.{Contains-permutation, IsPermutation-refl, IsPermutation-sym}
use Rattle.bt_parts.specs.declared.hand.Priority.{Priority}
use Rattle.bt_parts.specs.declared.part.Part.{Part}
use Rattle.bt_net.specs.declared.network.Edge.{Edge}
use Rattle.bt_net.specs.declared.network.Start.{Start}
use Rattle.bt_net.specs.declared.network.Start.TheVariants as from
use Rattle.bt_net.specs.declared.network.Target.{Target}
use Rattle.bt_net.specs.declared.network.Target.TheVariants as to
use Rattle.bt_net.specs.Network.{Network, IsNetwork, EndsIn, StartsIn, enters, leaves, preferred_in}
use Rattle.bt_model.specs.Chains.{Chain, IsChain, IsSplitter}
use Rattle.bt_model.specs.Chains as model
use Rattle.bt_model.specs.Preferring.{ArePreferred, IsGivenFirst, IsTakenFirst, ShowsPreferring}
use Rattle.bt_model.specs.Shown.{Naming, IsNaming, IsEdgeOf, IsStartOf, IsTargetOf, Shows}
use Rattle.bt_model.specs.Speeds.{IsCapOf}
use Rattle.bt_model.proofs.Places.{zip_length}
use Rattle.bt_model.proofs.SpeedLemmas.{same_cap}
use Rattle.bt_model.proofs.Sorted.{one_place}
use Rattle.bt_recover.specs.Preferred.{IsPreferring}
use Rattle.bt_recover.proofs.PreferLemmas.{one_given, one_taken, zip_get}
use Rattle.bt_layout_check.specs.declared.preferring.Marked.{Marked}
use Rattle.bt_layout_check.specs.inner.Joins.{start_part, target_part}
use Rattle.bt_layout_check.specs.inner.Marks.{AreMarkedAs, AreMarks, IsGivenAt, IsMarkOf, IsTakenAt}
use Rattle.bt_layout_check.proofs.Listing.{along, each_moved, each_rearranged}
use Rattle.bt_layout_check.proofs.Renamed.{sink_enters, sink_part, sink_splits, source_leaves, source_part, source_splits, start_at, start_from, target_at, target_from}

-- what holds of all at their places holds with one more behind them
pub placed_more : {X : Type 0} (P : ℕ → X → Type 0) (xs : List X) (x : X) (n : ℕ) → length xs ≡ n → ((k : ℕ) (d : X) → k < length xs → P k (get_or xs k d)) → P n x
    → (k : ℕ) (d : X) → k < length (xs ++ x ∷ []) → P k (get_or (xs ++ x ∷ []) k d)
placed_more P xs x n long before here k d lt =
    let size = length_push xs x in
    ⊎_elim (λ below. subst (P k) (sym (get_or_append_left xs (x ∷ []) d k below)) (before k d below))
    (λ above. let same : n ≡ k = omega (arith, long, size, lt, above) in
    subst (λ j. P j (get_or (xs ++ x ∷ []) j d)) same (subst (P n) (sym (get_or_push xs x d n long)) here))
    (cases_lt k (length xs))

-- two lists agree where they do at each place
pub zipped_at : {X Y : Type 0} (R : X → Y → Type 0) (xs : List X) (ys : List Y) → length xs ≡ length ys
    → ((k : ℕ) (x : X) (y : Y) → slice_get xs k ≡ Some x → slice_get ys k ≡ Some y → R x y) → AllZip R xs ys
zipped_at R [] [] e h = tt
zipped_at R [] (y ∷ ys) e h = absurd (omega (arith, e))
zipped_at R (x ∷ xs) [] e h = absurd (omega (arith, e))
zipped_at R (x ∷ xs) (y ∷ ys) e h = (h 0 x y refl refl, zipped_at R xs ys (omega (arith, e)) (λ k v w at_v at_w. h (suc k) v w at_v at_w))

-- what stands beside one of the first list
pub zip_right : {X Y : Type 0} (R : X → Y → Type 0) (xs : List X) (ys : List Y) (i : ℕ) (x : X) → AllZip R xs ys → slice_get xs i ≡ Some x → (y : Y) × (slice_get ys i ≡ Some y) × R x y
zip_right R [] [] i x z at = absurd (none-some x at)
zip_right R [] (w ∷ ws) i x z at = absurd z
zip_right R (v ∷ xs) [] i x z at = absurd z
zip_right R (v ∷ xs) (w ∷ ws) zero x z at = (w, refl, subst (λ t. R t w) (same_Some v x at) z.0)
zip_right R (v ∷ xs) (w ∷ ws) (suc i) x z at = zip_right R xs ws i x z.1 at

pub contained : {X : Type 0} (xs : List X) (k : ℕ) (x : X) → slice_get xs k ≡ Some x → Contains xs x
contained xs k x at = (k, slice_get_within xs k x at, get_or_from_slice_get xs k x x at)

pub marked_at : (naming : Naming) (net : Network) (marks : List Marked) (k : ℕ) (mark : Marked) → AreMarks naming net marks → slice_get marks k ≡ Some mark → IsMarkOf naming net k mark
marked_at naming net marks k mark are at = subst (IsMarkOf naming net k) (get_or_from_slice_get marks k mark mark at) (are.each k mark (slice_get_within marks k mark at))

-- the one that is found, where there is one
some_of : {X : Type 0} (o : Option X) (x : X) (N : Type 0) (S : X → Type 0) → o ≡ Some x → MatchOption o N S → S x
some_of None x N S e h = absurd (none-some x e)
some_of (Some y) x N S e h = subst S (same_Some y x e) h

none_of : {X : Type 0} (o : Option X) (N : Type 0) (S : X → Type 0) → o ≡ None → MatchOption o N S → N
none_of None N S e h = h
none_of (Some y) N S e h = absurd (none-some y (sym e))

-- the mark is one of the chain
pub record IsMarkedChain (parts : List Part) (priorities : List Priority) (mark : Marked) (chain : Chain) : Type 0 where
  pub is_chain : IsChain parts chain
  pub start : mark.start ≡ source_part chain.source
  pub target : mark.target ≡ sink_part chain.sink
  pub cap : IsCapOf parts chain mark.cap
  pub given : IsTrue mark.given ↔ ((s : ℕ) × IsGivenFirst parts priorities chain s)
  pub taken : IsTrue mark.taken ↔ ((s : ℕ) × IsTakenFirst parts priorities chain s)

-- where each splitter prefers one chain at most, it prefers the edge at the place of the chain that it prefers
edge_at : (Prefers : Chain → ℕ → Type 0) (splitters : List ℕ) (chains : List Chain) (edges : List (Option ℕ)) → ArePreferred Prefers splitters chains edges → AllPairs ◌≢◌ chains
    → (s : ℕ) → ((c d : Chain) → Contains chains c → Contains chains d → Prefers c s → Prefers d s → c ≡ d)
    → (j k : ℕ) (chain : Chain) → slice_get splitters j ≡ Some s → slice_get chains k ≡ Some chain → Prefers chain s → preferred_in edges j ≡ Some k
edge_at Prefers splitters chains edges are once s one j k chain at has prefers = by (preferred_in edges j) refl
  where
    by : (o : Option ℕ) → preferred_in edges j ≡ o → preferred_in edges j ≡ Some k
    by None e = absurd (none_of (preferred_in edges j) ((c : Chain) → Contains chains c → Prefers c s → ⊥)
        (λ a. (c : Chain) × (slice_get chains a ≡ Some c) × Prefers c s) e (are.each j s at) chain (contained chains k chain has) prefers)
    by (Some a) e =
        let found = some_of (preferred_in edges j) a ((c : Chain) → Contains chains c → Prefers c s → ⊥)
        (λ a. (c : Chain) × (slice_get chains a ≡ Some c) × Prefers c s) e (are.each j s at) in
        let same : found.0 ≡ chain = one found.0 chain (contained chains a found.0 found.1) (contained chains k chain has) found.2 prefers in
        e ∙ ap Some (one_place chains once a k chain (found.1 ∙ ap Some same) has)

module _ (parts : List Part) (priorities : List Priority) (m : Network) (own : Naming) (h : ShowsPreferring parts priorities m own) where
  preferred_chain : (Prefers : Chain → ℕ → Type 0) (edges : List (Option ℕ)) → ArePreferred Prefers own.splitters h.chains edges → (j k : ℕ) (chain : Chain)
      → j < length own.splitters → preferred_in edges j ≡ Some k → slice_get h.chains k ≡ Some chain → (s : ℕ) × Prefers chain s
  preferred_chain Prefers edges are j k chain inside e at =
      let s = get_or own.splitters j 0 in
      let found = some_of (preferred_in edges j) k ((c : Chain) → Contains h.chains c → Prefers c s → ⊥)
      (λ a. (c : Chain) × (slice_get h.chains a ≡ Some c) × Prefers c s) e (are.each j s (slice_get-get_or own.splitters j 0 inside)) in
      (s, subst (λ c. Prefers c s) (same_Some found.0 chain (sym found.1 ∙ at)) found.2)

  given_chain : (k : ℕ) (chain : Chain) (start : Start) → StartsIn m start → IsGivenAt m k start → slice_get h.chains k ≡ Some chain
      → (s : ℕ) × IsGivenFirst parts priorities chain s
  given_chain k chain (from.Input i) inside given at = absurd given
  given_chain k chain (from.Split j) inside given at =
      let count = h.names.splitter_count in preferred_chain (IsGivenFirst parts priorities) m.gives h.gives j k chain (omega (arith, count, inside)) given at

  taken_chain : (k : ℕ) (chain : Chain) (target : Target) → EndsIn m target → IsTakenAt m k target → slice_get h.chains k ≡ Some chain
      → (s : ℕ) × IsTakenFirst parts priorities chain s
  taken_chain k chain (to.Output o) inside taken at = absurd taken
  taken_chain k chain (to.Split j) inside taken at =
      let count = h.names.splitter_count in preferred_chain (IsTakenFirst parts priorities) m.takes h.takes j k chain (omega (arith, count, inside)) taken at

  chain_of : (c : Chain) → Contains h.chains c → IsChain parts c
  chain_of c there = h.each_once.only c there

  -- the edge of a chain that is preferred is the one that the splitter prefers
  given_edge_at : (k : ℕ) (chain : Chain) (s : ℕ) (start : Start) → slice_get h.chains k ≡ Some chain → IsGivenFirst parts priorities chain s → IsStartOf own chain.source start → IsGivenAt m k start
  given_edge_at k chain s start at given is = by start (subst (λ x. IsStartOf own x start) given.1 is)
    where
      by : (start : Start) → IsStartOf own (model.leaves s given.0) start → IsGivenAt m k start
      by (from.Input i) none = absurd none
      by (from.Split j) named = edge_at (IsGivenFirst parts priorities) own.splitters h.chains m.gives h.gives h.each_once.once s
          (λ c d in_c in_d p q. one_given parts priorities h.clean s c d (chain_of c in_c) (chain_of d in_d) p q) j k chain named at given

  taken_edge_at : (k : ℕ) (chain : Chain) (s : ℕ) (target : Target) → slice_get h.chains k ≡ Some chain → IsTakenFirst parts priorities chain s → IsTargetOf own chain.sink target → IsTakenAt m k target
  taken_edge_at k chain s target at taken is = by target (subst (λ x. IsTargetOf own x target) taken.1.sink is)
    where
      by : (target : Target) → IsTargetOf own (model.enters s) target → IsTakenAt m k target
      by (to.Output o) none = absurd none
      by (to.Split j) named = edge_at (IsTakenFirst parts priorities) own.splitters h.chains m.takes h.takes h.each_once.once s
          (λ c d in_c in_d p q. one_taken parts priorities h.clean s c d (sink_splits parts c (chain_of c in_c) s p.1.sink) (chain_of c in_c) (chain_of d in_d) p q) j k chain named at taken

  pub own_marks : IsNetwork m → (marks : List Marked) → AreMarks own m marks → AllZip (IsMarkedChain parts priorities) marks h.chains
  own_marks is marks are =
      let long = zip_length (IsEdgeOf parts own) h.chains m.edges h.named in
      let count = are.count in
      zipped_at (IsMarkedChain parts priorities) marks h.chains (omega (arith, long, count)) (λ k mark chain at_mark at_chain.
      let is_mark = marked_at own m marks k mark are at_mark in
      let found = zip_get (IsEdgeOf parts own) h.chains m.edges k is_mark.edge h.named is_mark.at in
      let edge_of : IsEdgeOf parts own chain is_mark.edge = subst (λ c. IsEdgeOf parts own c is_mark.edge) (same_Some found.0 chain (sym found.1 ∙ at_chain)) found.2 in
      let within = slice_get_within m.edges k is_mark.edge is_mark.at in
      let e = get_or_from_slice_get m.edges k is_mark.edge is_mark.edge is_mark.at in
      record {
        is_chain = h.each_once.only chain (contained h.chains k chain at_chain);
        start = is_mark.start ∙ start_at own chain.source is_mark.edge.start edge_of.start;
        target = is_mark.target ∙ target_at own chain.sink is_mark.edge.target edge_of.target;
        cap = subst (λ c. IsCapOf parts chain c) (sym is_mark.cap) edge_of.cap;
        given = (
          λ t. given_chain k chain is_mark.edge.start (subst (λ f. StartsIn m f.start) e (is.wired.starts k is_mark.edge within)) (is_mark.given.0 t) at_chain,
          λ p. is_mark.given.1 (given_edge_at k chain p.0 is_mark.edge.start at_chain p.1 edge_of.start),
        );
        taken = (
          λ t. taken_chain k chain is_mark.edge.target (subst (λ f. EndsIn m f.target) e (is.wired.targets k is_mark.edge within)) (is_mark.taken.0 t) at_chain,
          λ p. is_mark.taken.1 (taken_edge_at k chain p.0 is_mark.edge.target at_chain p.1 edge_of.target),
        );
      })

  -- one side of the splitters: what is given, or what is taken
  module _ (net : Network) (naming : Naming) (names : IsNaming parts net naming) (first second : List Marked) (moved : IsPermutation first second)
      (own_zip : AllZip (IsMarkedChain parts priorities) first h.chains) (chains : List Chain) (reordered : IsPermutation h.chains chains) (zip : AllZip (IsMarkedChain parts priorities) second chains)
      (Prefers : Chain → ℕ → Type 0) (chain_part : Chain → ℕ) (flag : Marked → Bool) (mark_part : Marked → ℕ)
      (at_part : (c : Chain) (s : ℕ) → Prefers c s → chain_part c ≡ s) (is_splitter : (c : Chain) (s : ℕ) → IsChain parts c → Prefers c s → IsSplitter parts s)
      (part_marked : (mark : Marked) (c : Chain) → IsMarkedChain parts priorities mark c → mark_part mark ≡ chain_part c)
      (flag_marked : (mark : Marked) (c : Chain) → IsMarkedChain parts priorities mark c → IsTrue (flag mark) → (s : ℕ) × Prefers c s)
      (own_edges net_edges : List (Option ℕ)) (own_preferred : ArePreferred Prefers own.splitters h.chains own_edges)
      (own_flag : (j k : ℕ) (mark : Marked) → slice_get first k ≡ Some mark → preferred_in own_edges j ≡ Some k → IsTrue (flag mark))
      (count : length net_edges ≡ length naming.splitters)
      (net_some : (k a : ℕ) → preferred_in net_edges k ≡ Some a → (mark : Marked) × (slice_get second a ≡ Some mark) × IsTrue (flag mark) × (mark_part mark ≡ slice_index_or naming.splitters k 0))
      (net_flag : (a : ℕ) (mark : Marked) → slice_get second a ≡ Some mark → IsTrue (flag mark)
      → (k : ℕ) × (k < length naming.splitters) × (preferred_in net_edges k ≡ Some a) × (mark_part mark ≡ slice_index_or naming.splitters k 0)) where
    -- what a splitter prefers of its chains, the network's splitter prefers some edge for
    preferred_edge : (k s : ℕ) → slice_get naming.splitters k ≡ Some s → (chain : Chain) → Contains chains chain → Prefers chain s → (a : ℕ) × (preferred_in net_edges k ≡ Some a)
    preferred_edge k s at chain there prefers =
        let before : Contains h.chains chain = Contains-permutation chains h.chains chain (IsPermutation-sym h.chains chains reordered) there in
        let number = h.names.splitters.all s (is_splitter chain s (h.each_once.only chain before) prefers) in
        let own_at : slice_get own.splitters number.0 ≡ Some s = slice_get-get_or own.splitters number.0 s number.1 ∙ ap Some number.2 in
        by number.0 (preferred_in own_edges number.0) refl own_at before
      where
        by : (j : ℕ) (o : Option ℕ) → preferred_in own_edges j ≡ o → slice_get own.splitters j ≡ Some s → Contains h.chains chain → (a : ℕ) × (preferred_in net_edges k ≡ Some a)
        by j None e own_at before = absurd (none_of (preferred_in own_edges j) ((c : Chain) → Contains h.chains c → Prefers c s → ⊥)
            (λ a. (c : Chain) × (slice_get h.chains a ≡ Some c) × Prefers c s) e (own_preferred.each j s own_at) chain before prefers)
        by j (Some b) e own_at before =
            let found = some_of (preferred_in own_edges j) b ((c : Chain) → Contains h.chains c → Prefers c s → ⊥)
            (λ a. (c : Chain) × (slice_get h.chains a ≡ Some c) × Prefers c s) e (own_preferred.each j s own_at) in
            let marked = zip_get (IsMarkedChain parts priorities) first h.chains b found.0 own_zip found.1 in
            let mark = marked.0 in
            let part : mark_part mark ≡ s = part_marked mark found.0 marked.2 ∙ at_part found.0 s found.2 in
            let later = Contains-permutation first second mark moved (contained first b mark marked.1) in
            let later_at : slice_get second later.0 ≡ Some mark = slice_get-get_or second later.0 mark later.1 ∙ ap Some later.2 in
            let edge = net_flag later.0 mark later_at (own_flag j b mark marked.1 e) in
            let named : slice_get naming.splitters edge.0 ≡ Some s = slice_get-get_or naming.splitters edge.0 0 edge.1 ∙ ap Some (sym edge.3 ∙ part) in
            let same : edge.0 ≡ k = one_place naming.splitters names.splitters.once edge.0 k s named at in
            (later.0, subst (λ n. preferred_in net_edges n ≡ Some later.0) same edge.2)

    preferred_side : ArePreferred Prefers naming.splitters chains net_edges
    preferred_side = record { count = count; each = λ k s at. by k s at (preferred_in net_edges k) refl } where
      by : (k s : ℕ) → slice_get naming.splitters k ≡ Some s → (o : Option ℕ) → preferred_in net_edges k ≡ o
          → MatchOption o ((c : Chain) → Contains chains c → Prefers c s → ⊥) (λ a. (c : Chain) × (slice_get chains a ≡ Some c) × Prefers c s)
      by k s at None e = λ c there prefers. let edge = preferred_edge k s at c there prefers in none-some edge.0 (sym e ∙ edge.1)
      by k s at (Some a) e =
          let marked = net_some k a e in
          let beside = zip_right (IsMarkedChain parts priorities) second chains a marked.0 zip marked.1 in
          let prefers = flag_marked marked.0 beside.0 beside.2 marked.2 in
          let same : prefers.0 ≡ s =
          sym (at_part beside.0 prefers.0 prefers.1) ∙ sym (part_marked marked.0 beside.0 beside.2) ∙ marked.3 ∙ get_or_from_slice_get naming.splitters k s 0 at in
          (beside.0, beside.1, subst (Prefers beside.0) same prefers.1)

-- an edge that leaves a splitter starts there
pub starts_there : (k : ℕ) (edge : Edge) → IsTrue (leaves k edge) → edge.start ≡ from.Split k
starts_there k edge t = by edge.start refl t where
  by : (start : Start) → edge.start ≡ start → IsTrue (leaves k edge) → edge.start ≡ from.Split k
  by (from.Split j) e u = e ∙ ap from.Split (eqb-true j k (subst (λ s. IsTrue (leaves k (record { start = s; target = edge.target; cap = edge.cap }))) e u))
  by (from.Input i) e u = absurd (let v = subst (λ s. IsTrue (leaves k (record { start = s; target = edge.target; cap = edge.cap }))) e u in cc)

pub ends_there : (k : ℕ) (edge : Edge) → IsTrue (enters k edge) → edge.target ≡ to.Split k
ends_there k edge t = by edge.target refl t where
  by : (target : Target) → edge.target ≡ target → IsTrue (enters k edge) → edge.target ≡ to.Split k
  by (to.Split j) e u = e ∙ ap to.Split (eqb-true j k (subst (λ s. IsTrue (enters k (record { start = edge.start; target = s; cap = edge.cap }))) e u))
  by (to.Output o) e u = absurd (let v = subst (λ s. IsTrue (enters k (record { start = edge.start; target = s; cap = edge.cap }))) e u in cc)

module _ (naming : Naming) (net : Network) (is : IsNetwork net) (marks : List Marked) (are : AreMarks naming net marks) where
  -- the mark of an edge
  mark_there : (a : ℕ) (edge : Edge) → slice_get net.edges a ≡ Some edge → (mark : Marked) × (slice_get marks a ≡ Some mark) × (is_mark : IsMarkOf naming net a mark) × (is_mark.edge ≡ edge)
  mark_there a edge at =
      let within = slice_get_within net.edges a edge at in let count = are.count in
      let mark = get_or marks a zero_mark in
      let has : slice_get marks a ≡ Some mark = slice_get-get_or marks a zero_mark (omega (arith, within, count)) in
      let is_mark = marked_at naming net marks a mark are has in
      (mark, has, is_mark, same_Some is_mark.edge edge (sym is_mark.at ∙ at))
    where
      zero_mark : Marked
      zero_mark = record { start = 0; target = 0; cap = 0; given = true; taken = true }

  given_flag : (j k : ℕ) (mark : Marked) → slice_get marks k ≡ Some mark → preferred_in net.gives j ≡ Some k → IsTrue mark.given
  given_flag j k mark at e =
      let is_mark = marked_at naming net marks k mark are at in
      let edge = is.prioritised.gives j k e in
      let same : is_mark.edge ≡ edge.0 = same_Some is_mark.edge edge.0 (sym is_mark.at ∙ edge.1) in
      let start : is_mark.edge.start ≡ from.Split j = ap (λ f. f.start) same ∙ starts_there j edge.0 edge.2 in
      is_mark.given.1 (subst (IsGivenAt net k) (sym start) e)

  taken_flag : (j k : ℕ) (mark : Marked) → slice_get marks k ≡ Some mark → preferred_in net.takes j ≡ Some k → IsTrue mark.taken
  taken_flag j k mark at e =
      let is_mark = marked_at naming net marks k mark are at in
      let edge = is.prioritised.takes j k e in
      let same : is_mark.edge ≡ edge.0 = same_Some is_mark.edge edge.0 (sym is_mark.at ∙ edge.1) in
      let target : is_mark.edge.target ≡ to.Split j = ap (λ f. f.target) same ∙ ends_there j edge.0 edge.2 in
      is_mark.taken.1 (subst (IsTakenAt net k) (sym target) e)

  pub given_some : (k a : ℕ) → preferred_in net.gives k ≡ Some a
      → (mark : Marked) × (slice_get marks a ≡ Some mark) × IsTrue mark.given × (mark.start ≡ slice_index_or naming.splitters k 0)
  given_some k a e =
      let edge = is.prioritised.gives k a e in
      let there = mark_there a edge.0 edge.1 in
      (there.0, there.1, given_flag k a there.0 there.1 e, there.2.start ∙ ap (start_part naming) (ap (λ f. f.start) there.3 ∙ starts_there k edge.0 edge.2))

  pub taken_some : (k a : ℕ) → preferred_in net.takes k ≡ Some a
      → (mark : Marked) × (slice_get marks a ≡ Some mark) × IsTrue mark.taken × (mark.target ≡ slice_index_or naming.splitters k 0)
  taken_some k a e =
      let edge = is.prioritised.takes k a e in
      let there = mark_there a edge.0 edge.1 in
      (there.0, there.1, taken_flag k a there.0 there.1 e, there.2.target ∙ ap (target_part naming) (ap (λ f. f.target) there.3 ∙ ends_there k edge.0 edge.2))

  module _ (count : net.splitters ≡ length naming.splitters) where
    pub given_edge : (a : ℕ) (mark : Marked) → slice_get marks a ≡ Some mark → IsTrue mark.given
        → (k : ℕ) × (k < length naming.splitters) × (preferred_in net.gives k ≡ Some a) × (mark.start ≡ slice_index_or naming.splitters k 0)
    given_edge a mark at t =
        let is_mark = marked_at naming net marks a mark are at in
        let e = get_or_from_slice_get net.edges a is_mark.edge is_mark.edge is_mark.at in
        let within = slice_get_within net.edges a is_mark.edge is_mark.at in
        by is_mark.edge.start (is_mark.given.0 t) (subst (λ f. StartsIn net f.start) e (is.wired.starts a is_mark.edge within)) is_mark.start
      where
        by : (start : Start) → IsGivenAt net a start → StartsIn net start → mark.start ≡ start_part naming start
            → (k : ℕ) × (k < length naming.splitters) × (preferred_in net.gives k ≡ Some a) × (mark.start ≡ slice_index_or naming.splitters k 0)
        by (from.Input i) given inside e = absurd given
        by (from.Split k) given inside e = (k, omega (arith, count, inside), given, e)

    pub taken_edge : (a : ℕ) (mark : Marked) → slice_get marks a ≡ Some mark → IsTrue mark.taken
        → (k : ℕ) × (k < length naming.splitters) × (preferred_in net.takes k ≡ Some a) × (mark.target ≡ slice_index_or naming.splitters k 0)
    taken_edge a mark at t =
        let is_mark = marked_at naming net marks a mark are at in
        let e = get_or_from_slice_get net.edges a is_mark.edge is_mark.edge is_mark.at in
        let within = slice_get_within net.edges a is_mark.edge is_mark.at in
        by is_mark.edge.target (is_mark.taken.0 t) (subst (λ f. EndsIn net f.target) e (is.wired.targets a is_mark.edge within)) is_mark.target
      where
        by : (target : Target) → IsTakenAt net a target → EndsIn net target → mark.target ≡ target_part naming target
            → (k : ℕ) × (k < length naming.splitters) × (preferred_in net.takes k ≡ Some a) × (mark.target ≡ slice_index_or naming.splitters k 0)
        by (to.Output o) taken inside e = absurd taken
        by (to.Split k) taken inside e = (k, omega (arith, count, inside), taken, e)

-- two marks that agree in all are one
same_mark : (a b : Marked) → a.start ≡ b.start → a.target ≡ b.target → a.cap ≡ b.cap → a.given ≡ b.given → a.taken ≡ b.taken → a ≡ b
same_mark a b s t c g k = λ i. record { start = s i; target = t i; cap = c i; given = g i; taken = k i }

same_flag : (a b : Bool) → (IsTrue a → IsTrue b) → (IsTrue b → IsTrue a) → a ≡ b
same_flag true true x y = refl
same_flag true false x y = absurd (false≢true (x refl))
same_flag false true x y = absurd (false≢true (y refl))
same_flag false false x y = refl

-- a layout whose own network has the same marks shows what splitters prefer
pub shown_preferring : (parts : List Part) (priorities : List Priority) (m net : Network) (own naming : Naming) → ShowsPreferring parts priorities m own → IsNetwork m
    → IsNetwork net → IsNaming parts net naming → AreMarkedAs own m naming net → ShowsPreferring parts priorities net naming
shown_preferring parts priorities m net own naming h is_own is names marked =
    let chains = h.chains in
    let own_zip = own_marks parts priorities m own h is_own marked.first marked.are_first in
    let new = along (IsMarkedChain parts priorities) marked.first chains marked.second own_zip marked.same in
    let long = zip_length (IsMarkedChain parts priorities) marked.second new.list new.agree in
    let count = marked.are_second.count in
    record {
      clean = h.clean;
      names = names;
      chains = new.list;
      each_once = each_moved (IsChain parts) chains new.list h.each_once new.moved;
      named = zipped_at (IsEdgeOf parts naming) new.list net.edges (omega (arith, long, count)) (λ k chain edge at_chain at_edge.
          let found = zip_get (IsMarkedChain parts priorities) marked.second new.list k chain new.agree at_chain in
          let mark = found.0 in
          let of = found.2 in
          let is_mark = marked_at naming net marked.second k mark marked.are_second found.1 in
          let same : is_mark.edge ≡ edge = same_Some is_mark.edge edge (sym is_mark.at ∙ at_edge) in
          let within = slice_get_within net.edges k edge at_edge in
          let e = get_or_from_slice_get net.edges k edge edge at_edge in
          record {
            start = start_from parts net naming names chain of.is_chain chain.source refl edge.start (subst (λ f. StartsIn net f.start) e (is.wired.starts k edge within))
                (sym (is_mark.start ∙ ap (λ f. start_part naming f.start) same) ∙ of.start);
            target = target_from parts net naming names chain of.is_chain chain.sink refl edge.target (subst (λ f. EndsIn net f.target) e (is.wired.targets k edge within))
                (sym (is_mark.target ∙ ap (λ f. target_part naming f.target) same) ∙ of.target);
            cap = subst (λ c. IsCapOf parts chain c) (is_mark.cap ∙ ap (λ f. f.cap) same) of.cap;
          });
      gives = preferred_side parts priorities m own h net naming names marked.first marked.second marked.same own_zip new.list new.moved new.agree
          (IsGivenFirst parts priorities) (λ c. source_part c.source) (λ mark. mark.given) (λ mark. mark.start)
          (λ c s prefers. ap source_part prefers.1 ∙ source_leaves s prefers.0) (λ c s is_chain prefers. source_splits parts c is_chain s prefers.0 prefers.1)
          (λ mark c of. of.start) (λ mark c of t. of.given.0 t) m.gives net.gives h.gives
          (λ j k mark at e. given_flag own m is_own marked.first marked.are_first j k mark at e)
          (is.prioritised.gives_each ∙ names.splitter_count)
          (λ k a e. given_some naming net is marked.second marked.are_second k a e)
          (λ a mark at t. given_edge naming net is marked.second marked.are_second names.splitter_count a mark at t);
      takes = preferred_side parts priorities m own h net naming names marked.first marked.second marked.same own_zip new.list new.moved new.agree
          (IsTakenFirst parts priorities) (λ c. sink_part c.sink) (λ mark. mark.taken) (λ mark. mark.target)
          (λ c s prefers. ap sink_part prefers.1.sink ∙ sink_enters s) (λ c s is_chain prefers. sink_splits parts c is_chain s prefers.1.sink)
          (λ mark c of. of.target) (λ mark c of t. of.taken.0 t) m.takes net.takes h.takes
          (λ j k mark at e. taken_flag own m is_own marked.first marked.are_first j k mark at e)
          (is.prioritised.takes_each ∙ names.splitter_count)
          (λ k a e. taken_some naming net is marked.second marked.are_second k a e)
          (λ a mark at t. taken_edge naming net is marked.second marked.are_second names.splitter_count a mark at t);
    }

-- a chain has one mark
chain_mark : (parts : List Part) (priorities : List Priority) (a b : Marked) (chain : Chain) → IsMarkedChain parts priorities a chain → IsMarkedChain parts priorities b chain → a ≡ b
chain_mark parts priorities a b chain x y = same_mark a b (x.start ∙ sym y.start) (x.target ∙ sym y.target) (same_cap parts chain a.cap b.cap x.cap y.cap)
    (same_flag a.given b.given (λ t. y.given.1 (x.given.0 t)) (λ t. x.given.1 (y.given.0 t)))
    (same_flag a.taken b.taken (λ t. y.taken.1 (x.taken.0 t)) (λ t. x.taken.1 (y.taken.0 t)))

chains_marks : (parts : List Part) (priorities : List Priority) (chains : List Chain) (one other : List Marked) → AllZip (λ c mark. IsMarkedChain parts priorities mark c) chains one
    → AllZip (IsMarkedChain parts priorities) other chains → one ≡ other
chains_marks parts priorities [] [] [] z w = refl
chains_marks parts priorities [] [] (b ∷ other) z w = absurd w
chains_marks parts priorities [] (a ∷ one) other z w = absurd z
chains_marks parts priorities (c ∷ cs) [] other z w = absurd z
chains_marks parts priorities (c ∷ cs) (a ∷ one) [] z w = absurd w
chains_marks parts priorities (c ∷ cs) (a ∷ one) (b ∷ other) z w =
    let first : a ≡ b = chain_mark parts priorities a b c z.0 w.0 in
    let rest = chains_marks parts priorities cs one other z.1 w.1 in
    ap (λ x. x ∷ one) first ∙ ap (λ xs. b ∷ xs) rest

pub flipped : {X Y : Type 0} (R : X → Y → Type 0) (xs : List X) (ys : List Y) → AllZip R xs ys → AllZip (λ y x. R x y) ys xs
flipped R [] [] z = tt
flipped R [] (y ∷ ys) z = absurd z
flipped R (x ∷ xs) [] z = absurd z
flipped R (x ∷ xs) (y ∷ ys) z = (z.0, flipped R xs ys z.1)

-- networks that a layout shows with what splitters prefer have the same marks
pub marked_as : (parts : List Part) (priorities : List Priority) (m net : Network) (own naming : Naming) → ShowsPreferring parts priorities m own → IsNetwork m → IsNetwork net
    → ShowsPreferring parts priorities net naming → (first second : List Marked) → AreMarks own m first → AreMarks naming net second → IsPermutation first second
marked_as parts priorities m net own naming h is_own is g first second are_first are_second =
    let chains = each_rearranged (IsChain parts) h.chains g.chains h.each_once g.each_once in
    let new = along (λ c mark. IsMarkedChain parts priorities mark c) h.chains first g.chains
    (flipped (IsMarkedChain parts priorities) first h.chains (own_marks parts priorities m own h is_own first are_first)) chains in
    subst (λ l. IsPermutation first l)
    (chains_marks parts priorities g.chains new.list second new.agree (own_marks parts priorities net naming g is second are_second)) new.moved

-- what a layout shows with its own numbering it shows
pub shown_own : (parts : List Part) (priorities : List Priority) (m : Network) (own : Naming) → IsPreferring parts priorities m own → ShowsPreferring parts priorities m own
shown_own parts priorities m own h = record {
  clean = h.numbered.clean;
  names = h.numbered.names;
  chains = h.numbered.chains;
  each_once = h.numbered.each_once;
  named = h.numbered.named;
  gives = h.gives;
  takes = h.takes;
}

-- and it shows that but for what splitters prefer
pub shown_bare : (parts : List Part) (priorities : List Priority) (net : Network) (naming : Naming) → ShowsPreferring parts priorities net naming → Shows parts net naming
shown_bare parts priorities net naming h = record {
  clean = h.clean;
  names = h.names;
  chains = h.chains;
  each_once = h.each_once;
  edges = net.edges;
  named = h.named;
  same = IsPermutation-refl net.edges;
}
