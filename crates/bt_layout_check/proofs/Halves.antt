-- The priorities that are told from the marks show what the splitters of a network prefer.
use Rattle.std.proofs.Common.{◌≡◌, ◌≢◌, ◌↔◌, ◌⊎◌, ℕ, ◌+◌, ◌<◌, Bool, true, false, IsTrue, List, [], ◌∷◌, ◌++◌, length, get_or, map, replicate, Option, Some, None, slice_get, slice_index_or, refl, sym, ◌∙◌, ap, subst, inl, inr, ⊎_elim, IsPermutation, arith}
use Rattle.std.specs.Prelude.{MatchOption, Result, Ok, Err, IfOk}
use Rattle.std.specs.List.{AllPairs, AllZip, Contains}
use Rattle.std.proofs.lemmas.Bool.{cases_order, false≢true}
use Rattle.std.proofs.lemmas.Option.{get_or_from_slice_get, none-some, same_Some, slice_get-get_or, slice_get_within}
use Rattle.std.proofs.lemmas.List.{ext_get_or, get_or-map, get_or-replicate, length-map, length_push}
use Rattle.std.proofs.lemmas.List.Sorted.{Contains-permutation, IsPermutation-sym, IsPermutation-trans}
use Rattle.bt_parts.specs.declared.hand.Hand.{Hand}
use Rattle.bt_parts.specs.declared.hand.Hand.TheVariants.{Left, Right}
use Rattle.bt_parts.specs.declared.hand.Priority.{Priority}
use Rattle.bt_parts.specs.Hands.{half_on, no_priority, priority_of}
use Rattle.bt_parts.specs.declared.part.Cell.{Cell}
use Rattle.bt_parts.specs.declared.part.Dir.{Dir}
use Rattle.bt_parts.specs.declared.part.Dir.TheVariants.{North, East, South, West}
use Rattle.bt_parts.specs.declared.part.Kind.TheVariants.{Splitter}
use Rattle.bt_parts.specs.declared.part.Part.{Part}
use Rattle.bt_parts.specs.Cells.{beside, step}
use Rattle.bt_parts.specs.Layouts.{HasPart, IsAt}
use Rattle.bt_net.specs.declared.network.Start.TheVariants as from
use Rattle.bt_net.specs.declared.network.Target.TheVariants as to
use Rattle.bt_net.specs.Network.{Network, IsNetwork, EndsIn, StartsIn, preferred_in}
use Rattle.bt_model.specs.Chains.{Chain, IsChain, IsSplitter, EndsAs, Source, Sink, StartsAs, begins, leaves, ends, enters}
use Rattle.bt_model.specs.Preferring.{ArePreferred, EndsAtHalf, IsHalfOn, ShowsPreferring}
use Rattle.bt_model.specs.Shown.{Naming, IsNaming, IsEdgeOf, IsStartOf, IsTargetOf}
use Rattle.bt_model.specs.Speeds.{IsCapOf}
use Rattle.bt_model.proofs.Places.{zip_length}
use Rattle.bt_model.proofs.SameChain.{into_splitter}
use Rattle.bt_model.proofs.Sorted.{one_place}
use Rattle.bt_recover.specs.Preferred.{IsPreferring}
use Rattle.bt_recover.proofs.PreferLemmas.{zip_get}
use Rattle.bt_layout_check.specs.declared.joins.Join.{Join}
use Rattle.bt_layout_check.specs.declared.preferring.Marked.{Marked}
use Rattle.bt_layout_check.specs.inner.Handed.{AreHanded, IsTold, hand_told, join_in, mark_at, to_left}
use Rattle.bt_layout_check.specs.inner.Joins.{join_of, joins_of, no_join, start_part, target_part}
use Rattle.bt_layout_check.specs.inner.Marks.{AreMarks, no_mark}
use Rattle.bt_layout_check.specs.inner.Tests.{AreJoinedAs}
use Rattle.bt_layout_check.proofs.Listing.{along, each_moved, pairs_moved}
use Rattle.bt_layout_check.proofs.Marks.{IsMarkedChain, contained, ends_there, given_edge, given_some, marked_at, own_marks, placed_more, shown_own, starts_there, taken_edge, taken_some, zip_right, zipped_at}
use Rattle.bt_layout_check.proofs.Renamed.{sink_splits, source_splits, start_from, target_from}

-- the chain starts at the half of this splitter on this hand, or ends there
abbrev GivesBy : List Part → Chain → ℕ → Option Hand → Type 0
GivesBy parts chain s hand = (half : Cell) × (chain.source ≡ leaves s half) × IsHalfOn parts s hand half

abbrev TakesBy : List Part → Chain → ℕ → Option Hand → Type 0
TakesBy parts chain s hand = (half : Cell) × EndsAtHalf parts chain s half × IsHalfOn parts s hand half

-- a half of a splitter is on one of its hands
half_cases : (dir : Dir) (cell half : Cell) → (half ≡ cell) ⊎ (half ≡ beside dir cell) → (half ≡ half_on Left dir cell) ⊎ (half ≡ half_on Right dir cell)
half_cases North cell half (inl e) = inl e
half_cases North cell half (inr e) = inr e
half_cases East cell half (inl e) = inl e
half_cases East cell half (inr e) = inr e
half_cases South cell half (inl e) = inr e
half_cases South cell half (inr e) = inl e
half_cases West cell half (inl e) = inr e
half_cases West cell half (inr e) = inl e

two_halves : (parts : List Part) (s : ℕ) (half : Cell) → IsAt parts s half → IsHalfOn parts s (Some Left) half ⊎ IsHalfOn parts s (Some Right) half
two_halves parts s half at =
    ⊎_elim (λ e. inl (at.part, at.is_i, e)) (λ e. inr (at.part, at.is_i, e))
    (half_cases at.part.dir at.part.cell half (⊎_elim (λ e. inl e) (λ e. inr e.1) at.covers))

-- the half at which a chain starts is its splitter's
source_half : (parts : List Part) (chain : Chain) → IsChain parts chain → (s : ℕ) (half : Cell) → chain.source ≡ leaves s half → IsAt parts s half
source_half parts chain (inl h) s half e = let at : StartsAs parts (leaves s half) h.first = subst (λ x. StartsAs parts x h.first) e h.starts in at.1.look.giver
source_half parts chain (inr h) s half e =
    let source = h.source in
    let same : h.from ≡ s = cc in
    let halves : h.half ≡ half = cc in
    subst (λ x. IsAt parts x half) same (subst (IsAt parts h.from) halves h.feeds.look.giver)

-- a chain that ends at a splitter ends at a half of it
sink_half : (parts : List Part) (chain : Chain) → IsChain parts chain → (s : ℕ) → chain.sink ≡ enters s → (half : Cell) × EndsAtHalf parts chain s half × IsAt parts s half
sink_half parts chain (inl h) s e =
    let at : EndsAs parts (enters s) h.last = subst (λ x. EndsAs parts x h.last) e h.ends in
    let feeds = into_splitter parts h.last s at.0 at.1 in (
      step feeds.1.look.giver.part.dir feeds.0,
      record { sink = e; giver = h.last; cell = feeds.0; hands_on = inl (h.first, h.path); feeds = feeds.1; faces = refl },
      feeds.1.look.taker,
    )
sink_half parts chain (inr h) s e =
    let sink = h.sink in
    let same : h.to ≡ s = cc in
    subst (λ t. (half : Cell) × EndsAtHalf parts chain t half × IsAt parts t half) same (
      step h.feeds.look.giver.part.dir h.half,
      record { sink = h.sink; giver = h.from; cell = h.half; hands_on = inr (h.no_link, h.source); feeds = h.feeds; faces = refl },
      h.feeds.look.taker,
    )

module _ (parts : List Part) (lefts : List Priority) (lefts_are : (s : ℕ) → s < length parts → priority_of lefts s ≡ to_left) (m net : Network) (own naming : Naming)
    (h : ShowsPreferring parts lefts m own) (is_own : IsNetwork m) (is : IsNetwork net) (names : IsNaming parts net naming) (priorities : List Priority)
    (handed : AreHanded parts own m naming net priorities) where
  halves : List Marked
  halves = handed.halves

  wishes : List Marked
  wishes = handed.wishes

  second : List Marked
  second = handed.second

  -- the mark of the other network stands beside that of the chain's own edge
  record IsJoined (wish : Marked) (chain : Chain) : Type 0 where
    k : ℕ
    within : k < length wishes
    wish_is : mark_at wishes k ≡ wish
    half_is : IsMarkedChain parts lefts (mark_at halves k) chain
    joins : join_in (mark_at halves k) ≡ join_in wish

  same_length : length halves ≡ length wishes
  unfolding halves wishes
  same_length = sym (length-map handed.halves join_in) ∙ ap length handed.matched.same ∙ length-map handed.wishes join_in

  same_join : (k : ℕ) → k < length wishes → join_in (mark_at halves k) ≡ join_in (mark_at wishes k)
  unfolding halves wishes
  same_join k lt =
      let long = same_length in
      sym (get_or-map join_in handed.halves k no_mark (join_in no_mark) (omega (arith, lt, long))) ∙ ap (λ js. get_or js k (join_in no_mark)) handed.matched.same
      ∙ get_or-map join_in handed.wishes k no_mark (join_in no_mark) lt

  joined : (chains : List Chain) → AllZip (IsMarkedChain parts lefts) halves chains → AllZip IsJoined wishes chains
  joined chains zip =
      let long = zip_length (IsMarkedChain parts lefts) halves chains zip in let same = same_length in
      zipped_at IsJoined wishes chains (omega (arith, long, same)) (λ k wish chain at_wish at_chain.
      let found = zip_get (IsMarkedChain parts lefts) halves chains k chain zip at_chain in
      let half : mark_at halves k ≡ found.0 = get_or_from_slice_get halves k found.0 no_mark found.1 in
      let wish_is : mark_at wishes k ≡ wish = get_or_from_slice_get wishes k wish no_mark at_wish in
      let lt = slice_get_within wishes k wish at_wish in
      record {
        k = k;
        within = lt;
        wish_is = wish_is;
        half_is = subst (λ x. IsMarkedChain parts lefts x chain) (sym half) found.2;
        joins = same_join k lt ∙ ap join_in wish_is;
      })

  -- one side of the splitters: what is given, or what is taken
  module _ (chains : List Chain) (zip : AllZip IsJoined second chains) (chain_of : (c : Chain) → Contains chains c → IsChain parts c)
      (By : Chain → ℕ → Option Hand → Type 0) (pick : Priority → Option Hand) (flag : Marked → Bool) (mark_part : Marked → ℕ)
      (one_part : (c : Chain) (s t : ℕ) (a b : Option Hand) → By c s a → By c t b → s ≡ t) (none_by : (c : Chain) (s : ℕ) → By c s None → ⊥)
      (is_splitter : (c : Chain) (s : ℕ) (o : Option Hand) → IsChain parts c → By c s o → IsSplitter parts s)
      (left : pick to_left ≡ Some Left)
      (flag_marked : (mark : Marked) (c : Chain) → IsMarkedChain parts lefts mark c → IsTrue (flag mark) ↔ ((s : ℕ) × By c s (pick (priority_of lefts s))))
      (edges : List (Option ℕ)) (count : length edges ≡ length naming.splitters)
      (either : (k a s : ℕ) (c : Chain) → preferred_in edges k ≡ Some a → slice_get chains a ≡ Some c → slice_get naming.splitters k ≡ Some s → By c s (Some Left) ⊎ By c s (Some Right))
      (net_some : (k a : ℕ) → preferred_in edges k ≡ Some a → (mark : Marked) × (slice_get second a ≡ Some mark) × IsTrue (flag mark) × (mark_part mark ≡ slice_index_or naming.splitters k 0))
      (net_flag : (a : ℕ) (mark : Marked) → slice_get second a ≡ Some mark → IsTrue (flag mark)
      → (k : ℕ) × (k < length naming.splitters) × (preferred_in edges k ≡ Some a) × (mark_part mark ≡ slice_index_or naming.splitters k 0))
      (told : (s : ℕ) → IsSplitter parts s → MatchOption (pick (priority_of priorities s))
      ((k : ℕ) → k < length wishes → IsTrue (flag (mark_at wishes k)) → mark_part (mark_at wishes k) ≡ s → ⊥)
      (λ hand. (k : ℕ) × (k < length wishes) × IsTrue (flag (mark_at wishes k)) × (mark_part (mark_at wishes k) ≡ s) × (hand ≡ hand_told (flag (mark_at halves k))))) where
    -- no two marks wish for an edge of one splitter
    Apart : Marked → Marked → Type 0
    Apart x y = IsTrue (flag x) → IsTrue (flag y) → mark_part x ≡ mark_part y → ⊥

    splitter_at : (k s : ℕ) (part : ℕ) → k < length naming.splitters → part ≡ slice_index_or naming.splitters k 0 → part ≡ s → slice_get naming.splitters k ≡ Some s
    splitter_at k s part lt e f = slice_get-get_or naming.splitters k 0 lt ∙ ap Some (sym e ∙ f)

    apart : AllPairs Apart wishes
    unfolding Apart second wishes
    apart = pairs_moved Apart (λ x y none fy fx e. none fx fy (sym e)) second wishes
        (λ i j d lt within fx fy e.
        let x = get_or second i d in
        let y = get_or second j d in
        let one = net_flag i x (slice_get-get_or second i d (omega (arith, lt, within))) fx in
        let other = net_flag j y (slice_get-get_or second j d within) fy in
        let same : one.0 ≡ other.0 = one_place naming.splitters names.splitters.once one.0 other.0 (mark_part y)
        (splitter_at one.0 (mark_part y) (mark_part x) one.1 one.3 e) (splitter_at other.0 (mark_part y) (mark_part y) other.1 other.3 refl) in
        let places : i ≡ j = same_Some i j (sym one.2 ∙ ap (preferred_in edges) same ∙ other.2) in
        omega (arith, lt, places)) handed.matched.wishes_moved

    same_place : (p q : ℕ) → p < length wishes → q < length wishes → IsTrue (flag (mark_at wishes p)) → IsTrue (flag (mark_at wishes q))
        → mark_part (mark_at wishes p) ≡ mark_part (mark_at wishes q) → p ≡ q
    unfolding Apart
    same_place p q in_p in_q fp fq e =
        ⊎_elim (λ same. same)
        (λ order. absurd (⊎_elim (λ less. apart p q no_mark less in_q fp fq e) (λ more. apart q p no_mark more in_p fq fp (sym e)) order))
        (cases_order p q)

    in_second : (p : ℕ) → p < length wishes → Contains second (mark_at wishes p)
    unfolding wishes second
    in_second p lt = Contains-permutation handed.wishes handed.second (mark_at handed.wishes p) (IsPermutation-sym handed.second handed.wishes handed.matched.wishes_moved)
        (contained handed.wishes p (mark_at handed.wishes p) (slice_get-get_or handed.wishes p no_mark lt))

    -- the splitter of a wish prefers some edge
    some_edge : (k s p : ℕ) → slice_get naming.splitters k ≡ Some s → p < length wishes → IsTrue (flag (mark_at wishes p)) → mark_part (mark_at wishes p) ≡ s → (a : ℕ) × (preferred_in edges k ≡ Some a)
    some_edge k s p at lt f e =
        let mark = mark_at wishes p in
        let there = in_second p lt in
        let place : slice_get second there.0 ≡ Some mark = slice_get-get_or second there.0 mark there.1 ∙ ap Some there.2 in
        let edge = net_flag there.0 mark place f in
        let same : edge.0 ≡ k = one_place naming.splitters names.splitters.once edge.0 k s (splitter_at edge.0 s (mark_part mark) edge.1 edge.3 e) at in
        (there.0, subst (λ n. preferred_in edges n ≡ Some there.0) same edge.2)

    splitter_of : (k s : ℕ) → slice_get naming.splitters k ≡ Some s → IsSplitter parts s
    splitter_of k s at = names.splitters.only s (k, slice_get_within naming.splitters k s at, get_or_from_slice_get naming.splitters k s s at)

    left_of : (s : ℕ) → IsSplitter parts s → pick (priority_of lefts s) ≡ Some Left
    left_of s splitter = ap pick (lefts_are s (slice_get_within parts s splitter.0 splitter.1)) ∙ left

    -- the chain of a mark starts, or ends, on the hand that the mark tells
    on_hand : (half : Marked) (c : Chain) (s : ℕ) → IsMarkedChain parts lefts half c → IsSplitter parts s → By c s (Some Left) ⊎ By c s (Some Right) → (b : Bool) → flag half ≡ b
        → By c s (Some (hand_told b))
    on_hand half c s of splitter sides true e =
        let there = (flag_marked half c of).0 e in
        let same : there.0 ≡ s = ⊎_elim (λ by. one_part c there.0 s (pick (priority_of lefts there.0)) (Some Left) there.1 by)
        (λ by. one_part c there.0 s (pick (priority_of lefts there.0)) (Some Right) there.1 by) sides in
        subst (By c s) (left_of s splitter) (subst (λ t. By c t (pick (priority_of lefts t))) same there.1)
    on_hand half c s of splitter (inl by) false e = absurd (false≢true (sym e ∙ (flag_marked half c of).1 (s, subst (By c s) (sym (left_of s splitter)) by)))
    on_hand half c s of splitter (inr by) false e = by

    none_preferred : (k s : ℕ) → slice_get naming.splitters k ≡ Some s → preferred_in edges k ≡ None → (c : Chain) → Contains chains c → By c s (pick (priority_of priorities s)) → ⊥
    none_preferred k s at none c there prefers =
        by (pick (priority_of priorities s)) (told s (splitter_of k s at)) prefers
      where
        by : (o : Option Hand) → MatchOption o ((k : ℕ) → k < length wishes → IsTrue (flag (mark_at wishes k)) → mark_part (mark_at wishes k) ≡ s → ⊥)
            (λ hand. (k : ℕ) × (k < length wishes) × IsTrue (flag (mark_at wishes k)) × (mark_part (mark_at wishes k) ≡ s) × (hand ≡ hand_told (flag (mark_at halves k)))) → By c s o → ⊥
        by None tells gives = none_by c s gives
        by (Some hand) tells gives = let edge = some_edge k s tells.0 at tells.1 tells.2 tells.3 in none-some edge.0 (sym none ∙ edge.1)

    one_preferred : (k s a : ℕ) → slice_get naming.splitters k ≡ Some s → preferred_in edges k ≡ Some a → (c : Chain) × (slice_get chains a ≡ Some c) × By c s (pick (priority_of priorities s))
    one_preferred k s a at e =
        let marked = net_some k a e in
        let beside = zip_right IsJoined second chains a marked.0 zip marked.1 in
        let part : mark_part marked.0 ≡ s = marked.3 ∙ get_or_from_slice_get naming.splitters k s 0 at in
        (beside.0, beside.1, by marked.0 beside.0 beside.2 marked.2 part (either k a s beside.0 e beside.1 at) (pick (priority_of priorities s)) (told s (splitter_of k s at)))
      where
        by : (wish : Marked) (c : Chain) (of : IsJoined wish c) → IsTrue (flag wish) → mark_part wish ≡ s → By c s (Some Left) ⊎ By c s (Some Right) → (o : Option Hand)
            → MatchOption o ((k : ℕ) → k < length wishes → IsTrue (flag (mark_at wishes k)) → mark_part (mark_at wishes k) ≡ s → ⊥)
            (λ hand. (k : ℕ) × (k < length wishes) × IsTrue (flag (mark_at wishes k)) × (mark_part (mark_at wishes k) ≡ s) × (hand ≡ hand_told (flag (mark_at halves k)))) → By c s o
        by wish c of f part sides None tells =
            absurd (tells of.k of.within (subst (λ w. IsTrue (flag w)) (sym of.wish_is) f) (ap mark_part of.wish_is ∙ part))
        by wish c of f part sides (Some hand) tells =
            let same : tells.0 ≡ of.k = same_place tells.0 of.k tells.1 of.within tells.2 (subst (λ w. IsTrue (flag w)) (sym of.wish_is) f) (tells.3 ∙ sym (ap mark_part of.wish_is ∙ part)) in
            let hand_is : hand ≡ hand_told (flag (mark_at halves of.k)) = tells.4 ∙ ap (λ n. hand_told (flag (mark_at halves n))) same in
            subst (λ x. By c s (Some x)) (sym hand_is) (on_hand (mark_at halves of.k) c s of.half_is (splitter_of k s at) sides (flag (mark_at halves of.k)) refl)

    handed_side : ArePreferred (λ c s. By c s (pick (priority_of priorities s))) naming.splitters chains edges
    handed_side = record { count = count; each = λ k s at. by k s at (preferred_in edges k) refl } where
      by : (k s : ℕ) → slice_get naming.splitters k ≡ Some s → (o : Option ℕ) → preferred_in edges k ≡ o
          → MatchOption o ((c : Chain) → Contains chains c → By c s (pick (priority_of priorities s)) → ⊥) (λ a. (c : Chain) × (slice_get chains a ≡ Some c) × By c s (pick (priority_of priorities s)))
      by k s at None e = none_preferred k s at e
      by k s at (Some a) e = one_preferred k s a at e

  -- the edge at a place of the chains in their new order
  named_at : (chains : List Chain) → AllZip IsJoined second chains → (chain_of : (c : Chain) → Contains chains c → IsChain parts c) → AllZip (IsEdgeOf parts naming) chains net.edges
  unfolding second
  named_at chains zip chain_of =
      let long = zip_length IsJoined handed.second chains zip in
      let count = handed.are_second.count in
      zipped_at (IsEdgeOf parts naming) chains net.edges (omega (arith, long, count)) (λ k chain edge at_chain at_edge.
      let found = zip_get IsJoined handed.second chains k chain zip at_chain in
      let is_mark = marked_at naming net handed.second k found.0 handed.are_second found.1 in
      let same : is_mark.edge ≡ edge = same_Some is_mark.edge edge (sym is_mark.at ∙ at_edge) in
      let within = slice_get_within net.edges k edge at_edge in
      let e = get_or_from_slice_get net.edges k edge edge at_edge in
      let of = found.2.half_is in
      let joins = found.2.joins in
      record {
        start = start_from parts net naming names chain of.is_chain chain.source refl edge.start (subst (λ f. StartsIn net f.start) e (is.wired.starts k edge within))
            (sym (ap (λ j. j.start) joins ∙ is_mark.start ∙ ap (λ f. start_part naming f.start) same) ∙ of.start);
        target = target_from parts net naming names chain of.is_chain chain.sink refl edge.target (subst (λ f. EndsIn net f.target) e (is.wired.targets k edge within))
            (sym (ap (λ j. j.target) joins ∙ is_mark.target ∙ ap (λ f. target_part naming f.target) same) ∙ of.target);
        cap = subst (λ c. IsCapOf parts chain c) (ap (λ j. j.cap) joins ∙ is_mark.cap ∙ ap (λ f. f.cap) same) of.cap;
      })

  leaving : (source : Source) (k s : ℕ) → IsStartOf naming source (from.Split k) → slice_get naming.splitters k ≡ Some s → (half : Cell) × (source ≡ leaves s half)
  leaving (begins i x) k s named at = absurd named
  leaving (leaves t half) k s named at = (half, ap (λ z. leaves z half) (same_Some t s (sym named ∙ at)))

  entering : (sink : Sink) (k s : ℕ) → IsTargetOf naming sink (to.Split k) → slice_get naming.splitters k ≡ Some s → sink ≡ enters s
  entering (ends i) k s named at = absurd named
  entering (enters t) k s named at = ap enters (same_Some t s (sym named ∙ at))

  either_give : (chains : List Chain) → AllZip (IsEdgeOf parts naming) chains net.edges → ((c : Chain) → Contains chains c → IsChain parts c) → (k a s : ℕ) (c : Chain)
      → preferred_in net.gives k ≡ Some a → slice_get chains a ≡ Some c → slice_get naming.splitters k ≡ Some s → GivesBy parts c s (Some Left) ⊎ GivesBy parts c s (Some Right)
  either_give chains zip chain_of k a s c e at_c at =
      let edge = is.prioritised.gives k a e in
      let beside = zip_right (IsEdgeOf parts naming) chains net.edges a c zip at_c in
      let same : beside.0 ≡ edge.0 = same_Some beside.0 edge.0 (sym beside.1 ∙ edge.1) in
      let start : beside.0.start ≡ from.Split k = ap (λ f. f.start) same ∙ starts_there k edge.0 edge.2 in
      let half = leaving c.source k s (subst (IsStartOf naming c.source) start beside.2.start) at in
      ⊎_elim (λ on. inl (half.0, half.1, on)) (λ on. inr (half.0, half.1, on)) (two_halves parts s half.0 (source_half parts c (chain_of c (contained chains a c at_c)) s half.0 half.1))

  either_take : (chains : List Chain) → AllZip (IsEdgeOf parts naming) chains net.edges → ((c : Chain) → Contains chains c → IsChain parts c) → (k a s : ℕ) (c : Chain)
      → preferred_in net.takes k ≡ Some a → slice_get chains a ≡ Some c → slice_get naming.splitters k ≡ Some s → TakesBy parts c s (Some Left) ⊎ TakesBy parts c s (Some Right)
  either_take chains zip chain_of k a s c e at_c at =
      let edge = is.prioritised.takes k a e in
      let beside = zip_right (IsEdgeOf parts naming) chains net.edges a c zip at_c in
      let same : beside.0 ≡ edge.0 = same_Some beside.0 edge.0 (sym beside.1 ∙ edge.1) in
      let target : beside.0.target ≡ to.Split k = ap (λ f. f.target) same ∙ ends_there k edge.0 edge.2 in
      let half = sink_half parts c (chain_of c (contained chains a c at_c)) s (entering c.sink k s (subst (IsTargetOf naming c.sink) target beside.2.target) at) in
      ⊎_elim (λ on. inl (half.0, half.1, on)) (λ on. inr (half.0, half.1, on)) (two_halves parts s half.0 half.2)

  told_at : (s : ℕ) (splitter : IsSplitter parts s) → IsTold halves wishes s splitter.0.kind (priority_of priorities s)
  unfolding halves wishes
  told_at s splitter =
      let lt = slice_get_within parts s splitter.0 splitter.1 in let count = handed.told.count in
      handed.told.each s no_priority (omega (arith, lt, count)) splitter.0 splitter.1

  pub handed_shows : ShowsPreferring parts priorities net naming
  unfolding halves wishes second
  handed_shows =
      let own_zip = own_marks parts lefts m own h is_own handed.first handed.are_first in
      let ordered = along (IsMarkedChain parts lefts) handed.first h.chains handed.halves own_zip handed.matched.halves_moved in
      let new = along IsJoined handed.wishes ordered.list handed.second (joined ordered.list ordered.agree) (IsPermutation-sym handed.second handed.wishes handed.matched.wishes_moved) in
      let each = each_moved (IsChain parts) h.chains new.list h.each_once (IsPermutation-trans h.chains ordered.list new.list ordered.moved new.moved) in
      let named = named_at new.list new.agree each.only in
      record {
        clean = h.clean;
        names = names;
        chains = new.list;
        each_once = each;
        named = named;
        gives = handed_side new.list new.agree each.only (GivesBy parts) (λ p. p.give) (λ mark. mark.given) (λ mark. mark.start)
            (λ c s t a b x y. let one = x.1 in let other = y.1 in cc) (λ c s by. by.2.2) (λ c s o is_c by. source_splits parts c is_c s by.0 by.1) refl (λ mark c of. of.given)
            net.gives (is.prioritised.gives_each ∙ names.splitter_count) (either_give new.list named each.only)
            (λ k a e. given_some naming net is handed.second handed.are_second k a e)
            (λ a mark at t. given_edge naming net is handed.second handed.are_second names.splitter_count a mark at t)
            (λ s splitter. (told_at s splitter).give splitter.2);
        takes = handed_side new.list new.agree each.only (TakesBy parts) (λ p. p.take) (λ mark. mark.taken) (λ mark. mark.target)
            (λ c s t a b x y. let one = x.1.sink in let other = y.1.sink in cc) (λ c s by. by.2.2) (λ c s o is_c by. sink_splits parts c is_c s by.1.sink) refl (λ mark c of. of.taken)
            net.takes (is.prioritised.takes_each ∙ names.splitter_count) (either_take new.list named each.only)
            (λ k a e. taken_some naming net is handed.second handed.are_second k a e)
            (λ a mark at t. taken_edge naming net is handed.second handed.are_second names.splitter_count a mark at t)
            (λ s splitter. (told_at s splitter).take splitter.2);
      }

-- ---- what the functions tell

-- the join of an edge's mark is the edge's
marks_joins : (naming : Naming) (net : Network) (marks : List Marked) → AreMarks naming net marks → map join_in marks ≡ joins_of naming net.edges
marks_joins naming net marks are =
    let count = are.count in let long = length-map marks join_in in let other = length-map net.edges (join_of naming) in
    ext_get_or no_join (map join_in marks) (joins_of naming net.edges) (omega (arith, count, long, other)) (λ k lt.
    let within : k < length marks = omega (arith, lt, long) in
    let mark = are.each k no_mark within in
    get_or-map join_in marks k no_mark no_join within
    ∙ joined_alike (join_in (mark_at marks k)) (join_of naming mark.edge) mark.start mark.target mark.cap
    ∙ ap (join_of naming) (sym (get_or_from_slice_get net.edges k mark.edge mark.edge mark.at))
    ∙ sym (get_or-map (join_of naming) net.edges k mark.edge no_join (slice_get_within net.edges k mark.edge mark.at)))
  where
    joined_alike : (a b : Join) → a.start ≡ b.start → a.target ≡ b.target → a.cap ≡ b.cap → a ≡ b
    joined_alike a b s t c = λ i. record { start = s i; target = t i; cap = c i }

pub marks_joined : (one other : Naming) (own net : Network) (first second : List Marked) → AreMarks one own first → AreMarks other net second → AreJoinedAs one own other net
    → IsPermutation (map join_in first) (map join_in second)
marks_joined one other own net first second are_first are_second joins =
    subst (λ l. IsPermutation l (map join_in second)) (sym (marks_joins one own first are_first))
    (subst (IsPermutation (joins_of one own.edges)) (sym (marks_joins other net second are_second)) joins)

pub told_more : (parts : List Part) (halves wishes : List Marked) (list new : List Priority) (index : ℕ) (d : Part) (priority : Priority) → length list ≡ index
    → ((k : ℕ) (d : Priority) → k < length list → (part : Part) → HasPart parts k part → IsTold halves wishes k part.kind (get_or list k d)) → index < length parts
    → IsTold halves wishes index (get_or parts index d).kind priority → new ≡ list ++ priority ∷ []
    → (length new ≡ index + 1) × ((k : ℕ) (d : Priority) → k < length new → (part : Part) → HasPart parts k part → IsTold halves wishes k part.kind (get_or new k d))
told_more parts halves wishes list new index d priority long before lt told is =
    subst (λ l. (length l ≡ index + 1) × ((k : ℕ) (d : Priority) → k < length l → (part : Part) → HasPart parts k part → IsTold halves wishes k part.kind (get_or l k d))) (sym is) (
      (let more = length_push list priority in omega (arith, more, long)),
      placed_more (λ k p. (part : Part) → HasPart parts k part → IsTold halves wishes k part.kind p) list priority index long before
          (λ part is_part. subst (λ p. IsTold halves wishes index p.kind priority) (get_or_from_slice_get parts index part d is_part) told),
    )

-- the layout's own network, as it was recovered
pub own_preferring : (parts : List Part) (priorities : List Priority) (net own : Network) (naming names : Naming) → IsPreferring parts priorities net naming × IsNetwork net → own ≡ net → names ≡ naming
    → IsPreferring parts priorities own names × IsNetwork own
own_preferring parts priorities net own naming names h e f =
    (subst (λ n. IsPreferring parts priorities n names) (sym e) (subst (IsPreferring parts priorities net) (sym f) h.0), subst IsNetwork (sym e) h.1)

pub handed_told : (parts ps : List Part) (lefts : List Priority) (m net : Network) (own naming : Naming) → lefts ≡ replicate (length parts) to_left → ps ≡ parts
    → IsPreferring parts lefts m own × IsNetwork m → IsNetwork net → IsNaming parts net naming → (priorities : List Priority) → AreHanded ps own m naming net priorities
    → ShowsPreferring parts priorities net naming
handed_told parts ps lefts m net own naming lefts_are same h is names priorities handed =
    handed_shows parts lefts (λ s lt. ap (λ l. priority_of l s) lefts_are ∙ get_or-replicate (length parts) s to_left no_priority lt) m net own naming
    (shown_own parts lefts m own h.0) h.1 is names priorities (subst (λ p. AreHanded p own m naming net priorities) same handed)

pub handed_none : (parts ps : List Part) (m net : Network) (own naming : Naming) (priorities : List Priority) → ps ≡ parts → AreHanded ps own m naming net priorities
    → (i : ℕ) (part : Part) → HasPart parts i part → part.kind ≢ Splitter → priority_of priorities i ≡ no_priority
handed_none parts ps m net own naming priorities same handed i part is_i not =
    let told = (subst (λ p. AreHanded p own m naming net priorities) same handed).told in
    let lt = slice_get_within parts i part is_i in let count = told.count in
    (told.each i no_priority (omega (arith, lt, count)) part is_i).none not

-- two facts of a value, where there is one
pub ok_both : {X Y : Type 0} (r : Result X Y) (P Q : X → Type 0) → IfOk r P → IfOk r Q → IfOk r (λ x. P x × Q x)
ok_both (Ok x) P Q p q = (p, q)
ok_both (Err e) P Q p q = tt
