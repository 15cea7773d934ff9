-- The class of a chain, from where it starts to where it ends.
use Rattle.std.proofs.Common.{◌≡◌, ◌⊎◌, ℕ, List, [], length, map, refl, sym, ◌∙◌, ap, subst, inl, inr, arith}
use Rattle.bt_parts.specs.declared.part.Cell.{Cell}
use Rattle.bt_parts.specs.declared.part.Part.{Part}
use Rattle.bt_parts.specs.Cells.{step, steps}
use Rattle.bt_parts.specs.Layouts.{HasPart, IsAt}
use Rattle.bt_parts.proofs.Places.{same_part}
use Rattle.bt_model.specs.Chains.{IsLink, Path, one, more, IsInput, Source, begins, leaves, Chain, StartsAs, IsLongest, IsEmptyChain, IsChain}
use Rattle.bt_model.specs.Handing.{Hands}
use Rattle.bt_model.specs.Orderly.{IsOrderly}
use Rattle.bt_model.specs.Shown.{ListsEach}
use Rattle.bt_model.proofs.ChainLemmas.{orderly_of, path_stop}
use Rattle.bt_model.proofs.ExistLemmas.{input_link}
use Rattle.bt_model.proofs.HandLemmas.{one_handed}
use Rattle.bt_model.proofs.PathLemmas.{path_start, path_head}
use Rattle.bt_model.proofs.SameChain.{Hop}
use Rattle.bt_facts.specs.declared.fact.Class.{Class}
use Rattle.bt_facts.specs.declared.fact.Class.TheVariants.{Split}
use Rattle.bt_facts.specs.declared.fact.Fact.TheVariants.{Carries, Begins}
use Rattle.bt_facts.specs.declared.fact.Shape.TheVariants as shape
use Rattle.bt_demands.specs.Classes.{classes_of, input_classes, splitters_of}
use Rattle.bt_facts.specs.Facts.{holds}
use Rattle.bt_rules.specs.Kept.{IsKeptPart}
use Rattle.bt_facts.proofs.Keeping.{In, in_right}
use Rattle.bt_rules.proofs.kept.Solved.{Solved, Says}
use Rattle.bt_rules.proofs.kept.CellFacts.{split_in, half_there}
use Rattle.bt_rules.proofs.kept.GoingFacts.{going_inside, begun_class}
use Rattle.bt_rules.proofs.kept.TunnelFacts.{class_under}
use Rattle.bt_rules.proofs.kept.CarryFacts.{class_on}
use Rattle.bt_rules.proofs.kept.Arrivals.{reached_inside}
use Rattle.bt_rules.proofs.kept.PartFacts.{part_on, standing, kept_part, at_there, own_at, well_placed}
use Rattle.bt_rules.proofs.kept.HandFacts.{feeds_going, entrance_pair, entrance_of}
use Rattle.bt_rules.proofs.kept.RingFacts.{link_cell, link_shape, clean}
use Rattle.bt_rules.proofs.kept.EndFacts.{input_begins}
use Rattle.bt_rules.proofs.kept.SplitFacts.{IsSplitterOf, splitter_named, half_spot, half_of_splitter}

-- two paths of the same parts have the same ends
pub path_same : (parts : List Part) (a x b y : ℕ) (xs ys : List ℕ) → Path parts a x xs → Path parts b y ys → xs ≡ ys → (a ≡ b) × (x ≡ y)
path_same parts a x b y xs ys (one i link) (one j other) e = let same : i ≡ j = cc in (same, same)
path_same parts a x b y xs ys (one i link) (more j l m rest other hands path) e =
    let some = (path_head parts l m rest 0 path).0 in let lengths = ap length e in absurd (omega arith)
path_same parts a x b y xs ys (more i k m rest link hands path) (one j other) e =
    let some = (path_head parts k m rest 0 path).0 in let lengths = ap length e in absurd (omega arith)
path_same parts a x b y xs ys (more i k m rest link hands path) (more j l n tail other gives way) e =
    let heads : i ≡ j = cc in
    let tails : rest ≡ tail = cc in
    (heads, (path_same parts k m l n rest tail path way tails).1)

pub path_some : (parts : List Part) (a x : ℕ) (xs : List ℕ) → Path parts a x xs → xs ≡ [] → ⊥
path_some parts a x xs path e = let some = (path_head parts a x xs 0 path).0 in let lengths = ap length e in omega arith

module _ (w : Solved) (parts : List Part) (lists : ListsEach (IsKeptPart w.r w.reading) parts) where
  pub orderly : IsOrderly parts
  orderly = orderly_of parts (clean w parts lists)

  module _ (k : Class) (k_in : In (classes_of w.r) k) where
    -- the class goes on from a link to the next
    class_step : (i j : ℕ) (a : Cell) → IsLink parts i → IsLink parts j → Hands parts i j → IsAt parts i a → Says w (Carries a k)
        → (b : Cell) × IsAt parts j b × Says w (Carries b k)
    class_step i j a link next (inl pair) at carries =
        let here = standing w parts lists i a at in
        let same = same_part parts i pair.entrance (part_on w here.of here.dir a) pair.is_a here.is_i in
        let of : here.of ≡ shape.Entrance = entrance_of here.of (sym (ap (λ p. p.kind) same) ∙ pair.enters) in
        let says = subst (λ s. Says w (holds a s here.dir)) of here.says in
        let is_i = subst (λ s. HasPart parts i (part_on w s here.dir a)) of here.is_i in
        let own = entrance_pair w parts lists a here.dir i here.reached says is_i in
        let exits : own.exit ≡ j = one_handed parts (well_placed w parts lists) i own.exit j link (inl own.pair) (inl pair) in (
          steps own.distance here.dir a,
          subst (λ z. IsAt parts z (steps own.distance here.dir a)) exits
              (at_there w parts lists own.exit shape.Exit here.dir (steps own.distance here.dir a) own.is_exit),
          class_under w a (reached_inside w a here.reached) here.dir own.distance own.some own.few own.there own.far k k_in carries,
        )
    class_step i j a link next (inr feeds) at carries =
        let going = feeds_going w parts lists i feeds.0 j feeds.1 in
        let same : a ≡ feeds.0 = link_cell parts i a feeds.0 link at feeds.1.look.giver in
        let inside = reached_inside w feeds.0 going.reached in
        let front = going_inside w feeds.0 inside going.dir going.goes in (
          step going.dir feeds.0,
          going.there,
          class_on w feeds.0 inside going.dir k k_in front going.goes (subst (λ c. Says w (Carries c k)) same carries)
              (λ on. let half = half_there w (step going.dir feeds.0) front on in
              link_shape w parts lists j (step going.dir feeds.0) (shape.Half half.0) half.1 next going.there half.2 refl),
        )

    class_along : (i last : ℕ) (links : List ℕ) → Path parts i last links → (a : Cell) → IsAt parts i a → Says w (Carries a k)
        → (b : Cell) × IsAt parts last b × Says w (Carries b k)
    class_along i last links (one z link) a at carries = (a, at, carries)
    class_along i last links (more z j l rest link hands path) a at carries =
        let next = class_step z j a link (path_start parts j l rest path) hands at carries in
        class_along j l rest path next.0 next.1 next.2

  -- the class with which a chain starts
  abbrev pub SourceHas : Class → Source → Type 0
  SourceHas k (begins i c) = IsInput parts i × IsAt parts i c × In (input_classes w.r) k × Says w (Carries c k) × Says w (Begins c)
  SourceHas k (leaves s c) = (m : ℕ) × IsSplitterOf w parts lists m s × (k ≡ Split m)

  -- the class of a chain
  pub record Classed (chain : Chain) : Type 0 where
    pub class : Class
    pub listed : In (classes_of w.r) class
    pub source : SourceHas class chain.source
    pub at_last : (h : IsLongest parts chain) (c : Cell) → IsAt parts h.last c → Says w (Carries c class)
    pub at_half : (h : IsEmptyChain parts chain) → Says w (Carries h.half class)

  -- the class on the first part of a chain
  record Begun (source : Source) (first : ℕ) : Type 0 where
    pub class : Class
    pub listed : In (classes_of w.r) class
    pub source_has : SourceHas class source
    pub cell : Cell
    pub at : IsAt parts first cell
    pub carries : Says w (Carries cell class)

  begun_as : (source : Source) (first : ℕ) → IsLink parts first → StartsAs parts source first → Begun source first
  begun_as (begins i c) first link starts =
      let input = starts.1 in
      let part = input.part in
      let says = input_begins w parts lists i part input.is_i input in
      let cells : part.cell ≡ c = link_cell parts i part.cell c (input_link parts i input) (own_at w parts lists i part input.is_i) starts.2 in
      let begun = subst (λ x. Says w (Begins x)) cells says in
      let inside = reached_inside w part.cell (kept_part w parts lists i part input.is_i).reached in
      let found = begun_class w part.cell inside says in
      let carries = subst (λ x. Says w (Carries x found.0)) cells found.2 in
      record {
        class = found.0;
        listed = in_right (map Split (splitters_of w.r)) (input_classes w.r) found.0 found.1;
        source_has = (input, starts.2, found.1, carries, begun);
        cell = c;
        at = subst (λ x. IsAt parts x c) (sym starts.0) starts.2;
        carries = carries;
      }
  begun_as (leaves s c) first link starts =
      let named = splitter_named w parts lists s starts.0 in
      let m = named.0 in let n = named.1 in
      let going = feeds_going w parts lists s c first starts.1 in
      let inside = reached_inside w c going.reached in
      let front = going_inside w c inside going.dir going.goes in
      let side = half_of_splitter w parts lists m s n c starts.1.look.giver in
      let own : Says w (Carries c (Split m)) = subst (λ x. Says w (Carries x (Split m))) (sym side.1) (half_spot w parts lists m s n side.0).carries in
      record {
        class = Split m;
        listed = split_in w m n.below;
        source_has = (m, n, refl);
        cell = step going.dir c;
        at = going.there;
        carries = class_on w c inside going.dir (Split m) (split_in w m n.below) front going.goes own
            (λ on. let half = half_there w (step going.dir c) front on in
            link_shape w parts lists first (step going.dir c) (shape.Half half.0) half.1 link going.there half.2 refl);
      }

  longest_classed : (chain : Chain) → IsLongest parts chain → Classed chain
  longest_classed chain h =
      let begun = begun_as chain.source h.first (path_start parts h.first h.last chain.links h.path) h.starts in
      let far = class_along begun.class begun.listed h.first h.last chain.links h.path begun.cell begun.at begun.carries in
      record {
        class = begun.class;
        listed = begun.listed;
        source = begun.source_has;
        at_last = λ g c at.
            let lasts : g.last ≡ h.last = (path_same parts g.first g.last h.first h.last chain.links chain.links g.path h.path refl).1 in
            let link : IsLink parts h.last = path_stop_here h in
            let cells : far.0 ≡ c = link_cell parts h.last far.0 c link far.1 (subst (λ x. IsAt parts x c) lasts at) in
            subst (λ x. Says w (Carries x begun.class)) cells far.2;
        at_half = λ g. absurd (path_some parts h.first h.last chain.links h.path g.no_link);
      }
    where
      path_stop_here : (h : IsLongest parts chain) → IsLink parts h.last
      path_stop_here h = path_stop parts h.first h.last chain.links h.path

  empty_classed : (chain : Chain) → IsEmptyChain parts chain → Classed chain
  empty_classed chain h =
      let named = splitter_named w parts lists h.from h.is_from in
      let m = named.0 in let n = named.1 in
      let has : SourceHas (Split m) (leaves h.from h.half) = (m, n, refl) in
      let side = half_of_splitter w parts lists m h.from n h.half h.feeds.look.giver in
      let own : Says w (Carries h.half (Split m)) = subst (λ x. Says w (Carries x (Split m))) (sym side.1) (half_spot w parts lists m h.from n side.0).carries in
      record {
        class = Split m;
        listed = split_in w m n.below;
        source = subst (SourceHas (Split m)) (sym h.source) has;
        at_last = λ g c at. absurd (path_some parts g.first g.last chain.links g.path h.no_link);
        at_half = λ g.
            let sources : leaves h.from h.half ≡ leaves g.from g.half = sym h.source ∙ g.source in
            let halves : h.half ≡ g.half = cc in
            subst (λ x. Says w (Carries x (Split m))) halves own;
      }

  pub classed : (chain : Chain) → IsChain parts chain → Classed chain
  classed chain (inl h) = longest_classed chain h
  classed chain (inr h) = empty_classed chain h

  -- where a chain comes to a splitter, its class is behind
  pub class_before : (chain : Chain) (cl : Classed chain) (s : ℕ) (hop : Hop parts chain s) → Says w (Carries hop.half cl.class)
  class_before chain cl s hop = by hop.via where
    by : ((h : IsLongest parts chain) × (h.last ≡ hop.from_part)) ⊎ ((h : IsEmptyChain parts chain) × (h.from ≡ hop.from_part) × (h.half ≡ hop.half))
        → Says w (Carries hop.half cl.class)
    by (inl (h, e)) = cl.at_last h hop.half (subst (λ x. IsAt parts x hop.half) (sym e) hop.feeds.look.giver)
    by (inr (h, e, f)) = subst (λ x. Says w (Carries x cl.class)) f (cl.at_half h)
