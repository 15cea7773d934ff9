-- By which half a chain leaves a splitter, and by which it comes into one.
use Rattle.std.proofs.Common.{◌≡◌, ℕ, List, [], refl, sym, ◌∙◌, ap, subst, inl, inr, ⊎_elim}
use Rattle.bt_parts.specs.declared.part.Cell.{Cell}
use Rattle.bt_parts.specs.declared.part.Dir.{Dir}
use Rattle.bt_parts.specs.declared.part.Kind.TheVariants as kind
use Rattle.bt_parts.specs.declared.part.Part.{Part}
use Rattle.bt_parts.specs.Cells.{step, IsInside}
use Rattle.bt_parts.specs.Layouts.{HasPart, IsAt}
use Rattle.bt_parts.proofs.Places.{same_part}
use Rattle.bt_model.specs.Chains.{IsSplitter, Source, begins, leaves, enters, Chain, EndsAs, StartsAs, IsChain}
use Rattle.bt_model.specs.Handing.{FeedsFrom}
use Rattle.bt_model.specs.Shown.{ListsEach}
use Rattle.bt_model.proofs.ChainLemmas.{chain_from}
use Rattle.bt_model.proofs.SameChain.{Hop, hop_of, hop_half, same_hop}
use Rattle.bt_facts.specs.declared.fact.Class.TheVariants.{Split}
use Rattle.bt_facts.specs.declared.fact.Fact.TheVariants.{Carries, HalfOn, Goes}
use Rattle.bt_facts.specs.declared.fact.Half.{Half}
use Rattle.bt_facts.specs.declared.fact.Half.TheVariants.{Lesser, Greater}
use Rattle.bt_facts.specs.declared.fact.Shape.{Shape}
use Rattle.bt_facts.specs.declared.fact.Shape.TheVariants as shape
use Rattle.bt_facts.specs.Spots.{behind, half_at}
use Rattle.bt_rules.specs.Kept.{kind_of, IsKeptPart}
use Rattle.bt_facts.proofs.Geometry.{step_behind}
use Rattle.bt_facts.proofs.Keeping.{In}
use Rattle.bt_rules.proofs.kept.Solved.{Solved, Says}
use Rattle.bt_rules.proofs.kept.CellFacts.{one_dir, half_on, one_place}
use Rattle.bt_demands.specs.Classes.{input_classes}
use Rattle.bt_rules.proofs.kept.NetFacts.{input_no_split}
use Rattle.bt_rules.proofs.kept.GoingFacts.{giver_there, Takes, by_belt, by_entrance, by_half}
use Rattle.bt_rules.proofs.kept.Arrivals.{reached_inside}
use Rattle.bt_rules.proofs.kept.BackFacts.{giver_reached}
use Rattle.bt_rules.proofs.kept.PartFacts.{part_on, part_there, at_there, well_placed}
use Rattle.bt_rules.proofs.kept.HandFacts.{feeds_going, going_feeds, next_there}
use Rattle.bt_rules.proofs.kept.RingFacts.{none_ringed}
use Rattle.bt_rules.proofs.kept.SplitFacts.{IsSplitterOf, splitter_is, splitter_named, one_splitter, same_stand, half_spot, half_of_splitter, one_half}
use Rattle.bt_rules.proofs.kept.ClassFacts.{orderly, Classed, SourceHas, class_before}
use Rattle.bt_rules.proofs.kept.ComeFacts.{comes}
use Rattle.bt_model.proofs.ExistLemmas.{run_from, half_chain, empty_chain, part_cases}

module _ (w : Solved) (parts : List Part) (lists : ListsEach (IsKeptPart w.r w.reading) parts) where
  abbrev Named : ℕ → ℕ → Type 0
  Named = IsSplitterOf w parts lists

  -- the chain comes into the splitter with this number by this half
  pub record ComesInto (chain : Chain) (t : ℕ) (h : Half) : Type 0 where
    pub index : ℕ
    pub is : IsSplitterOf w parts lists t index
    pub sink : chain.sink ≡ enters index
    pub hop : Hop parts chain index
    pub there : hop.half ≡ behind is.dir (half_at h is.dir is.cell)

  -- the chain leaves the splitter with this number by this half
  pub record LeavesBy (chain : Chain) (s : ℕ) (h : Half) : Type 0 where
    pub index : ℕ
    pub is : IsSplitterOf w parts lists s index
    pub source : chain.source ≡ leaves index (half_at h is.dir is.cell)

  -- the half of the splitter takes, or hands on
  abbrev pub TakesIn : (t i : ℕ) (n : IsSplitterOf w parts lists t i) → Half → Type 0
  TakesIn t i n h = IsInside w.r.rect (behind n.dir (half_at h n.dir n.cell)) × Says w (Goes (behind n.dir (half_at h n.dir n.cell)) n.dir)

  abbrev pub GivesOut : (s i : ℕ) (n : IsSplitterOf w parts lists s i) → Half → Type 0
  GivesOut s i n h = Says w (Goes (half_at h n.dir n.cell) n.dir)

  -- the stand of a splitter is one
  pub one_stand : (t i j : ℕ) (n : IsSplitterOf w parts lists t i) (m : IsSplitterOf w parts lists t j) → (n.cell ≡ m.cell) × (n.dir ≡ m.dir)
  one_stand t i j n m = one_place w t n.below n.cell m.cell n.dir m.dir n.inside m.inside n.at m.at

  pub same_half : (t i j : ℕ) (n : IsSplitterOf w parts lists t i) (m : IsSplitterOf w parts lists t j) (h : Half) → half_at h n.dir n.cell ≡ half_at h m.dir m.cell
  same_half t i j n m h = let same = one_stand t i j n m in ap (λ d. half_at h d n.cell) same.1 ∙ ap (λ c. half_at h m.dir c) same.0

  pub same_behind : (t i j : ℕ) (n : IsSplitterOf w parts lists t i) (m : IsSplitterOf w parts lists t j) (h : Half)
      → behind n.dir (half_at h n.dir n.cell) ≡ behind m.dir (half_at h m.dir m.cell)
  same_behind t i j n m h = ap (λ d. behind d (half_at h n.dir n.cell)) (one_stand t i j n m).1 ∙ ap (behind m.dir) (same_half t i j n m h)

  -- one chain comes into a half
  pub comes_one : (c d : Chain) (t : ℕ) (h : Half) → IsChain parts c → IsChain parts d → ComesInto c t h → ComesInto d t h → c ≡ d
  comes_one c d t h at_c at_d a b =
      let indices : b.index ≡ a.index = one_splitter w parts lists t b.index a.index b.is a.is in
      let cells : b.hop.half ≡ a.hop.half = b.there ∙ same_behind t b.index a.index b.is a.is h ∙ sym a.there in
      let moved = subst (λ x. (sink : d.sink ≡ enters x) × (hop : Hop parts d x) × (hop.half ≡ a.hop.half)) indices (b.sink, b.hop, cells) in
      same_hop parts (orderly w parts lists) c d a.index at_c at_d a.sink moved.0 a.hop moved.1 (sym moved.2)

  -- one chain leaves by a half
  pub leaves_one : (c d : Chain) (s : ℕ) (h : Half) → IsChain parts c → IsChain parts d → LeavesBy c s h → LeavesBy d s h → c ≡ d
  leaves_one c d s h at_c at_d a b =
      chain_from parts (well_placed w parts lists) c d at_c at_d
      (a.source ∙ ap (λ x. leaves x (half_at h a.is.dir a.is.cell)) (one_splitter w parts lists s a.index b.index a.is b.is)
      ∙ ap (leaves b.index) (same_half s a.index b.index a.is b.is h) ∙ sym b.source)

  -- and by one half
  pub leaves_half : (c : Chain) (s t : ℕ) (g h : Half) → LeavesBy c s g → LeavesBy c t h → (s ≡ t) × (g ≡ h)
  leaves_half c s t g h a b =
      let sources : leaves a.index (half_at g a.is.dir a.is.cell) ≡ leaves b.index (half_at h b.is.dir b.is.cell) = sym a.source ∙ b.source in
      let indices : a.index ≡ b.index = cc in
      let cells : half_at g a.is.dir a.is.cell ≡ half_at h b.is.dir b.is.cell = cc in
      let stand = same_stand w parts lists s t b.index (subst (IsSplitterOf w parts lists s) indices a.is) b.is in
      (stand.2, one_half b.is.dir b.is.cell g h (sym (ap (λ x. half_at g x a.is.cell) (turned indices) ∙ ap (λ x. half_at g b.is.dir x) (stood indices)) ∙ cells))
    where
      whole : a.index ≡ b.index → part_on w (shape.Half Lesser) a.is.dir a.is.cell ≡ part_on w (shape.Half Lesser) b.is.dir b.is.cell
      whole indices = same_part parts b.index (part_on w (shape.Half Lesser) a.is.dir a.is.cell) (part_on w (shape.Half Lesser) b.is.dir b.is.cell)
          (subst (λ x. HasPart parts x (part_on w (shape.Half Lesser) a.is.dir a.is.cell)) indices a.is.is_i) b.is.is_i

      stood : a.index ≡ b.index → a.is.cell ≡ b.is.cell
      stood indices = ap (λ p. p.cell) (whole indices)

      turned : a.index ≡ b.index → a.is.dir ≡ b.is.dir
      turned indices = ap (λ p. p.dir) (whole indices)

  -- the class of a chain that leaves a splitter is its own
  pub leaves_class : (c : Chain) (s : ℕ) (h : Half) → LeavesBy c s h → (cl : Classed w parts lists c) → cl.class ≡ Split s
  leaves_class c s h a cl = by (subst (SourceHas w parts lists cl.class) a.source cl.source) where
    by : SourceHas w parts lists cl.class (leaves a.index (half_at h a.is.dir a.is.cell)) → cl.class ≡ Split s
    by (m, n, same) = same ∙ ap Split (same_stand w parts lists m s a.index n a.is).2

  -- and a chain of a splitter's class leaves it
  pub class_leaves : (c : Chain) (s : ℕ) → IsChain parts c → (cl : Classed w parts lists c) → cl.class ≡ Split s → (h : Half) × LeavesBy c s h
  class_leaves c s is cl same = by c.source refl cl.source where
    by : (source : Source) → c.source ≡ source → SourceHas w parts lists cl.class source → (h : Half) × LeavesBy c s h
    by (begins i x) e has = absurd (input_no_split w s (subst (λ k. In (input_classes w.r) k) same has.2))
    by (leaves i x) e (m, n, own) =
        let numbers : Split m ≡ Split s = sym own ∙ same in
        let number : m ≡ s = cc in
        let at = leaves_at c i x is e in
        let side = half_of_splitter w parts lists m i n x at in
        made i x m n number e side.0 side.1
      where
        made : (i : ℕ) (x : Cell) (m : ℕ) (n : IsSplitterOf w parts lists m i) → m ≡ s → c.source ≡ leaves i x → (h : Half) → x ≡ half_at h n.dir n.cell → (h : Half) × LeavesBy c s h
        made i x m n number e h there =
            subst (λ z. (h : Half) × LeavesBy c z h) number (h, record { index = i; is = n; source = e ∙ ap (leaves i) there })

        leaves_at : (c : Chain) (i : ℕ) (x : Cell) → IsChain parts c → c.source ≡ leaves i x → IsAt parts i x
        leaves_at c i x (inl h) e = let starts = subst (λ z. StartsAs parts z h.first) e h.starts in starts.1.look.giver
        leaves_at c i x (inr h) e =
            let sources : leaves h.from h.half ≡ leaves i x = sym h.source ∙ e in
            let indices : h.from ≡ i = cc in
            let halves : h.half ≡ x = cc in
            subst (λ z. IsAt parts z x) indices (subst (λ z. IsAt parts h.from z) halves h.feeds.look.giver)

  -- ---- coming into a half

  sink_splitter : (c : Chain) (i : ℕ) → IsChain parts c → c.sink ≡ enters i → IsSplitter parts i
  sink_splitter c i (inl h) e = (subst (λ z. EndsAs parts z h.last) e h.ends).0
  sink_splitter c i (inr h) e =
      let sinks : enters h.to ≡ enters i = sym h.sink ∙ e in
      let same : h.to ≡ i = cc in
      subst (IsSplitter parts) same h.is_to

  -- a chain that enters a splitter comes into a half of it
  pub comes_half : (c : Chain) (i : ℕ) → IsChain parts c → c.sink ≡ enters i → (t : ℕ) × (h : Half) × ComesInto c t h
  comes_half c i is e =
      let named = splitter_named w parts lists i (sink_splitter c i is e) in
      let t = named.0 in let n = named.1 in
      let hop = hop_of parts c i is e in
      ⊎_elim
      (λ own. (t, Lesser, record { index = i; is = n; sink = e; hop = hop; there = own }))
      (λ greater. (t, Greater, record { index = i; is = n; sink = e; hop = hop; there = greater }))
      (hop_half parts c i (part_on w (shape.Half Lesser) n.dir n.cell) n.is_i refl hop)

  -- what feeds a splitter goes in its direction
  into_dir : (t i : ℕ) (n : IsSplitterOf w parts lists t i) (p : ℕ) (c : Cell) → FeedsFrom parts p c i → IsInside w.r.rect c × Says w (Goes c n.dir)
  into_dir t i n p c feeds =
      let going = feeds_going w parts lists p c i feeds in
      let same = same_part parts i (part_on w going.taker going.turned (step going.dir c)) (part_on w (shape.Half Lesser) n.dir n.cell) going.is_q n.is_i in
      (reached_inside w c going.reached, subst (λ d. Says w (Goes c d)) (by going.dir going.taker going.turned going.takes (ap (λ x. x.kind) same) (ap (λ x. x.dir) same)) going.goes)
    where
      by : (dir : Dir) (of : Shape) (turned : Dir) → Takes dir of turned → kind_of of ≡ kind.Splitter → turned ≡ n.dir → dir ≡ n.dir
      by dir of turned (by_belt way apart) k e = absurd (cc)
      by dir of turned by_entrance k e = absurd (cc)
      by dir of turned (by_half half) k e = e

  pub comes_taken : (c : Chain) (t : ℕ) (h : Half) (a : ComesInto c t h) → TakesIn t a.index a.is h
  comes_taken c t h a =
      let got = into_dir t a.index a.is a.hop.from_part a.hop.half a.hop.feeds in
      (subst (IsInside w.r.rect) a.there got.0, subst (λ x. Says w (Goes x a.is.dir)) a.there got.1)

  -- and its class is behind the half
  pub comes_class : (c : Chain) (t : ℕ) (h : Half) (a : ComesInto c t h) (cl : Classed w parts lists c)
      → Says w (Carries (behind a.is.dir (half_at h a.is.dir a.is.cell)) cl.class)
  comes_class c t h a cl = subst (λ x. Says w (Carries x cl.class)) a.there (class_before w parts lists c cl a.index a.hop)

  -- what a half takes comes by a chain
  pub taken_comes : (t i : ℕ) (n : IsSplitterOf w parts lists t i) (h : Half) → TakesIn t i n h → (c : Chain) × IsChain parts c × ComesInto c t h
  taken_comes t i n h taken =
      let spot = behind n.dir (half_at h n.dir n.cell) in
      let front : step n.dir spot ≡ half_at h n.dir n.cell = step_behind n.dir (half_at h n.dir n.cell) in
      let on = half_spot w parts lists t i n h in
      let half_there : Says w (HalfOn (step n.dir spot)) = subst (λ x. Says w (HalfOn x)) (sym front) (half_on w (half_at h n.dir n.cell) on.inside h n.dir on.says) in
      let reached = giver_reached w spot n.dir taken.0 taken.1 half_there in
      let giver = giver_there w spot taken.0 n.dir taken.1 in
      let p = part_there w parts lists giver.0 n.dir spot reached giver.2 in
      let feeds = going_feeds w parts lists spot n.dir reached taken.1 p.0 i (at_there w parts lists p.0 giver.0 n.dir spot p.1)
      (subst (IsAt parts i) (sym front) on.there) in
      let way = comes parts (orderly w parts lists) (none_ringed w parts lists) i spot (splitter_is w parts lists t i n) p.0 feeds in
      (way.chain, way.is_chain, record { index = i; is = n; sink = way.sink; hop = way.hop; there = way.from_there })

  -- ---- leaving by a half

  -- what a half hands on leaves by a chain
  pub given_leaves : (s i : ℕ) (n : IsSplitterOf w parts lists s i) (h : Half) → GivesOut s i n h → (c : Chain) × IsChain parts c × LeavesBy c s h
  given_leaves s i n h goes =
      let spot = half_at h n.dir n.cell in
      let on = half_spot w parts lists s i n h in
      let next = next_there w parts lists spot n.dir on.reached goes in
      let feeds = going_feeds w parts lists spot n.dir on.reached goes i next.0 on.there next.1 in
      let splitter = splitter_is w parts lists s i n in
      ⊎_elim
      (λ other. (
        record { source = leaves i spot; links = []; sink = enters next.0 },
        empty_chain parts i next.0 spot splitter other feeds,
        record { index = i; is = n; source = refl },
      ))
      (λ link.
      let run = run_from parts (orderly w parts lists) (none_ringed w parts lists) next.0 link in (
        record { source = leaves i spot; links = run.links; sink = run.sink },
        half_chain parts (orderly w parts lists) i next.0 run.last spot run.links run.sink splitter feeds run.path run.ends,
        record { index = i; is = n; source = refl },
      ))
      (part_cases parts next.0 next.1.part next.1.is_i)

  -- a half by which a chain leaves hands on
  pub leaves_given : (c : Chain) (s : ℕ) (h : Half) → IsChain parts c → (a : LeavesBy c s h) → GivesOut s a.index a.is h
  leaves_given c s h is a =
      let feeds = first_fed c is a.index (half_at h a.is.dir a.is.cell) a.source in
      let going = feeds_going w parts lists a.index (half_at h a.is.dir a.is.cell) feeds.0 feeds.1 in
      let on = half_spot w parts lists s a.index a.is h in
      subst (λ d. Says w (Goes (half_at h a.is.dir a.is.cell) d))
      (one_dir w (half_at h a.is.dir a.is.cell) on.inside going.of (shape.Half h) going.dir a.is.dir going.says on.says) going.goes
    where
      first_fed : (c : Chain) → IsChain parts c → (i : ℕ) (x : Cell) → c.source ≡ leaves i x → (q : ℕ) × FeedsFrom parts i x q
      first_fed c (inl h) i x e = let starts = subst (λ z. StartsAs parts z h.first) e h.starts in (h.first, starts.1)
      first_fed c (inr h) i x e =
          let sources : leaves h.from h.half ≡ leaves i x = sym h.source ∙ e in
          let indices : h.from ≡ i = cc in
          let halves : h.half ≡ x = cc in
          (h.to, subst (λ z. FeedsFrom parts z x h.to) indices (subst (λ z. FeedsFrom parts h.from z h.to) halves h.feeds))
