-- The chain of each edge into a splitter, by the half that takes it.
use Rattle.std.proofs.Common.{◌≡◌, ◌⊎◌, ℕ, zero, suc, ◌<◌, List, [], ◌∷◌, length, map, Some, refl, sym, ◌∙◌, ap, subst, inl, inr, arith}
use Rattle.std.specs.List.{slice_get, filter}
use Rattle.std.proofs.lemmas.Option.{none-some}
use Rattle.bt_parts.specs.declared.part.Cell.{Cell}
use Rattle.bt_parts.specs.declared.part.Part.{Part}
use Rattle.bt_parts.specs.Cells.{step}
use Rattle.bt_parts.specs.Layouts.{IsAt}
use Rattle.bt_net.specs.declared.network.Edge.{Edge}
use Rattle.bt_net.specs.declared.network.Target.TheVariants as to
use Rattle.bt_net.specs.Network.{enters as enters_splitter, EndsIn}
use Rattle.bt_model.specs.Chains.{ends, enters, Chain, EndsAs, IsLongest, IsEmptyChain, IsChain}
use Rattle.bt_model.specs.Shown.{ListsEach}
use Rattle.bt_model.proofs.ChainLemmas.{path_stop}
use Rattle.bt_model.proofs.SameChain.{Hop}
use Rattle.bt_facts.specs.declared.fact.Fact.TheVariants.{Carries, EntersLesser}
use Rattle.bt_facts.specs.declared.fact.Half.{Half}
use Rattle.bt_facts.specs.declared.fact.Half.TheVariants.{Greater}
use Rattle.bt_demands.specs.Classes.{class_of, classes_into}
use Rattle.bt_facts.specs.Spots.{behind, half_at}
use Rattle.bt_rules.specs.Kept.{IsKeptPart}
use Rattle.bt_facts.proofs.Geometry.{step_behind}
use Rattle.bt_rules.proofs.kept.ListFacts.{element_at}
use Rattle.bt_rules.proofs.kept.RankFacts.{rank, rank_at, rank_one, rank_few, at_rank}
use Rattle.bt_rules.proofs.Classed.{enters_target, target_enters}
use Rattle.bt_rules.proofs.kept.NetFacts.{IsEdge, edge_ends, class_in}
use Rattle.bt_rules.proofs.kept.Solved.{Solved, Says}
use Rattle.bt_rules.proofs.kept.CellFacts.{one_class}
use Rattle.bt_rules.proofs.kept.RingFacts.{link_cell}
use Rattle.bt_rules.proofs.kept.SplitFacts.{IsSplitterOf, splitter_there, same_stand, half_spot, one_half}
use Rattle.bt_rules.proofs.kept.ClassFacts.{Classed, path_same, path_some}
use Rattle.bt_rules.proofs.kept.PortFacts.{half_by, placed, placed_one, in_taken, in_edge}
use Rattle.bt_rules.proofs.kept.MeetFacts.{ComesInto, TakesIn, comes_taken, comes_class, taken_comes}

map_at : {X Y : Type 0} (f : X → Y) (xs : List X) (j : ℕ) (x : X) → slice_get xs j ≡ Some x → slice_get (map f xs) j ≡ Some (f x)
map_at f [] j x at = absurd (none-some x at)
map_at f (y ∷ ys) zero x at = ap (λ z. Some (f z)) (let e : y ≡ x = cc in e)
map_at f (y ∷ ys) (suc j) x at = map_at f ys j x at

map_long : {X Y : Type 0} (f : X → Y) (xs : List X) → length (map f xs) ≡ length xs
map_long f [] = refl
map_long f (x ∷ xs) = ap suc (map_long f xs)

module _ (w : Solved) (parts : List Part) (lists : ListsEach (IsKeptPart w.r w.reading) parts) where
  -- the half that takes the edge at this rank
  abbrev pub in_half : ℕ → ℕ → Half
  in_half t j = placed (half_by (w.reading (EntersLesser t))) j

  -- the rank of an edge into a splitter
  abbrev pub in_rank : ℕ → ℕ → ℕ
  in_rank t e = rank (enters_splitter t) w.r.net.edges e

  edge_taken : (e : ℕ) (edge : Edge) (t i : ℕ) → IsEdge w e edge → edge.target ≡ to.Split t → (n : IsSplitterOf w parts lists t i)
      → TakesIn w parts lists t i n (in_half t (in_rank t e)) × Says w (Carries (behind n.dir (half_at (in_half t (in_rank t e)) n.dir n.cell)) (class_of w.r.demands edge))
  edge_taken e edge t i is targets n =
      let own = target_enters t edge targets in
      let near = (half_spot w parts lists t i n Greater).inside in
      let few = rank_few (enters_splitter t) w.r.net.edges e edge is own (w.is_request.net.wired.few_in t n.below) in
      let at = map_at (class_of w.r.demands) (filter (enters_splitter t) w.r.net.edges) (in_rank t e) edge (rank_at (enters_splitter t) w.r.net.edges e edge is own) in
      in_taken w t n.below n.cell n.dir n.inside near n.at (in_rank t e) (class_of w.r.demands edge) few at

  -- a chain that comes in where the edge is taken has the edge's class
  pub into_class : (e : ℕ) (edge : Edge) (t : ℕ) (c : Chain) → IsEdge w e edge → edge.target ≡ to.Split t → ComesInto w parts lists c t (in_half t (in_rank t e))
      → (cl : Classed w parts lists c) → cl.class ≡ class_of w.r.demands edge
  into_class e edge t c is targets a cl =
      let taken = edge_taken e edge t a.index is targets a.is in
      one_class w (behind a.is.dir (half_at (in_half t (in_rank t e)) a.is.dir a.is.cell)) taken.0.0 cl.class (class_of w.r.demands edge)
      cl.listed (class_in w e edge is (class_of w.r.demands edge) refl) (comes_class w parts lists c t (in_half t (in_rank t e)) a cl) taken.1

  -- there is one
  pub into_chain : (e : ℕ) (edge : Edge) (t : ℕ) → IsEdge w e edge → edge.target ≡ to.Split t
      → (c : Chain) × IsChain parts c × ComesInto w parts lists c t (in_half t (in_rank t e))
  into_chain e edge t is targets =
      let lt : t < w.r.net.splitters = subst (EndsIn w.r.net) targets (edge_ends w e edge is) in
      let there = splitter_there w parts lists t lt in
      taken_comes w parts lists t there.0 there.1 (in_half t (in_rank t e)) (edge_taken e edge t there.0 is targets there.1).0

  -- and where a chain comes in, an edge is taken
  pub into_edge : (c : Chain) (t : ℕ) (h : Half) → ComesInto w parts lists c t h
      → (e : ℕ) × (edge : Edge) × IsEdge w e edge × (edge.target ≡ to.Split t) × (in_half t (in_rank t e) ≡ h)
  into_edge c t h a =
      let n = a.is in
      let near = (half_spot w parts lists t a.index n Greater).inside in
      let found = in_edge w t n.below n.cell n.dir n.inside near n.at h (comes_taken w parts lists c t h a) in
      edge_at t h found.0 found.1 found.2
    where
      edge_at : (t : ℕ) (h : Half) (j : ℕ) → j < length (classes_into w.r t) → placed (half_by (w.reading (EntersLesser t))) j ≡ h
          → (e : ℕ) × (edge : Edge) × IsEdge w e edge × (edge.target ≡ to.Split t) × (in_half t (in_rank t e) ≡ h)
      edge_at t h j below side =
          let long = map_long (class_of w.r.demands) (filter (enters_splitter t) w.r.net.edges) in
          let edge = element_at (filter (enters_splitter t) w.r.net.edges) j (omega arith) in
          let place = at_rank (enters_splitter t) w.r.net.edges j edge.0 edge.1 in
          (place.0, edge.0, place.1, enters_target t edge.0 place.2, ap (in_half t) place.3 ∙ side)

  -- a chain comes to a splitter from one cell
  hop_one : (c : Chain) (s : ℕ) (f g : Hop parts c s) → f.half ≡ g.half
  hop_one c s f g = by f.via g.via where
    by : ((h : IsLongest parts c) × (h.last ≡ f.from_part)) ⊎ ((h : IsEmptyChain parts c) × (h.from ≡ f.from_part) × (h.half ≡ f.half))
        → ((h : IsLongest parts c) × (h.last ≡ g.from_part)) ⊎ ((h : IsEmptyChain parts c) × (h.from ≡ g.from_part) × (h.half ≡ g.half)) → f.half ≡ g.half
    by (inl (h, a)) (inl (k, b)) =
        let lasts : h.last ≡ k.last = (path_same parts h.first h.last k.first k.last c.links c.links h.path k.path refl).1 in
        link_cell parts k.last f.half g.half (path_stop parts k.first k.last c.links k.path)
        (subst (λ x. IsAt parts x f.half) (sym a ∙ lasts) f.feeds.look.giver) (subst (λ x. IsAt parts x g.half) (sym b) g.feeds.look.giver)
    by (inl (h, a)) (inr (k, b, d)) = absurd (path_some parts h.first h.last c.links h.path k.no_link)
    by (inr (h, a, d)) (inl (k, b)) = absurd (path_some parts k.first k.last c.links k.path h.no_link)
    by (inr (h, a, d)) (inr (k, b, z)) =
        let sources = sym h.source ∙ k.source in
        let halves : h.half ≡ k.half = cc in
        sym d ∙ halves ∙ z

  -- and into one half of one splitter
  pub comes_once : (c : Chain) (t u : ℕ) (g h : Half) → ComesInto w parts lists c t g → ComesInto w parts lists c u h → (t ≡ u) × (g ≡ h)
  comes_once c t u g h a b =
      let sinks : enters a.index ≡ enters b.index = sym a.sink ∙ b.sink in
      let indices : b.index ≡ a.index = cc in
      let moved = subst (λ x. (n : IsSplitterOf w parts lists u x) × (hop : Hop parts c x) × (hop.half ≡ behind n.dir (half_at h n.dir n.cell))) indices (b.is, b.hop, b.there) in
      by moved.0 moved.1 moved.2
    where
      by : (m : IsSplitterOf w parts lists u a.index) (hop : Hop parts c a.index) → hop.half ≡ behind m.dir (half_at h m.dir m.cell) → (t ≡ u) × (g ≡ h)
      by m hop there =
          let stand = same_stand w parts lists t u a.index a.is m in
          let backs : behind m.dir (half_at g m.dir m.cell) ≡ behind m.dir (half_at h m.dir m.cell) =
          sym (ap (λ d. behind d (half_at g d a.is.cell)) stand.1 ∙ ap (λ z. behind m.dir (half_at g m.dir z)) stand.0) ∙ sym a.there ∙ hop_one c a.index a.hop hop ∙ there in
          (stand.2, one_half m.dir m.cell g h (sym (step_behind m.dir (half_at g m.dir m.cell)) ∙ ap (step m.dir) backs ∙ step_behind m.dir (half_at h m.dir m.cell)))

  -- so no two edges have one chain
  pub into_once : (d e : ℕ) (a b : Edge) (t u : ℕ) (c : Chain) → IsEdge w d a → IsEdge w e b → a.target ≡ to.Split t → b.target ≡ to.Split u
      → ComesInto w parts lists c t (in_half t (in_rank t d)) → ComesInto w parts lists c u (in_half u (in_rank u e)) → d ≡ e
  into_once d e a b t u c is_a is_b to_t to_u x y =
      let same = comes_once c t u (in_half t (in_rank t d)) (in_half u (in_rank u e)) x y in
      let own : b.target ≡ to.Split t = to_u ∙ ap (λ z. to.Split z) (sym same.0) in
      let halves : in_half t (in_rank t d) ≡ in_half t (in_rank t e) = same.1 ∙ ap (λ z. in_half z (in_rank z e)) (sym same.0) in
      rank_one (enters_splitter t) w.r.net.edges d e a b is_a (target_enters t a to_t) is_b (target_enters t b own)
      (placed_one (half_by (w.reading (EntersLesser t))) (in_rank t d) (in_rank t e)
      (rank_few (enters_splitter t) w.r.net.edges d a is_a (target_enters t a to_t) (w.is_request.net.wired.few_in t x.is.below))
      (rank_few (enters_splitter t) w.r.net.edges e b is_b (target_enters t b own) (w.is_request.net.wired.few_in t x.is.below)) halves)

  -- where a chain ends, its class is on the last part
  pub ends_carry : (c : Chain) (i : ℕ) (x : Cell) → IsChain parts c → c.sink ≡ ends i → IsAt parts i x → (cl : Classed w parts lists c) → Says w (Carries x cl.class)
  ends_carry c i x (inl h) e at cl =
      let last = subst (λ z. EndsAs parts z h.last) e h.ends in
      cl.at_last h x (subst (λ z. IsAt parts z x) (sym last.0) at)
  ends_carry c i x (inr h) e at cl = absurd (let s = sym h.sink ∙ e in cc)
