-- Inputs that lead to outputs, and the edge of each chain that enters a splitter.
use Rattle.std.proofs.Common.{◌≡◌, ◌⊎◌, ℕ, ◌<◌, true, List, [], ◌++◌, map, cond, refl, sym, subst, inl, inr, ⊎_elim}
use Rattle.std.specs.List.{flat_map}
use Rattle.bt_parts.specs.declared.part.Cell.{Cell}
use Rattle.bt_parts.specs.declared.part.Dir.{Dir}
use Rattle.bt_parts.specs.declared.part.Kind.TheVariants as kind
use Rattle.bt_parts.specs.declared.part.Part.{Part}
use Rattle.bt_parts.specs.Cells.{opposite, IsInside}
use Rattle.bt_parts.specs.Layouts.{IsAt}
use Rattle.bt_net.specs.declared.network.Edge.{Edge}
use Rattle.bt_net.specs.declared.network.Target.TheVariants as to
use Rattle.bt_model.specs.Chains.{IsLink, IsInput, begins, enters, Chain, IsChain}
use Rattle.bt_model.specs.Shown.{ListsEach}
use Rattle.bt_model.proofs.ExistLemmas.{run_from, input_link, input_chain}
use Rattle.bt_facts.specs.declared.fact.Class.TheVariants.{Input}
use Rattle.bt_facts.specs.declared.fact.Fact.TheVariants.{Carries, Begins, Starts}
use Rattle.bt_facts.specs.declared.fact.Shape.{Shape}
use Rattle.bt_facts.specs.declared.fact.Shape.TheVariants as shape
use Rattle.bt_demands.specs.Classes.{class_of, is_through}
use Rattle.bt_facts.specs.Facts.{holds}
use Rattle.bt_rules.specs.Kept.{kind_of, begun, IsKeptPart}
use Rattle.bt_facts.specs.Rules.{Rule, exactly_one, Keeps}
use Rattle.bt_facts.specs.Spots.{border_of}
use Rattle.bt_demands.specs.Starts.{start_rules}
use Rattle.bt_facts.proofs.Geometry.{in_border}
use Rattle.bt_facts.proofs.Keeping.{In, in_map}
use Rattle.bt_rules.proofs.kept.Readings.{all_left, all_right, all_flat, one_mapped, one_holds}
use Rattle.bt_rules.proofs.kept.Geometry.{border_inside}
use Rattle.bt_rules.proofs.kept.NetFacts.{IsEdge}
use Rattle.bt_rules.proofs.kept.Solved.{Solved, Says, Kept, input_kept}
use Rattle.bt_rules.proofs.kept.GoingFacts.{begun_there}
use Rattle.bt_rules.proofs.kept.PartFacts.{part_on, part_there, at_there, well_placed}
use Rattle.bt_rules.proofs.kept.RingFacts.{begun_unfed, none_ringed}
use Rattle.bt_rules.proofs.kept.ClassFacts.{orderly, Classed}
use Rattle.bt_rules.proofs.kept.MeetFacts.{ComesInto, comes_half}
use Rattle.bt_rules.proofs.kept.IntoFacts.{in_half, in_rank, into_class, into_edge}

module _ (w : Solved) (i : ℕ) (lt : i < w.r.net.inputs) (is : is_through w.r i ≡ true) where
  one_there : List Rule
  one_there = exactly_one (map (λ c. Starts c i) (border_of w.r.rect))

  each_there : List Rule
  each_there = flat_map (start_rules i) (border_of w.r.rect)

  through_kept : Kept w (one_there ++ each_there)
  unfolding one_there each_there
  through_kept = subst (λ b. Kept w (cond {A = List Rule} b (exactly_one (map (λ c. Starts c i) (border_of w.r.rect)) ++ flat_map (start_rules i) (border_of w.r.rect)) [])) is (input_kept w i lt)

  one_kept : Kept w (exactly_one (map (λ c. Starts c i) (border_of w.r.rect)))
  unfolding one_there
  one_kept = all_left (Keeps w.reading) one_there each_there through_kept

  start_kept : (c : Cell) → In (border_of w.r.rect) c → Kept w (start_rules i c)
  unfolding each_there
  start_kept c there = all_flat (Keeps w.reading) (start_rules i) c (border_of w.r.rect) (all_right (Keeps w.reading) one_there each_there through_kept) there

  -- it begins somewhere
  pub through_there : (c : Cell) × IsInside w.r.rect c × Says w (Begins c) × Says w (Carries c (Input i))
  through_there =
      let found = one_mapped w.reading (λ c. Starts c i) (border_of w.r.rect) (one_kept.0 tt) in
      let kept = start_kept found.0 found.1 in
      (found.0, border_inside w.r.rect found.0 found.1, ⊎_elim (λ e. e) (λ none. absurd none) (kept.0 (found.2, tt)), ⊎_elim (λ e. e) (λ none. absurd none) (kept.1.0 (found.2, tt)))

  begun_border : (c : Cell) → IsInside w.r.rect c → Says w (Begins c) → In (border_of w.r.rect) c
  begun_border c h s = let there = begun_there w c h s in in_border w.r.rect (opposite there.0) c h there.1

  -- and nowhere else
  pub through_one : (a b : Cell) → IsInside w.r.rect a → IsInside w.r.rect b → Says w (Begins a) → Says w (Begins b) → Says w (Carries a (Input i)) → Says w (Carries b (Input i)) → a ≡ b
  through_one a b h k s t x y =
      let a_in = begun_border a h s in
      let b_in = begun_border b k t in
      let starts_a : Says w (Starts a i) = ⊎_elim (λ e. e) (λ none. absurd none) ((start_kept a a_in).1.1.0 (s, (x, tt))) in
      let starts_b : Says w (Starts b i) = ⊎_elim (λ e. e) (λ none. absurd none) ((start_kept b b_in).1.1.0 (t, (y, tt))) in
      let same : Starts a i ≡ Starts b i = one_holds w.reading (Starts a i) (Starts b i) (map (λ c. Starts c i) (border_of w.r.rect)) one_kept.1
      (in_map (λ c. Starts c i) (border_of w.r.rect) a a_in) (in_map (λ c. Starts c i) (border_of w.r.rect) b b_in) starts_a starts_b in
      cc

module _ (w : Solved) (parts : List Part) (lists : ListsEach (IsKeptPart w.r w.reading) parts) where
  -- where an input begins stands the first part of one
  pub begun_input : (c : Cell) → IsInside w.r.rect c → Says w (Begins c) → (i : ℕ) × IsInput parts i × IsAt parts i c
  begun_input c h says_begins =
      let there = begun_there w c h says_begins in
      ⊎_elim (λ s. made there.0 shape.Belt (inl refl) s) (λ s. made there.0 shape.Entrance (inr refl) s) there.2
    where
      made : (dir : Dir) (of : Shape) → (kind_of of ≡ kind.Belt) ⊎ (kind_of of ≡ kind.Entrance) → Says w (holds c of dir) → (i : ℕ) × IsInput parts i × IsAt parts i c
      made dir of kinds says =
          let part = part_there w parts lists of dir c (begun c h says_begins) says in
          let at = at_there w parts lists part.0 of dir c part.1 in
          let link : IsLink parts part.0 = (part_on w of dir c, part.1, λ e. ⊎_elim (λ k. let a = k in let b = e in cc) (λ k. let a = k in let b = e in cc) kinds) in (
            part.0,
            record { part = part_on w of dir c; is_i = part.1; kind = kinds; unfed = λ p feeds. begun_unfed w parts lists c h says_begins part.0 p link at feeds },
            at,
          )

  -- the chain from there
  pub begun_chain : (c : Cell) → IsInside w.r.rect c → Says w (Begins c) → (chain : Chain) × IsChain parts chain × ((i : ℕ) × (chain.source ≡ begins i c))
  begun_chain c h says =
      let first = begun_input c h says in
      let run = run_from parts (orderly w parts lists) (none_ringed w parts lists) first.0 (input_link parts first.0 first.1) in (
        record { source = begins first.0 c; links = run.links; sink = run.sink },
        input_chain parts (well_placed w parts lists) first.0 run.last c run.links run.sink first.1 first.2 run.path run.ends,
        (first.0, refl),
      )

  -- a chain that enters a splitter is that of an edge, and has its class
  pub enters_edge : (c : Chain) (k : ℕ) → IsChain parts c → c.sink ≡ enters k → (cl : Classed w parts lists c)
      → (e : ℕ) × (edge : Edge) × (t : ℕ) × IsEdge w e edge × (edge.target ≡ to.Split t) × ComesInto w parts lists c t (in_half w parts lists t (in_rank w parts lists t e))
      × (cl.class ≡ class_of w.r.demands edge)
  enters_edge c k is sink cl =
      let into = comes_half w parts lists c k is sink in
      let found = into_edge w parts lists c into.0 into.1 into.2 in
      let comes : ComesInto w parts lists c into.0 (in_half w parts lists into.0 (in_rank w parts lists into.0 found.0)) = subst (ComesInto w parts lists c into.0) (sym found.4) into.2 in
      (found.0, found.1, into.0, found.2, found.3, comes, into_class w parts lists found.0 found.1 into.0 c found.2 found.3 comes cl)
