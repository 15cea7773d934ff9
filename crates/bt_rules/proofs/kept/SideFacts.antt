-- Sides: inputs of sided classes begin across their side alone, and each sided output stops on a cell of its own.
use Rattle.std.proofs.Common.{◌≡◌, ◌⊎◌, ◌≢◌, ℕ, ◌<◌, Bool, true, false, not, cond, ◌==◌, List, [], ◌∷◌, ◌++◌, map, refl, sym, ◌∙◌, ap, subst, inl, inr, ⊎_elim, arith, eqb-true}
use Rattle.std.specs.List.{flat_map, filter, range_with_len}
use Rattle.std.proofs.lemmas.Bool.{cases_eq, cases_order}
use Rattle.bt_parts.specs.declared.part.Cell.{Cell}
use Rattle.bt_parts.specs.declared.part.Dir.{Dir}
use Rattle.bt_parts.specs.Cells.{step, opposite, IsInside, cell_at}
use Rattle.bt_net.specs.declared.network.Demand.TheVariants as demand
use Rattle.bt_net.specs.declared.network.Edge.{Edge}
use Rattle.bt_net.specs.declared.network.End.{End}
use Rattle.bt_net.specs.declared.network.End.TheVariants.{Input, Output}
use Rattle.bt_net.specs.declared.network.Ends.{Ends}
use Rattle.bt_net.specs.declared.network.Ends.TheVariants.{One, Inputs, Outputs}
use Rattle.bt_net.specs.declared.network.Pin.{Pin}
use Rattle.bt_net.specs.declared.network.Side.{Side}
use Rattle.bt_net.specs.declared.network.Start.TheVariants as from
use Rattle.bt_net.specs.declared.network.Target.TheVariants as to
use Rattle.bt_net.specs.Network.{HasEnd}
use Rattle.bt_model.specs.Requests.{Names, IsPinnedInside, pinned}
use Rattle.bt_facts.specs.declared.fact.Fact.TheVariants.{Carries, Begins, Stops}
use Rattle.bt_facts.specs.declared.fact.Shape.{Shape}
use Rattle.bt_facts.specs.declared.fact.Shape.TheVariants as shape
use Rattle.bt_demands.specs.Classes.{class_of}
use Rattle.bt_facts.specs.Facts.{holds}
use Rattle.bt_rules.specs.Going.{runners}
use Rattle.bt_demands.specs.Pinning.{is_edge_of, end_shapes, end_classes, not_begun, begun_rules, stop_rules, apart_rules, pins_other, unpinned_rules, output_rules, side_end_rules, ends_named}
use Rattle.bt_facts.specs.Rules.{rule, not_all, OneHolds, Keeps}
use Rattle.bt_facts.specs.Spots.{others_than, border_of}
use Rattle.bt_facts.proofs.Decided.{same_dir}
use Rattle.bt_facts.proofs.Geometry.{in_others}
use Rattle.bt_facts.proofs.Keeping.{In, in_map, in_filter, in_range}
use Rattle.bt_rules.proofs.kept.Geometry.{border_inside}
use Rattle.bt_rules.proofs.kept.Readings.{all_left, all_right, all_mapped, all_flat}
use Rattle.bt_rules.proofs.kept.ListFacts.{all_at}
use Rattle.bt_rules.proofs.kept.NetFacts.{IsEdge, input_by, output_by}
use Rattle.bt_rules.proofs.kept.Solved.{Solved, Says, Kept, said, not_said, one_outside, demand_kept}
use Rattle.bt_rules.proofs.kept.PinFacts.{HasPin, in_at, in_place, pin_cases, side_cases, one_demand, one_pin, one_output, pin_class_output, pin_ends}

-- the cells inside that pins name
pub pin_inside : (w : Solved) (pin : Pin) → HasPin w pin → IsInside w.r.rect (pinned pin)
pin_inside w pin there = let place = in_place w.r.demands (demand.Pin pin) there in all_at (IsPinnedInside w.r.rect) w.r.demands place.0 (demand.Pin pin) w.is_request.pins_inside place.1

not_eqb : (a b : ℕ) → a ≢ b → (a == b) ≡ false
not_eqb a b apart = by (a == b) refl where
  by : (x : Bool) → (a == b) ≡ x → x ≡ false
  by true e = absurd (apart (eqb-true a b e))
  by false e = refl

module _ (w : Solved) where
  -- an end that is named is one of them
  named_in : (ends : Ends) (e : End) → HasEnd w.r.net e → Names ends e → In (ends_named w.r ends) e
  named_in (One one) e has named = inl named
  named_in Inputs (Input i) has named = in_map Input (range_with_len 0 w.r.net.inputs) i (in_range 0 w.r.net.inputs i (omega arith) (omega (arith, has)))
  named_in Inputs (Output o) has named = absurd named
  named_in Outputs (Input i) has named = absurd named
  named_in Outputs (Output o) has named = in_map Output (range_with_len 0 w.r.net.outputs) o (in_range 0 w.r.net.outputs o (omega arith) (omega (arith, has)))

  side_kept : (side : Side) → In w.r.demands (demand.Side side) → (e : End) → HasEnd w.r.net e → Names side.ends e → Kept w (side_end_rules w.r side.dir e)
  side_kept side there e has named =
      all_flat (Keeps w.reading) (side_end_rules w.r side.dir) e (ends_named w.r side.ends) (demand_kept w (demand.Side side) there) (named_in side.ends e has named)

  class_of_end : (e : End) (n : ℕ) (edge : Edge) → IsEdge w n edge → is_edge_of e edge ≡ true → In (end_classes w.r e) (class_of w.r.demands edge)
  class_of_end e n edge is own =
      in_map (class_of w.r.demands) (filter (is_edge_of e) w.r.net.edges) edge (in_filter (is_edge_of e) w.r.net.edges edge (in_at w.r.net.edges n edge is) own)

  -- an input that begins on the border is turned away from its side
  pub side_turned : (side : Side) → In w.r.demands (demand.Side side) → (k : ℕ) → k < w.r.net.inputs → Names side.ends (Input k)
      → (n : ℕ) (edge : Edge) → IsEdge w n edge → edge.start ≡ from.Input k → (c : Cell) → In (border_of w.r.rect) c
      → Says w (Begins c) → Says w (Carries c (class_of w.r.demands edge)) → (of : Shape) (dir : Dir) → In (end_shapes (Input k)) of → Says w (holds c of dir) → dir ≡ opposite side.dir
  side_turned side there k lt named n edge is starts c at begins carries of dir shaped says = ⊎_elim (λ e. e) (λ apart. absurd (never apart)) (same_dir dir (opposite side.dir))
    where
      at_class : Kept w (begun_rules w.r.rect side.dir (class_of w.r.demands edge))
      at_class = all_flat (Keeps w.reading) (begun_rules w.r.rect side.dir) (class_of w.r.demands edge) (end_classes w.r (Input k)) (side_kept side there (Input k) lt named)
          (class_of_end (Input k) n edge is (input_by k edge starts))

      at_cell : Kept w (flat_map (not_begun (class_of w.r.demands edge) c) (others_than (opposite side.dir)))
      at_cell = all_flat (Keeps w.reading) (λ x. flat_map (not_begun (class_of w.r.demands edge) x) (others_than (opposite side.dir))) c (border_of w.r.rect) at_class at

      at_dir : dir ≢ opposite side.dir → Kept w (not_begun (class_of w.r.demands edge) c dir)
      at_dir apart = all_flat (Keeps w.reading) (not_begun (class_of w.r.demands edge) c) dir (others_than (opposite side.dir)) at_cell (in_others (opposite side.dir) dir (λ e. apart e))

      never : dir ≢ opposite side.dir → ⊥
      never apart = by shaped where
        by : In (end_shapes (Input k)) of → ⊥
        by (inl e) = (at_dir apart).0 (begins, (carries, (subst (λ x. Says w (holds c x dir)) e says, tt)))
        by (inr (inl e)) = (at_dir apart).1.0 (begins, (carries, (subst (λ x. Says w (holds c x dir)) e says, tt)))
        by (inr (inr none)) = none

  -- ---- where outputs stop

  -- the first of the cells on which the output stops
  pub first_stop : ℕ → List Cell → Cell
  first_stop o [] = cell_at 0 0
  first_stop o (c ∷ cells) = cond (w.reading (Stops c o)) c (first_stop o cells)

  first_stops : (o : ℕ) (cells : List Cell) → OneHolds w.reading (map (λ c. Stops c o) cells) → In cells (first_stop o cells) × Says w (Stops (first_stop o cells) o)
  unfolding first_stop
  first_stops o [] h = absurd h
  first_stops o (c ∷ cells) h = ⊎_elim
      (λ s. subst (λ x. In (c ∷ cells) x × Says w (Stops x o)) (sym (ap (λ b. cond b c (first_stop o cells)) s)) (inl refl, s))
      (λ d.
      let rest = first_stops o cells (⊎_elim (λ s. absurd (not_said w (Stops c o) d s)) (λ more. more) h) in
      subst (λ x. In (c ∷ cells) x × Says w (Stops x o)) (sym (ap (λ b. cond b c (first_stop o cells)) d)) (inr rest.0, rest.1))
      (said w (Stops c o))

  -- the cell on which it stops
  pub stop_cell : ℕ → Cell
  stop_cell o = first_stop o (border_of w.r.rect)

  module _ (side : Side) (there : In w.r.demands (demand.Side side)) (o : ℕ) (lt : o < w.r.net.outputs) (named : Names side.ends (Output o)) where
    kept : Kept w (output_rules w.r side.dir o)
    kept = side_kept side there (Output o) lt named

    fronts : Kept w (flat_map (stop_rules w.r side.dir o) (border_of w.r.rect) ++ flat_map (apart_rules w.r.rect o) (range_with_len 0 o))
    fronts = all_left (Keeps w.reading) (flat_map (stop_rules w.r side.dir o) (border_of w.r.rect) ++ flat_map (apart_rules w.r.rect o) (range_with_len 0 o)) (flat_map (unpinned_rules o) w.r.demands) kept.1

    pub stops_there : In (border_of w.r.rect) (stop_cell o) × Says w (Stops (stop_cell o) o)
    unfolding stop_cell
    stops_there = first_stops o (border_of w.r.rect) (kept.0 tt)

    at_stop : Kept w (stop_rules w.r side.dir o (stop_cell o))
    at_stop = all_flat (Keeps w.reading) (stop_rules w.r side.dir o) (stop_cell o) (border_of w.r.rect)
        (all_left (Keeps w.reading) (flat_map (stop_rules w.r side.dir o) (border_of w.r.rect)) (flat_map (apart_rules w.r.rect o) (range_with_len 0 o)) fronts) stops_there.0

    -- it has the class of the output's edge
    pub stop_class : (n : ℕ) (edge : Edge) → IsEdge w n edge → edge.target ≡ to.Output o → Says w (Carries (stop_cell o) (class_of w.r.demands edge))
    stop_class n edge is targets = ⊎_elim (λ s. s) (λ none. absurd none)
        (all_mapped (Keeps w.reading) (λ k. rule (Stops (stop_cell o) o ∷ []) (Carries (stop_cell o) k ∷ [])) (class_of w.r.demands edge) (end_classes w.r (Output o)) at_stop.1
        (class_of_end (Output o) n edge is (output_by o edge targets)) (stops_there.1, tt))

    -- and a belt or an exit there looks out across the side
    pub stop_ends : (of : Shape) × In runners of × (IsInside w.r.rect (step side.dir (stop_cell o)) → ⊥) × Says w (holds (stop_cell o) of side.dir)
    stop_ends =
        let got = one_outside w (step side.dir (stop_cell o)) (holds (stop_cell o) shape.Belt side.dir ∷ holds (stop_cell o) shape.Exit side.dir ∷ []) (at_stop.0 (stops_there.1, tt)) in
        ⊎_elim (λ e. (shape.Belt, inl refl, got.0, e)) (λ more. ⊎_elim (λ e. (shape.Exit, inr (inl refl), got.0, e)) (λ none. absurd none) more) got.1

    -- where no earlier output stops
    stop_apart : (u : ℕ) → u < o → (c : Cell) → In (border_of w.r.rect) c → Says w (Stops c o) → Says w (Stops c u) → ⊥
    stop_apart u below c at p q =
        all_mapped (Keeps w.reading) (λ x. not_all (Stops x o ∷ Stops x u ∷ [])) c (border_of w.r.rect)
        (all_flat (Keeps w.reading) (apart_rules w.r.rect o) u (range_with_len 0 o)
        (all_right (Keeps w.reading) (flat_map (stop_rules w.r side.dir o) (border_of w.r.rect)) (flat_map (apart_rules w.r.rect o) (range_with_len 0 o)) fronts)
        (in_range 0 o u (omega arith) (omega (arith, below)))) at (p, (q, tt))

    -- and to which no other output is pinned
    stop_unpinned : (pin : Pin) → HasPin w pin → (u : ℕ) → pin.end ≡ Output u → pinned pin ≡ stop_cell o → u ≡ o
    stop_unpinned pin at u own same = ⊎_elim (λ e. e) (λ apart. absurd (never apart)) (cases_eq u o)
      where
        rules : Kept w (cond (pins_other o pin.end) (not_all (Stops (pinned pin) o ∷ []) ∷ []) [])
        rules = all_flat (Keeps w.reading) (unpinned_rules o) (demand.Pin pin) w.r.demands
            (all_right (Keeps w.reading) (flat_map (stop_rules w.r side.dir o) (border_of w.r.rect) ++ flat_map (apart_rules w.r.rect o) (range_with_len 0 o)) (flat_map (unpinned_rules o) w.r.demands) kept.1) at

        never : u ≢ o → ⊥
        never apart =
            let other : pins_other o pin.end ≡ true = ap (pins_other o) own ∙ ap not (not_eqb u o apart) in
            (subst (λ b. Kept w (cond b (not_all (Stops (pinned pin) o ∷ []) ∷ []) [])) other rules).0 (subst (λ c. Says w (Stops c o)) (sym same) stops_there.1, tt)

  -- ---- where outputs are settled, by pins or by sides

  pub data Settled (o : ℕ) (c : Cell) : Type 0 where
    by_pin : (pin : Pin) → HasPin w pin → pin.end ≡ Output o → c ≡ pinned pin → Settled o c
    by_side : (side : Side) → In w.r.demands (demand.Side side) → o < w.r.net.outputs → Names side.ends (Output o) → c ≡ stop_cell o → Settled o c

  pub settled_inside : (o : ℕ) (c : Cell) → Settled o c → IsInside w.r.rect c
  settled_inside o c (by_pin pin there own is) = subst (IsInside w.r.rect) (sym is) (pin_inside w pin there)
  settled_inside o c (by_side side there lt named is) = subst (IsInside w.r.rect) (sym is) (border_inside w.r.rect (stop_cell o) (stops_there side there o lt named).0)

  pub settled_class : (o : ℕ) (c : Cell) → Settled o c → (n : ℕ) (edge : Edge) → IsEdge w n edge → edge.target ≡ to.Output o → Says w (Carries c (class_of w.r.demands edge))
  settled_class o c (by_pin pin there own same) n edge is targets = subst (λ x. Says w (Carries x (class_of w.r.demands edge))) (sym same) (pin_class_output w pin there o n edge own is targets)
  settled_class o c (by_side side there lt named same) n edge is targets = subst (λ x. Says w (Carries x (class_of w.r.demands edge))) (sym same) (stop_class side there o lt named n edge is targets)

  -- there an output ends
  pub settled_ends : (o : ℕ) (c : Cell) → Settled o c → (dir : Dir) × (of : Shape) × In runners of × (IsInside w.r.rect (step dir c) → ⊥) × Says w (holds c of dir)
  settled_ends o c (by_pin pin there own same) =
      subst (λ x. (dir : Dir) × (of : Shape) × In runners of × (IsInside w.r.rect (step dir x) → ⊥) × Says w (holds x of dir)) (sym same) (pin_ends w pin there o own)
  settled_ends o c (by_side side there lt named same) =
      let found = stop_ends side there o lt named in
      subst (λ x. (dir : Dir) × (of : Shape) × In runners of × (IsInside w.r.rect (step dir x) → ⊥) × Says w (holds x of dir)) (sym same)
      (side.dir, found.0, found.1, found.2, found.3)

  -- an output is settled on one cell
  pub settled_one : (o : ℕ) (c d : Cell) → Settled o c → Settled o d → c ≡ d
  settled_one o c d (by_pin p p_in p_own p_is) (by_pin q q_in q_own q_is) = p_is ∙ ap pinned (one_pin w p q p_in q_in (p_own ∙ sym q_own)) ∙ sym q_is
  settled_one o c d (by_pin p p_in p_own p_is) (by_side s s_in lt named s_is) =
      absurd (let same = one_demand w (demand.Pin p) (demand.Side s) p_in s_in (refl, (Output o, sym p_own, named)) in cc)
  settled_one o c d (by_side s s_in lt named s_is) (by_pin p p_in p_own p_is) =
      absurd (let same = one_demand w (demand.Pin p) (demand.Side s) p_in s_in (refl, (Output o, sym p_own, named)) in cc)
  settled_one o c d (by_side s s_in lt named s_is) (by_side t t_in below called t_is) = s_is ∙ sym t_is

  -- and on a cell one output
  pub settled_apart : (o u : ℕ) (c : Cell) → Settled o c → Settled u c → o ≡ u
  settled_apart o u c (by_pin p p_in p_own p_is) (by_pin q q_in q_own q_is) =
      let pins = one_output w p q o u p_in q_in p_own q_own (sym p_is ∙ q_is) in
      let ends : Output o ≡ Output u = sym p_own ∙ ap (λ z. z.end) pins ∙ q_own in cc
  settled_apart o u c (by_pin p p_in p_own p_is) (by_side s s_in lt named s_is) = stop_unpinned s s_in u lt named p p_in o p_own (sym p_is ∙ s_is)
  settled_apart o u c (by_side s s_in lt named s_is) (by_pin p p_in p_own p_is) = sym (stop_unpinned s s_in o lt named p p_in u p_own (sym p_is ∙ s_is))
  settled_apart o u c (by_side s s_in lt named s_is) (by_side t t_in below called t_is) =
      let a = stops_there s s_in o lt named in
      let b = stops_there t t_in u below called in
      let same : stop_cell u ≡ stop_cell o = sym t_is ∙ s_is in
      ⊎_elim (λ e. e)
      (λ apart. ⊎_elim
      (λ less. absurd (stop_apart t t_in u below called o less (stop_cell u) b.0 b.1 (subst (λ x. Says w (Stops x o)) (sym same) a.1)))
      (λ more. absurd (stop_apart s s_in o lt named u more (stop_cell o) a.0 a.1 (subst (λ x. Says w (Stops x u)) same b.1))) apart)
      (cases_order o u)

  -- an output is settled, or it isn't
  pub settled_cases : (o : ℕ) → o < w.r.net.outputs → ((c : Cell) × Settled o c) ⊎ ((c : Cell) → Settled o c → ⊥)
  settled_cases o lt = ⊎_elim
      (λ pin. inl (pinned pin.0, by_pin pin.0 pin.1 pin.2 refl))
      (λ no_pin. ⊎_elim
      (λ side. inl (stop_cell o, by_side side.0 side.1 lt side.2 refl))
      (λ no_side. inr (λ c s. never no_pin no_side c s))
      (side_cases w.r.demands (Output o)))
      (pin_cases w.r.demands (Output o))
    where
      never : ((pin : Pin) → In w.r.demands (demand.Pin pin) → pin.end ≡ Output o → ⊥) → ((side : Side) → In w.r.demands (demand.Side side) → Names side.ends (Output o) → ⊥) → (c : Cell) → Settled o c → ⊥
      never no_pin no_side c (by_pin pin there own is) = no_pin pin there own
      never no_pin no_side c (by_side side there lt named is) = no_side side there named
