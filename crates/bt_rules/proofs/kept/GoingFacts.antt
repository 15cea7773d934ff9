-- What is handed from cell to cell, and where inputs begin.
use Rattle.std.proofs.Common.{◌≡◌, ◌⊎◌, ◌≢◌, List, [], ◌∷◌, ◌++◌, map, cond, refl, sym, subst, inl, inr, ⊎_elim}
use Rattle.std.specs.List.{flat_map}
use Rattle.bt_parts.specs.declared.part.Cell.{Cell}
use Rattle.bt_parts.specs.declared.part.Dir.{Dir}
use Rattle.bt_parts.specs.Cells.{step, opposite, IsInside}
use Rattle.bt_facts.specs.declared.fact.Class.{Class}
use Rattle.bt_facts.specs.declared.fact.Content.TheVariants.{Empty}
use Rattle.bt_facts.specs.declared.fact.Fact.{Fact}
use Rattle.bt_facts.specs.declared.fact.Fact.TheVariants.{Kind, Carries, Begins, Goes}
use Rattle.bt_facts.specs.declared.fact.Half.{Half}
use Rattle.bt_facts.specs.declared.fact.Shape.{Shape}
use Rattle.bt_facts.specs.declared.fact.Shape.TheVariants as shape
use Rattle.bt_demands.specs.Classes.{input_classes}
use Rattle.bt_facts.specs.Facts.{holds}
use Rattle.bt_rules.specs.Going.{runners, givers, takers, inner_rules, going_rules, fed_belt, fed_entrance, begins_there, starters, begin_rules, once_rules}
use Rattle.bt_facts.specs.Facts.{goes_into}
use Rattle.bt_facts.specs.Rules.{Rule, rule, not_all, at_most_one, Keeps}
use Rattle.bt_facts.specs.Spots.{dirs, halves, sides_of, behind, where_outside}
use Rattle.bt_facts.proofs.Geometry.{in_dirs, in_halves}
use Rattle.bt_facts.proofs.Keeping.{In, from_flat, from_map, in_both, in_flat}
use Rattle.bt_rules.proofs.kept.Readings.{all_left, all_right, all_mapped, all_flat, one_in, one_from, one_mapped, one_holds}
use Rattle.bt_rules.proofs.kept.Geometry.{in_or_out, inside_true, inside_false, where_in}
use Rattle.bt_rules.proofs.kept.Solved.{Solved, Says, Kept, one_inside, one_outside, handing_kept}
use Rattle.bt_rules.proofs.kept.CellFacts.{belt_there}

-- a shape that takes what comes to it in this direction, so turned
pub data Takes (dir : Dir) : Shape → Dir → Type 0 where
  by_belt : (turned : Dir) → opposite dir ≢ turned → Takes dir shape.Belt turned
  by_entrance : Takes dir shape.Entrance dir
  by_half : (half : Half) → Takes dir (shape.Half half) dir

module _ (w : Solved) (c : Cell) (h : IsInside w.r.rect c) where
  goings_at : List Rule
  goings_at = flat_map (going_rules w.r.rect c) dirs

  belts_at : List Rule
  belts_at = map (fed_belt w.r.rect c) dirs

  entrances_at : List Rule
  entrances_at = map (fed_entrance w.r.rect c) dirs

  all_handing : Kept w (goings_at ++ belts_at ++ entrances_at ++ begin_rules w.r c ++ once_rules w.r.rect c)
  unfolding goings_at belts_at entrances_at
  all_handing = handing_kept w c h

  to_begins : Kept w (goings_at ++ belts_at ++ entrances_at ++ begin_rules w.r c)
  to_begins = all_left (Keeps w.reading) (goings_at ++ belts_at ++ entrances_at ++ begin_rules w.r c) (once_rules w.r.rect c) all_handing

  going_kept : (dir : Dir) → Kept w (going_rules w.r.rect c dir)
  unfolding goings_at
  going_kept dir =
      all_flat (Keeps w.reading) (going_rules w.r.rect c) dir dirs
      (all_left (Keeps w.reading) goings_at belts_at (all_left (Keeps w.reading) (goings_at ++ belts_at) entrances_at
      (all_left (Keeps w.reading) (goings_at ++ belts_at ++ entrances_at) (begin_rules w.r c) to_begins))) (in_dirs dir)

  inner_kept : (dir : Dir) → IsInside w.r.rect (step dir c) → Kept w (inner_rules c dir)
  inner_kept dir i =
      subst (λ b. Kept w (cond b (inner_rules c dir) (not_all (Goes c dir ∷ []) ∷ []))) (inside_true w.r.rect (step dir c) i) (going_kept dir)

  outer_kept : (dir : Dir) → (IsInside w.r.rect (step dir c) → ⊥) → Kept w (not_all (Goes c dir ∷ []) ∷ [])
  outer_kept dir o =
      subst (λ b. Kept w (cond b (inner_rules c dir) (not_all (Goes c dir ∷ []) ∷ []))) (inside_false w.r.rect (step dir c) o) (going_kept dir)

  -- to the outside nothing is handed
  pub outside_still : (dir : Dir) → (IsInside w.r.rect (step dir c) → ⊥) → Says w (Goes c dir) → ⊥
  outside_still dir o d = (outer_kept dir o).0 (d, tt)

  pub going_inside : (dir : Dir) → Says w (Goes c dir) → IsInside w.r.rect (step dir c)
  going_inside dir d = ⊎_elim (λ i. i) (λ o. absurd (outside_still dir o d)) (in_or_out w.r.rect (step dir c))

  -- what hands on
  pub giver_there : (dir : Dir) → Says w (Goes c dir) → (of : Shape) × In givers of × Says w (holds c of dir)
  giver_there dir d = one_mapped w.reading (λ of. holds c of dir) givers ((inner_kept dir (going_inside dir d)).0 (d, tt))

  -- what takes
  pub taker_there : (dir : Dir) → Says w (Goes c dir)
      → (of : Shape) × (turned : Dir) × Takes dir of turned × Says w (holds (step dir c) of turned)
  taker_there dir d =
      let found = one_in w.reading (takers (step dir c) dir) ((inner_kept dir (going_inside dir d)).1.0 (d, tt)) in
      by found.0 found.2 found.1
    where
      there : Cell
      there = step dir c

      by : (fact : Fact) → Says w fact → In (takers (step dir c) dir) fact
          → (of : Shape) × (turned : Dir) × Takes dir of turned × Says w (holds (step dir c) of turned)
      by fact s (inl e) =
          let belt = belt_there w (step dir c) (going_inside dir d) (subst (λ f. Says w f) e s) in (
            shape.Belt,
            belt.0,
            by_belt belt.0 (λ same. (inner_kept dir (going_inside dir d)).1.1.0 (d, (subst (λ x. Says w (holds (step dir c) shape.Belt x)) (sym same) belt.1, tt))),
            belt.1,
          )
      by fact s (inr (inl e)) = (shape.Entrance, dir, by_entrance, subst (λ f. Says w f) e s)
      by fact s (inr (inr more)) =
          let half = from_map (λ x. holds (step dir c) (shape.Half x) dir) halves fact more in
          (shape.Half half.0, dir, by_half half.0, subst (λ f. Says w f) half.2 s)

  runners_at : Dir → List Rule
  runners_at dir = map (λ of. rule (holds c of dir ∷ []) (Goes c dir ∷ [])) runners

  halves_at : Dir → List Rule
  halves_at dir = map (λ half. rule (holds c (shape.Half half) dir ∷ []) (Goes c dir ∷ Kind (step dir c) Empty ∷ [])) halves

  on_kept : (dir : Dir) → IsInside w.r.rect (step dir c) → Kept w (runners_at dir ++ halves_at dir)
  unfolding runners_at halves_at
  on_kept dir i = (inner_kept dir i).1.1.1

  -- a belt or an exit hands on to the inside
  pub runner_goes : (of : Shape) (dir : Dir) → In runners of → IsInside w.r.rect (step dir c) → Says w (holds c of dir) → Says w (Goes c dir)
  unfolding runners_at
  runner_goes of dir runs i s =
      ⊎_elim (λ e. e) (λ none. absurd none)
      (all_mapped (Keeps w.reading) (λ x. rule (holds c x dir ∷ []) (Goes c dir ∷ [])) of runners
      (all_left (Keeps w.reading) (runners_at dir) (halves_at dir) (on_kept dir i)) runs (s, tt))

  -- a half hands on, unless nothing is in front
  pub half_goes : (half : Half) (dir : Dir) → IsInside w.r.rect (step dir c) → Says w (holds c (shape.Half half) dir)
      → (Says w (Kind (step dir c) Empty) → ⊥) → Says w (Goes c dir)
  unfolding halves_at
  half_goes half dir i s full =
      ⊎_elim (λ e. e) (λ more. absurd (⊎_elim (λ e. full e) (λ none. none) more))
      (all_mapped (Keeps w.reading) (λ x. rule (holds c (shape.Half x) dir ∷ []) (Goes c dir ∷ Kind (step dir c) Empty ∷ [])) half halves
      (all_right (Keeps w.reading) (runners_at dir) (halves_at dir) (on_kept dir i)) (in_halves half) (s, tt))

  -- ---- once

  outs_at : List Rule
  outs_at = at_most_one (map (Goes c) dirs)

  comings : List Fact
  comings = flat_map (goes_into w.r.rect c) dirs

  ins_at : List Rule
  ins_at = at_most_one (Begins c ∷ comings)

  once_kept : Kept w (outs_at ++ ins_at)
  unfolding outs_at ins_at comings
  once_kept = all_right (Keeps w.reading) (goings_at ++ belts_at ++ entrances_at ++ begin_rules w.r c) (once_rules w.r.rect c) all_handing

  in_kept : Kept w (at_most_one (Begins c ∷ comings))
  unfolding ins_at
  in_kept = all_right (Keeps w.reading) outs_at ins_at once_kept

  in_comings : (dir : Dir) → IsInside w.r.rect (behind dir c) → In comings (Goes (behind dir c) dir)
  unfolding comings
  in_comings dir i =
      in_flat (goes_into w.r.rect c) dirs dir (Goes (behind dir c) dir) (in_dirs dir)
      (subst (λ facts. In facts (Goes (behind dir c) dir)) (sym (where_in w.r.rect (behind dir c) (Goes (behind dir c) dir ∷ []) i)) (inl refl))

  -- something comes in from one direction at most
  pub one_into : (d e : Dir) → IsInside w.r.rect (behind d c) → IsInside w.r.rect (behind e c) → Says w (Goes (behind d c) d)
      → Says w (Goes (behind e c) e) → d ≡ e
  one_into d e i j s t =
      let same : Goes (behind d c) d ≡ Goes (behind e c) e =
      one_holds w.reading (Goes (behind d c) d) (Goes (behind e c) e) (Begins c ∷ comings) in_kept
      (inr (in_comings d i)) (inr (in_comings e j)) s t in
      cc

  -- nothing comes to where an input begins
  pub begun_still : (dir : Dir) → Says w (Begins c) → IsInside w.r.rect (behind dir c) → Says w (Goes (behind dir c) dir) → ⊥
  begun_still dir s i d =
      let same : Begins c ≡ Goes (behind dir c) dir =
      one_holds w.reading (Begins c) (Goes (behind dir c) dir) (Begins c ∷ comings) in_kept (inl refl) (inr (in_comings dir i)) s d in
      cc

  -- ---- where inputs begin

  begins_kept : Kept w (begin_rules w.r c)
  begins_kept = all_right (Keeps w.reading) (goings_at ++ belts_at ++ entrances_at) (begin_rules w.r c) to_begins

  -- with the class of an edge from an input
  pub begun_class : Says w (Begins c) → (k : Class) × In (input_classes w.r) k × Says w (Carries c k)
  begun_class s = one_mapped w.reading (Carries c) (input_classes w.r) (begins_kept.1.0 (s, tt))

  -- an input begins with a belt or an entrance behind which the rectangle ends
  pub begun_there : Says w (Begins c)
      → (dir : Dir) × (IsInside w.r.rect (behind dir c) → ⊥) × (Says w (holds c shape.Belt dir) ⊎ Says w (holds c shape.Entrance dir))
  begun_there s =
      let found = one_in w.reading (starters w.r.rect c) (begins_kept.0 (s, tt)) in
      let dir = from_flat (λ d. where_outside w.r.rect (behind d c) (holds c shape.Belt d ∷ holds c shape.Entrance d ∷ [])) dirs found.0 found.1 in
      (let got = by dir.0 found.0 found.2 dir.2 in (dir.0, got.0, got.1))
    where
      by : (d : Dir) (fact : Fact) → Says w fact
          → In (where_outside w.r.rect (behind d c) (holds c shape.Belt d ∷ holds c shape.Entrance d ∷ [])) fact
          → (IsInside w.r.rect (behind d c) → ⊥) × (Says w (holds c shape.Belt d) ⊎ Says w (holds c shape.Entrance d))
      by d fact t i =
          let got = one_outside w (behind d c) (holds c shape.Belt d ∷ holds c shape.Entrance d ∷ []) (one_from w.reading fact _ i t) in
          (got.0, ⊎_elim (λ e. inl e) (λ more. ⊎_elim (λ e. inr e) (λ none. absurd none) more) got.1)

  -- ---- what feeds

  -- something comes in from behind in this direction
  abbrev pub Fed : Dir → Type 0
  Fed dir = IsInside w.r.rect (behind dir c) × Says w (Goes (behind dir c) dir)

  fed_by : (dir : Dir) (fact : Fact) → Says w fact → In (goes_into w.r.rect c dir) fact → Fed dir
  fed_by dir fact s there =
      let got = one_inside w (behind dir c) (Goes (behind dir c) dir ∷ []) (one_from w.reading fact _ there s) in
      (got.0, ⊎_elim (λ e. e) (λ none. absurd none) got.1)

  begins_by : (dir : Dir) (fact : Fact) → Says w fact → In (begins_there w.r.rect c dir) fact → Says w (Begins c)
  begins_by dir fact s there =
      let got = one_outside w (behind dir c) (Begins c ∷ []) (one_from w.reading fact _ there s) in
      ⊎_elim (λ e. e) (λ none. absurd none) got.1

  -- a belt is fed, or begins an input
  pub belt_fed : (dir : Dir) → Says w (holds c shape.Belt dir) → Says w (Begins c) ⊎ ((way : Dir) × Fed way)
  unfolding belts_at
  belt_fed dir s =
      let kept = all_mapped (Keeps w.reading) (fed_belt w.r.rect c) dir dirs (all_right (Keeps w.reading) goings_at belts_at
      (all_left (Keeps w.reading) (goings_at ++ belts_at) entrances_at (all_left (Keeps w.reading) (goings_at ++ belts_at ++ entrances_at) (begin_rules w.r c) to_begins))) (in_dirs dir) in
      let found = one_in w.reading (goes_into w.r.rect c dir ++ flat_map (goes_into w.r.rect c) (sides_of dir) ++ begins_there w.r.rect c dir) (kept (s, tt)) in
      ⊎_elim
      (λ more. ⊎_elim (λ own. inr (dir, fed_by dir found.0 found.2 own))
      (λ side. let way = from_flat (goes_into w.r.rect c) (sides_of dir) found.0 side in inr (way.0, fed_by way.0 found.0 found.2 way.2))
      (in_both (goes_into w.r.rect c dir) (flat_map (goes_into w.r.rect c) (sides_of dir)) found.0 more))
      (λ begins. inl (begins_by dir found.0 found.2 begins))
      (in_both (goes_into w.r.rect c dir ++ flat_map (goes_into w.r.rect c) (sides_of dir)) (begins_there w.r.rect c dir) found.0 found.1)

  -- and so is an entrance
  pub entrance_fed : (dir : Dir) → Says w (holds c shape.Entrance dir) → Says w (Begins c) ⊎ ((way : Dir) × Fed way)
  unfolding entrances_at
  entrance_fed dir s =
      let kept = all_mapped (Keeps w.reading) (fed_entrance w.r.rect c) dir dirs (all_right (Keeps w.reading) (goings_at ++ belts_at) entrances_at
      (all_left (Keeps w.reading) (goings_at ++ belts_at ++ entrances_at) (begin_rules w.r c) to_begins)) (in_dirs dir) in
      let found = one_in w.reading (goes_into w.r.rect c dir ++ begins_there w.r.rect c dir) (kept (s, tt)) in
      ⊎_elim (λ own. inr (dir, fed_by dir found.0 found.2 own)) (λ begins. inl (begins_by dir found.0 found.2 begins))
      (in_both (goes_into w.r.rect c dir) (begins_there w.r.rect c dir) found.0 found.1)
