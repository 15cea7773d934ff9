-- Layouts keep the rules of what a cell holds.
use Rattle.std.proofs.Common.{◌≡◌, inl, inr, List, [], ◌∷◌, map, refl, sym, ◌∙◌, ap, subst, ⊎_elim}
use Rattle.bt_parts.specs.declared.part.Cell.{Cell}
use Rattle.bt_parts.specs.declared.part.Dir.{Dir}
use Rattle.bt_parts.specs.declared.part.Part.{Part}
use Rattle.bt_parts.specs.Cells.{beside}
use Rattle.bt_model.specs.Laying.{Lays}
use Rattle.bt_model.specs.Requests.{LayoutRequest}
use Rattle.bt_model.proofs.ExistLemmas.{at_cases}
use Rattle.bt_facts.specs.declared.fact.Content.{Content}
use Rattle.bt_facts.specs.declared.fact.Content.TheVariants.{Empty, Turned}
use Rattle.bt_facts.specs.declared.fact.Fact.TheVariants.{Kind, HalfOn, BeltOn}
use Rattle.bt_facts.specs.declared.fact.Half.{Half}
use Rattle.bt_facts.specs.declared.fact.Half.TheVariants.{Lesser, Greater}
use Rattle.bt_facts.specs.declared.fact.Shape.{Shape}
use Rattle.bt_facts.specs.declared.fact.Shape.TheVariants as shape
use Rattle.bt_facts.specs.Spots.{dirs, halves, other_half, mate, before}
use Rattle.bt_facts.specs.Facts.{holds}
use Rattle.bt_rules.specs.Contents.{shapes, contents, content_rules, half_kinds, belt_kinds, shape_rules, mate_rule, mate_rules}
use Rattle.bt_facts.specs.Rules.{equals_one}
use Rattle.bt_rules.proofs.Deciding.{stands_at}
use Rattle.bt_facts.proofs.Geometry.{in_dirs, in_halves, distinct_dirs, before_beside}
use Rattle.bt_facts.proofs.Keeping.{In, in_map, from_map, in_flat, from_flat, Distinct, distinct_map, distinct_flat, each_both, each_flat, each_map, one_in, at_most_stays, equal_stays, AllStay, Stays}
use Rattle.bt_rules.proofs.Laid.{Said, is_orderly, inside_at, stands_there, one_stands, half_there, one_inside}
use Rattle.bt_rules.proofs.Reading.{cell_of, Stands}

in_shapes : (of : Shape) → In shapes of
in_shapes shape.Belt = inl refl
in_shapes shape.Entrance = inr (inl refl)
in_shapes shape.Exit = inr (inr (inl refl))
in_shapes (shape.Half Lesser) = inr (inr (inr (inl refl)))
in_shapes (shape.Half Greater) = inr (inr (inr (inr (inl refl))))

in_contents : (content : Content) → In contents content
in_contents Empty = inl refl
in_contents (Turned of dir) = inr (in_flat (λ s. map (Turned s) dirs) shapes of (Turned of dir) (in_shapes of) (in_map (Turned of) dirs dir (in_dirs dir)))

distinct_shapes : Distinct shapes
distinct_shapes = (
  λ h. ⊎_elim (λ e. cc) (λ h. ⊎_elim (λ e. cc) (λ h. ⊎_elim (λ e. cc) (λ h. ⊎_elim (λ e. cc) (λ n. n) h) h) h) h,
  ((λ h. ⊎_elim (λ e. cc) (λ h. ⊎_elim (λ e. cc) (λ h. ⊎_elim (λ e. cc) (λ n. n) h) h) h), ((λ h. ⊎_elim (λ e. cc) (λ h. ⊎_elim (λ e. cc) (λ n. n) h) h), ((λ h. ⊎_elim (λ e. cc) (λ n. n) h), ((λ h. h), tt)))),
)

distinct_contents : Distinct contents
distinct_contents = (
  λ h. let at = from_flat (λ s. map (Turned s) dirs) shapes Empty h in let found = from_map (Turned at.0) dirs Empty at.2 in let e = found.2 in cc,
  distinct_flat (λ s. map (Turned s) dirs) shapes distinct_shapes (λ s. distinct_map (Turned s) (λ x y e. cc) dirs distinct_dirs)
      (λ x y z h k. let a = from_map (Turned x) dirs z h in let b = from_map (Turned y) dirs z k in let e = sym a.2 ∙ b.2 in cc),
)

module _ (r : LayoutRequest) (parts : List Part) (lays : Lays parts r) where
  -- what a cell holds
  pub content_said : (c : Cell) → (content : Content) × Said r parts lays (Kind c content)
  content_said c = ⊎_elim
      (λ found. let there = stands_there r parts lays found.0 c found.1 in (Turned there.0 found.1.part.dir, there.1))
      (λ none. (Empty, none)) (at_cases parts c)

  -- a cell holds one thing
  pub one_content : (c : Cell) (a b : Content) → Said r parts lays (Kind c a) → Said r parts lays (Kind c b) → a ≡ b
  one_content c Empty Empty p q = refl
  one_content c Empty (Turned of dir) p q = absurd (p q.index (stands_at parts (is_orderly r parts lays) c of dir q))
  one_content c (Turned of dir) Empty p q = absurd (q p.index (stands_at parts (is_orderly r parts lays) c of dir p))
  one_content c (Turned a d) (Turned b e) p q =
      let same = one_stands r parts lays c a b d e p q in
      ap (λ x. Turned x d) same.2 ∙ ap (Turned b) same.3

  pub contents_stay : (c : Cell) → AllStay (Said r parts lays) (content_rules c)
  contents_stay c = (
    λ none. let found = content_said c in one_in (Said r parts lays) (map (Kind c) contents) (Kind c found.0) (in_map (Kind c) contents found.0 (in_contents found.0)) found.1,
    at_most_stays (Said r parts lays) (map (Kind c) contents) (distinct_map (Kind c) (λ x y e. cc) contents distinct_contents)
        (λ f g in_f in_g p q.
        let a = from_map (Kind c) contents f in_f in let b = from_map (Kind c) contents g in_g in
        a.2 ∙ ap (Kind c) (one_content c a.0 b.0 (subst (Said r parts lays) a.2 p) (subst (Said r parts lays) b.2 q)) ∙ sym b.2),
  )

  in_half_kinds : (c : Cell) (half : Half) (dir : Dir) → In (half_kinds c) (holds c (shape.Half half) dir)
  in_half_kinds c half dir =
      in_flat (λ h. map (holds c (shape.Half h)) dirs) halves half (holds c (shape.Half half) dir) (in_halves half)
      (in_map (holds c (shape.Half half)) dirs dir (in_dirs dir))

  in_belt_kinds : (c : Cell) (dir : Dir) → In (belt_kinds c) (holds c shape.Belt dir)
  in_belt_kinds c dir = in_map (holds c shape.Belt) dirs dir (in_dirs dir)

  pub shapes_stay : (c : Cell) → AllStay (Said r parts lays) (shape_rules c)
  shapes_stay c = each_both (Stays (Said r parts lays)) (equals_one (HalfOn c) (half_kinds c)) (equals_one (BeltOn c) (belt_kinds c))
      (equal_stays (Said r parts lays) (HalfOn c) (half_kinds c)
      (λ h. let found = half_there r parts lays h.0 c h.1 h.2 in
      one_in (Said r parts lays) (half_kinds c) (holds c (shape.Half found.0) h.2.part.dir) (in_half_kinds c found.0 h.2.part.dir) found.1)
      (λ fact at said.
      let half = from_flat (λ h. map (holds c (shape.Half h)) dirs) halves fact at in
      let dir = from_map (holds c (shape.Half half.0)) dirs fact half.2 in
      let s = subst (Said r parts lays) dir.2 said in
      (s.index, (s.part, s.is_part, s.kind), stands_at parts (is_orderly r parts lays) c (shape.Half half.0) dir.0 s)))
      (equal_stays (Said r parts lays) (BeltOn c) (belt_kinds c)
      (λ h. one_in (Said r parts lays) (belt_kinds c) (holds c shape.Belt h.0) (in_belt_kinds c h.0) h.1)
      (λ fact at said.
      let dir = from_map (holds c shape.Belt) dirs fact at in
      (dir.0, subst (Said r parts lays) dir.2 said)))

  mate_stays : (c : Cell) (half : Half) (dir : Dir) → Stays (Said r parts lays) (mate_rule r.rect c half dir)
  mate_stays c half dir given =
      let s = given.0 in
      let other : Stands parts (mate half dir c) (shape.Half (other_half half)) dir = record {
        index = s.index;
        part = s.part;
        is_part = s.is_part;
        kind = s.kind;
        turned = s.turned;
        cell = by half s.cell s.turned;
      } in
      one_inside (Said r parts lays) r.rect (mate half dir c) (holds (mate half dir c) (shape.Half (other_half half)) dir ∷ [])
      (inside_at r parts lays s.index (mate half dir c) (stands_at parts (is_orderly r parts lays) (mate half dir c) (shape.Half (other_half half)) dir other))
      (inl other)
    where
      by : (half : Half) → c ≡ cell_of (shape.Half half) given.0.part → given.0.part.dir ≡ dir → mate half dir c ≡ cell_of (shape.Half (other_half half)) given.0.part
      by Lesser e t = ap (beside dir) e ∙ ap (λ d. beside d given.0.part.cell) (sym t)
      by Greater e t = ap (before dir) (e ∙ ap (λ d. beside d given.0.part.cell) t) ∙ before_beside dir given.0.part.cell

  pub mates_stay : (c : Cell) → AllStay (Said r parts lays) (mate_rules r.rect c)
  mates_stay c = each_flat (Stays (Said r parts lays)) (λ half. map (mate_rule r.rect c half) dirs) halves
      (λ half at. each_map (Stays (Said r parts lays)) (mate_rule r.rect c half) dirs (λ dir there. mate_stays c half dir))
