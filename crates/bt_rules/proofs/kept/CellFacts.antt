-- What a cell holds: one thing; halves side by side; and where splitters stand.
use Rattle.std.proofs.Common.{◌≡◌, ◌⊎◌, ℕ, ◌<◌, List, [], ◌∷◌, ◌++◌, map, refl, sym, subst, inl, inr, ⊎_elim, arith}
use Rattle.std.specs.Prelude.{unsigned_abs}
use Rattle.std.specs.List.{flat_map, range_with_len}
use Rattle.bt_parts.specs.declared.part.Cell.{Cell}
use Rattle.bt_parts.specs.declared.part.Dir.{Dir}
use Rattle.bt_parts.specs.Cells.{IsInside}
use Rattle.bt_facts.specs.declared.fact.Content.{Content}
use Rattle.bt_facts.specs.declared.fact.Content.TheVariants.{Empty, Turned}
use Rattle.bt_facts.specs.declared.fact.Fact.{Fact}
use Rattle.bt_facts.specs.declared.fact.Fact.TheVariants.{Kind, Carries, Column, Row, Points, HalfOn, BeltOn, At}
use Rattle.bt_facts.specs.declared.fact.Half.{Half}
use Rattle.bt_facts.specs.declared.fact.Half.TheVariants.{Lesser}
use Rattle.bt_facts.specs.declared.fact.Shape.{Shape}
use Rattle.bt_facts.specs.declared.fact.Shape.TheVariants as shape
use Rattle.bt_facts.specs.Facts.{holds}
use Rattle.bt_rules.specs.Contents.{contents, half_kinds, belt_kinds, mate_rule}
use Rattle.bt_facts.specs.Rules.{equals_one}
use Rattle.bt_demands.specs.Classes.{splitters_of, classes_of, input_classes}
use Rattle.bt_facts.specs.declared.fact.Class.{Class}
use Rattle.bt_facts.specs.declared.fact.Class.TheVariants.{Split}
use Rattle.bt_facts.specs.Rules.{Rule, rule, some_of, not_all, at_most_one, Keeps}
use Rattle.bt_facts.specs.Spots.{dirs, halves, other_half, mate, before, where_inside, cells_of}
use Rattle.bt_rules.specs.Standing.{owner_rule, at_rules, stands_on, name_rule, stands_at}
use Rattle.bt_facts.proofs.Geometry.{from_cells, in_dirs, in_halves}
use Rattle.bt_facts.proofs.Keeping.{In, from_flat, from_map, from_range, in_flat, in_left, in_map, in_range}
use Rattle.bt_rules.proofs.kept.Readings.{all_left, all_right, all_mapped, all_flat, one_in, one_from, one_mapped, one_holds}
use Rattle.bt_rules.proofs.kept.Geometry.{in_contents, same_spot, across, where_in}
use Rattle.bt_rules.proofs.kept.Solved.{Solved, Says, Kept, one_inside, contents_kept, shapes_kept, classes_kept, mates_kept, standing_kept, place_kept}

-- the class of a splitter is one of the classes
pub split_in : (w : Solved) (s : ℕ) → s < w.r.net.splitters → In (classes_of w.r) (Split s)
split_in w s lt = in_left (map Split (splitters_of w.r)) (input_classes w.r) (Split s)
    (in_map Split (splitters_of w.r) s (in_range 0 w.r.net.splitters s (omega arith) (omega arith)))

module _ (w : Solved) (c : Cell) (h : IsInside w.r.rect c) where
  pub content_of : (content : Content) × Says w (Kind c content)
  content_of = let found = one_mapped w.reading (Kind c) contents ((contents_kept w c h).0 tt) in (found.0, found.2)

  pub one_content : (a b : Content) → Says w (Kind c a) → Says w (Kind c b) → a ≡ b
  one_content a b s t =
      let same : Kind c a ≡ Kind c b = one_holds w.reading (Kind c a) (Kind c b) (map (Kind c) contents) (contents_kept w c h).1
      (in_map (Kind c) contents a (in_contents a)) (in_map (Kind c) contents b (in_contents b)) s t in
      cc

  pub one_shape : (a b : Shape) (d e : Dir) → Says w (holds c a d) → Says w (holds c b e) → a ≡ b
  one_shape a b d e s t = let same : Turned a d ≡ Turned b e = one_content (Turned a d) (Turned b e) s t in cc

  pub one_dir : (a b : Shape) (d e : Dir) → Says w (holds c a d) → Says w (holds c b e) → d ≡ e
  one_dir a b d e s t = let same : Turned a d ≡ Turned b e = one_content (Turned a d) (Turned b e) s t in cc

  pub not_empty : (a : Shape) (d : Dir) → Says w (holds c a d) → Says w (Kind c Empty) → ⊥
  not_empty a d s t = let same : Turned a d ≡ Empty = one_content (Turned a d) Empty s t in cc

  in_half_kinds : (half : Half) (dir : Dir) → In (half_kinds c) (holds c (shape.Half half) dir)
  in_half_kinds half dir =
      in_flat (λ x. map (holds c (shape.Half x)) dirs) halves half (holds c (shape.Half half) dir) (in_halves half)
      (in_map (holds c (shape.Half half)) dirs dir (in_dirs dir))

  halves_kept : Kept w (equals_one (HalfOn c) (half_kinds c))
  halves_kept = all_left (Keeps w.reading) (equals_one (HalfOn c) (half_kinds c)) (equals_one (BeltOn c) (belt_kinds c)) (shapes_kept w c h)

  belts_kept : Kept w (equals_one (BeltOn c) (belt_kinds c))
  belts_kept = all_right (Keeps w.reading) (equals_one (HalfOn c) (half_kinds c)) (equals_one (BeltOn c) (belt_kinds c)) (shapes_kept w c h)

  pub belt_there : Says w (BeltOn c) → (dir : Dir) × Says w (holds c shape.Belt dir)
  belt_there s = let found = one_mapped w.reading (holds c shape.Belt) dirs (belts_kept.0 (s, tt)) in (found.0, found.2)

  pub half_on : (half : Half) (dir : Dir) → Says w (holds c (shape.Half half) dir) → Says w (HalfOn c)
  half_on half dir s =
      let one = all_mapped (Keeps w.reading) (λ fact. rule (fact ∷ []) (HalfOn c ∷ [])) (holds c (shape.Half half) dir) (half_kinds c)
      halves_kept.1 (in_half_kinds half dir) (s, tt) in
      ⊎_elim (λ e. e) (λ none. absurd none) one

  pub half_there : Says w (HalfOn c) → (half : Half) × (dir : Dir) × Says w (holds c (shape.Half half) dir)
  half_there s =
      let found = one_in w.reading (half_kinds c) (halves_kept.0 (s, tt)) in
      let half = from_flat (λ x. map (holds c (shape.Half x)) dirs) halves found.0 found.1 in
      let dir = from_map (holds c (shape.Half half.0)) dirs found.0 half.2 in
      (half.0, dir.0, subst (λ f. Says w f) dir.2 found.2)

  pub mate_there : (half : Half) (dir : Dir) → Says w (holds c (shape.Half half) dir)
      → IsInside w.r.rect (mate half dir c) × Says w (holds (mate half dir c) (shape.Half (other_half half)) dir)
  mate_there half dir s =
      let one = all_mapped (Keeps w.reading) (mate_rule w.r.rect c half) dir dirs
      (all_flat (Keeps w.reading) (λ x. map (mate_rule w.r.rect c x) dirs) half halves (mates_kept w c h) (in_halves half)) (in_dirs dir) (s, tt) in
      let there = one_inside w (mate half dir c) (holds (mate half dir c) (shape.Half (other_half half)) dir ∷ []) one in
      (there.0, ⊎_elim (λ e. e) (λ none. absurd none) there.1)

  -- ---- where splitters stand

  owners_at : List Rule
  owners_at = map (owner_rule (splitters_of w.r) c) dirs

  standings_at : List Rule
  standings_at = flat_map (λ s. flat_map (at_rules w.r.rect s c) dirs) (splitters_of w.r)

  names_at : List Rule
  names_at = map (name_rule w.r.rect c) (splitters_of w.r)

  to_names : Kept w (owners_at ++ standings_at ++ names_at)
  unfolding owners_at standings_at names_at
  to_names = standing_kept w c h

  to_standings : Kept w (owners_at ++ standings_at)
  to_standings = all_left (Keeps w.reading) (owners_at ++ standings_at) names_at to_names

  pub owner_of : (dir : Dir) → Says w (holds c (shape.Half Lesser) dir) → (s : ℕ) × (s < w.r.net.splitters) × Says w (At s c dir)
  unfolding owners_at
  owner_of dir says =
      let one = all_mapped (Keeps w.reading) (owner_rule (splitters_of w.r) c) dir dirs (all_left (Keeps w.reading) owners_at standings_at to_standings) (in_dirs dir) (says, tt) in
      let found = one_mapped w.reading (λ s. At s c dir) (splitters_of w.r) one in
      (found.0, let lt = (from_range 0 w.r.net.splitters found.0 found.1).1 in omega arith, found.2)

  -- ---- classes

  carried_at : List Fact
  carried_at = map (Carries c) (classes_of w.r)

  none_empty : List Rule
  none_empty = map (λ k. not_all (Kind c Empty ∷ Carries c k ∷ [])) (classes_of w.r)

  none_half : List Rule
  none_half = map (λ k. not_all (HalfOn c ∷ Carries c k ∷ [])) (input_classes w.r)

  all_classes : Kept w (some_of (Kind c Empty ∷ carried_at) ∷ (at_most_one carried_at ++ none_empty ++ none_half))
  unfolding carried_at none_empty none_half
  all_classes = classes_kept w c h

  -- what holds something has a class
  pub class_there : (of : Shape) (dir : Dir) → Says w (holds c of dir) → (k : Class) × In (classes_of w.r) k × Says w (Carries c k)
  unfolding carried_at
  class_there of dir s =
      ⊎_elim (λ e. absurd (not_empty of dir s e)) (λ one. one_mapped w.reading (Carries c) (classes_of w.r) one) (all_classes.0 tt)

  -- and one alone
  pub one_class : (k l : Class) → In (classes_of w.r) k → In (classes_of w.r) l → Says w (Carries c k) → Says w (Carries c l) → k ≡ l
  unfolding carried_at
  one_class k l k_in l_in s t =
      let same : Carries c k ≡ Carries c l = one_holds w.reading (Carries c k) (Carries c l) (map (Carries c) (classes_of w.r))
      (all_left (Keeps w.reading) (at_most_one carried_at) none_empty
      (all_left (Keeps w.reading) (at_most_one carried_at ++ none_empty) none_half all_classes.1))
      (in_map (Carries c) (classes_of w.r) k k_in) (in_map (Carries c) (classes_of w.r) l l_in) s t in
      cc

  -- a half has no class of inputs
  pub half_no_input : (k : Class) → In (input_classes w.r) k → Says w (HalfOn c) → Says w (Carries c k) → ⊥
  unfolding none_half
  half_no_input k k_in s t = all_mapped (Keeps w.reading) (λ x. not_all (HalfOn c ∷ Carries c x ∷ [])) k (input_classes w.r)
      (all_right (Keeps w.reading) (at_most_one carried_at ++ none_empty) none_half all_classes.1) k_in (s, (t, tt))

  pub one_name : (s t : ℕ) → s < w.r.net.splitters → t < w.r.net.splitters → Says w (Carries c (Split s)) → Says w (Carries c (Split t)) → s ≡ t
  one_name s t s_lt t_lt a b =
      let same : Split s ≡ Split t = one_class (Split s) (Split t) (split_in w s s_lt) (split_in w t t_lt) a b in
      cc

  -- a splitter that stands here
  pub named_by : (s : ℕ) → s < w.r.net.splitters → Says w (HalfOn c) → Says w (Carries c (Split s))
      → (dir : Dir) × (Says w (At s c dir) ⊎ (IsInside w.r.rect (before dir c) × Says w (At s (before dir c) dir)))
  unfolding names_at
  named_by s lt on says =
      let one = all_mapped (Keeps w.reading) (name_rule w.r.rect c) s (splitters_of w.r)
      (all_right (Keeps w.reading) (owners_at ++ standings_at) names_at to_names) (in_range 0 w.r.net.splitters s (omega arith) (omega arith)) (on, (says, tt)) in
      let found = one_in w.reading (flat_map (stands_on w.r.rect s c) dirs) one in
      let dir = from_flat (stands_on w.r.rect s c) dirs found.0 found.1 in
      (dir.0, by dir.0 found.0 found.2 dir.2)
    where
      inside_at : (d : Dir) (fact : Fact) → Says w fact → In (where_inside w.r.rect (before d c) (At s (before d c) d ∷ [])) fact
          → IsInside w.r.rect (before d c) × Says w (At s (before d c) d)
      inside_at d fact t there = let got = one_inside w (before d c) (At s (before d c) d ∷ []) (one_from w.reading fact _ there t) in
          (got.0, ⊎_elim (λ e. e) (λ none. absurd none) got.1)

      by : (d : Dir) (fact : Fact) → Says w fact → In (stands_on w.r.rect s c d) fact
          → Says w (At s c d) ⊎ (IsInside w.r.rect (before d c) × Says w (At s (before d c) d))
      by d fact t (inl e) = inl (subst (λ f. Says w f) e t)
      by d fact t (inr more) = inr (inside_at d fact t more)

  -- what a splitter that stands here says
  at_fact : (s : ℕ) (dir : Dir) (fact : Fact) → s < w.r.net.splitters → Says w (At s c dir)
      → In (holds c (shape.Half Lesser) dir ∷ Carries c (Split s) ∷ Column s (unsigned_abs c.x) ∷ Row s (unsigned_abs c.y) ∷ Points s dir
      ∷ where_inside w.r.rect (mate Lesser dir c) (Carries (mate Lesser dir c) (Split s) ∷ [])) fact → Says w fact
  unfolding standings_at
  at_fact s dir fact lt says there =
      let rules = all_flat (Keeps w.reading) (at_rules w.r.rect s c) dir dirs
      (all_flat (Keeps w.reading) (λ t. flat_map (at_rules w.r.rect t c) dirs) s (splitters_of w.r)
      (all_right (Keeps w.reading) owners_at standings_at to_standings) (in_range 0 w.r.net.splitters s (omega arith) (omega arith))) (in_dirs dir) in
      ⊎_elim (λ e. e) (λ none. absurd none)
      (all_mapped (Keeps w.reading) (λ f. rule (At s c dir ∷ []) (f ∷ [])) fact
      (holds c (shape.Half Lesser) dir ∷ Carries c (Split s) ∷ Column s (unsigned_abs c.x) ∷ Row s (unsigned_abs c.y) ∷ Points s dir
      ∷ where_inside w.r.rect (mate Lesser dir c) (Carries (mate Lesser dir c) (Split s) ∷ [])) rules there (says, tt))

  pub at_lesser : (s : ℕ) (dir : Dir) → s < w.r.net.splitters → Says w (At s c dir) → Says w (holds c (shape.Half Lesser) dir)
  at_lesser s dir lt says = at_fact s dir _ lt says (inl refl)

  pub at_name : (s : ℕ) (dir : Dir) → s < w.r.net.splitters → Says w (At s c dir) → Says w (Carries c (Split s))
  at_name s dir lt says = at_fact s dir _ lt says (inr (inl refl))

  pub at_column : (s : ℕ) (dir : Dir) → s < w.r.net.splitters → Says w (At s c dir) → Says w (Column s (unsigned_abs c.x))
  at_column s dir lt says = at_fact s dir _ lt says (inr (inr (inl refl)))

  pub at_row : (s : ℕ) (dir : Dir) → s < w.r.net.splitters → Says w (At s c dir) → Says w (Row s (unsigned_abs c.y))
  at_row s dir lt says = at_fact s dir _ lt says (inr (inr (inr (inl refl))))

  pub at_points : (s : ℕ) (dir : Dir) → s < w.r.net.splitters → Says w (At s c dir) → Says w (Points s dir)
  at_points s dir lt says = at_fact s dir _ lt says (inr (inr (inr (inr (inl refl)))))

  pub at_mate : (s : ℕ) (dir : Dir) → s < w.r.net.splitters → IsInside w.r.rect (mate Lesser dir c) → Says w (At s c dir) → Says w (Carries (mate Lesser dir c) (Split s))
  at_mate s dir lt i says = at_fact s dir _ lt says (inr (inr (inr (inr (inr
      (subst (λ facts. In facts (Carries (mate Lesser dir c) (Split s))) (sym (where_in w.r.rect (mate Lesser dir c) (Carries (mate Lesser dir c) (Split s) ∷ []) i)) (inl refl)))))))

-- ---- the place of a splitter

module _ (w : Solved) (s : ℕ) (lt : s < w.r.net.splitters) where
  pub stands_somewhere : (c : Cell) × IsInside w.r.rect c × ((dir : Dir) × Says w (At s c dir))
  stands_somewhere =
      let found = one_in w.reading (stands_at w.r.rect s) ((place_kept w s lt).0 tt) in
      let c = from_flat (λ x. map (At s x) dirs) (cells_of w.r.rect) found.0 found.1 in
      let dir = from_map (At s c.0) dirs found.0 c.2 in
      (c.0, from_cells w.r.rect c.0 c.1, (dir.0, subst (λ f. Says w f) dir.2 found.2))

  columns : List Rule
  columns = at_most_one (map (Column s) (range_with_len 0 w.r.rect.width))

  rows : List Rule
  rows = at_most_one (map (Row s) (range_with_len 0 w.r.rect.height))

  ways : List Rule
  ways = at_most_one (map (Points s) dirs)

  places : Kept w (columns ++ rows ++ ways)
  unfolding columns rows ways
  places = (place_kept w s lt).1

  to_rows : Kept w (columns ++ rows)
  to_rows = all_left (Keeps w.reading) (columns ++ rows) ways places

  one_column : (x y : ℕ) → x < w.r.rect.width → y < w.r.rect.width → Says w (Column s x) → Says w (Column s y) → x ≡ y
  unfolding columns
  one_column x y h k a b =
      let same : Column s x ≡ Column s y = one_holds w.reading (Column s x) (Column s y) (map (Column s) (range_with_len 0 w.r.rect.width))
      (all_left (Keeps w.reading) columns rows to_rows)
      (in_map (Column s) (range_with_len 0 w.r.rect.width) x (in_range 0 w.r.rect.width x (omega arith) (omega arith)))
      (in_map (Column s) (range_with_len 0 w.r.rect.width) y (in_range 0 w.r.rect.width y (omega arith) (omega arith))) a b in
      cc

  one_row : (x y : ℕ) → x < w.r.rect.height → y < w.r.rect.height → Says w (Row s x) → Says w (Row s y) → x ≡ y
  unfolding rows
  one_row x y h k a b =
      let same : Row s x ≡ Row s y = one_holds w.reading (Row s x) (Row s y) (map (Row s) (range_with_len 0 w.r.rect.height))
      (all_right (Keeps w.reading) columns rows to_rows)
      (in_map (Row s) (range_with_len 0 w.r.rect.height) x (in_range 0 w.r.rect.height x (omega arith) (omega arith)))
      (in_map (Row s) (range_with_len 0 w.r.rect.height) y (in_range 0 w.r.rect.height y (omega arith) (omega arith))) a b in
      cc

  one_way : (d e : Dir) → Says w (Points s d) → Says w (Points s e) → d ≡ e
  unfolding ways
  one_way d e a b =
      let same : Points s d ≡ Points s e = one_holds w.reading (Points s d) (Points s e) (map (Points s) dirs)
      (all_right (Keeps w.reading) (columns ++ rows) ways places)
      (in_map (Points s) dirs d (in_dirs d)) (in_map (Points s) dirs e (in_dirs e)) a b in
      cc

  pub one_place : (a b : Cell) (d e : Dir) → IsInside w.r.rect a → IsInside w.r.rect b → Says w (At s a d) → Says w (At s b e)
      → (a ≡ b) × (d ≡ e)
  one_place a b d e h k x y = (
    same_spot w.r.rect a b h k
        (one_column (unsigned_abs a.x) (unsigned_abs b.x) (across w.r.rect a h).0 (across w.r.rect b k).0 (at_column w a h s d lt x) (at_column w b k s e lt y))
        (one_row (unsigned_abs a.y) (unsigned_abs b.y) (across w.r.rect a h).1 (across w.r.rect b k).1 (at_row w a h s d lt x) (at_row w b k s e lt y)),
    one_way d e (at_points w a h s d lt x) (at_points w b k s e lt y),
  )
