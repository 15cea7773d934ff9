-- Underground pairs: their ends, and what isn't between.
use Rattle.std.proofs.Common.{◌≡◌, ℕ, ◌-◌, ◌<◌, ◌≤◌, List, [], ◌∷◌, ◌++◌, map, refl, sym, subst, inl, ⊎_elim, arith}
use Rattle.std.specs.List.{flat_map, range_with_len}
use Rattle.bt_parts.specs.declared.part.Cell.{Cell}
use Rattle.bt_parts.specs.declared.part.Dir.{Dir}
use Rattle.bt_parts.specs.Cells.{step, steps, opposite, IsInside}
use Rattle.bt_facts.specs.declared.fact.Class.{Class}
use Rattle.bt_facts.specs.declared.fact.Fact.TheVariants.{Carries, Pair, Tunnel}
use Rattle.bt_facts.specs.declared.fact.Shape.TheVariants as shape
use Rattle.bt_demands.specs.Classes.{classes_of}
use Rattle.bt_facts.specs.Facts.{holds}
use Rattle.bt_facts.specs.Rules.{Rule, rule, not_all, at_most_one, Keeps}
use Rattle.bt_facts.specs.Spots.{dirs, where_inside, where_outside}
use Rattle.bt_rules.specs.Underground.{most_distance, tunnel_rules, pairs_from, pairs_into, paired_rules, way_rules, pair_class_rules, pair_rules, piece_rules, back}
use Rattle.bt_facts.proofs.Geometry.{in_dirs}
use Rattle.bt_facts.proofs.Keeping.{In, from_flat, from_range, in_flat, in_map, in_range}
use Rattle.bt_rules.proofs.kept.Readings.{all_left, all_right, all_mapped, all_flat, one_in, one_from, one_holds}
use Rattle.bt_rules.proofs.kept.Geometry.{where_in}
use Rattle.bt_rules.proofs.kept.Solved.{Solved, Says, Kept, one_inside, underground_kept}

module _ (w : Solved) (c : Cell) (h : IsInside w.r.rect c) (dir : Dir) where
  most : ℕ
  most = most_distance w.r

  tunnels_at : List Rule
  tunnels_at = tunnel_rules w.r.rect c dir

  paired_at : List Rule
  paired_at = paired_rules w.r.rect (most_distance w.r) c dir

  pairs_at : List Rule
  pairs_at = flat_map (pair_rules w.r c dir) (range_with_len 1 (most_distance w.r))

  all_pieces : Kept w (tunnels_at ++ paired_at ++ pairs_at)
  unfolding tunnels_at paired_at pairs_at
  all_pieces = all_flat (Keeps w.reading) (piece_rules w.r c) dir dirs (underground_kept w c h) (in_dirs dir)

  to_paired : Kept w (tunnels_at ++ paired_at)
  to_paired = all_left (Keeps w.reading) (tunnels_at ++ paired_at) pairs_at all_pieces

  tunnel_kept : Kept w (tunnel_rules w.r.rect c dir)
  unfolding tunnels_at
  tunnel_kept = all_left (Keeps w.reading) tunnels_at paired_at to_paired

  pub entrance_tunnels : Says w (holds c shape.Entrance dir) → Says w (Tunnel c dir)
  entrance_tunnels s = ⊎_elim (λ e. e) (λ none. absurd none) (tunnel_kept.0 (s, tt))

  pub tunnel_no_exit : Says w (Tunnel c dir) → Says w (holds c shape.Exit dir) → ⊥
  tunnel_no_exit t s = tunnel_kept.1.1.1.0 (t, (s, tt))

  past : List Rule
  past = map (λ fact. not_all (Tunnel c dir ∷ fact ∷ [])) (holds (step dir c) shape.Entrance dir ∷ holds (step dir c) shape.Entrance (opposite dir)
      ∷ holds (step dir c) shape.Exit (opposite dir) ∷ [])

  past_kept : IsInside w.r.rect (step dir c) → Kept w past
  unfolding past
  past_kept i =
      subst (Kept w) (where_in w.r.rect (step dir c) past i)
      (all_right (Keeps w.reading) (where_outside w.r.rect (step dir c) (not_all (Tunnel c dir ∷ []) ∷ [])) (where_inside w.r.rect (step dir c) past) tunnel_kept.1.1.1.1)

  -- a tunnel passes no entrance, and no piece that points back
  pub tunnel_passes : IsInside w.r.rect (step dir c) → Says w (Tunnel c dir) → (Says w (holds (step dir c) shape.Entrance dir) → ⊥)
      × (Says w (holds (step dir c) shape.Entrance (opposite dir)) → ⊥) × (Says w (holds (step dir c) shape.Exit (opposite dir)) → ⊥)
  unfolding past
  tunnel_passes i t = let kept = past_kept i in (λ s. kept.0 (t, (s, tt)), λ s. kept.1.0 (t, (s, tt)), λ s. kept.1.1.0 (t, (s, tt)))

  -- an entrance begins a pair
  pub pair_begins : Says w (holds c shape.Entrance dir)
      → (k : ℕ) × (1 ≤ k) × (k ≤ most_distance w.r) × IsInside w.r.rect (steps k dir c) × Says w (Pair c dir k)
  unfolding paired_at
  pair_begins s =
      let kept = all_right (Keeps w.reading) tunnels_at paired_at to_paired in
      let found = one_in w.reading (pairs_from w.r.rect (most_distance w.r) c dir) (kept.0 (s, tt)) in
      let k = from_flat (λ k. where_inside w.r.rect (steps k dir c) (Pair c dir k ∷ [])) (range_with_len 1 (most_distance w.r)) found.0 found.1 in
      let has = from_range 1 (most_distance w.r) k.0 k.1 in
      let got = one_inside w (steps k.0 dir c) (Pair c dir k.0 ∷ []) (one_from w.reading found.0 _ k.2 found.2) in
      (k.0, has.0, (let lt = has.1 in omega arith), got.0, ⊎_elim (λ e. e) (λ none. absurd none) got.1)

  -- and one alone
  pub one_pair : (k j : ℕ) → 1 ≤ k → k ≤ most_distance w.r → IsInside w.r.rect (steps k dir c) → Says w (Pair c dir k)
      → 1 ≤ j → j ≤ most_distance w.r → IsInside w.r.rect (steps j dir c) → Says w (Pair c dir j) → k ≡ j
  unfolding paired_at
  one_pair k j k_some k_few k_in s j_some j_few j_in t =
      let kept = all_right (Keeps w.reading) tunnels_at paired_at to_paired in
      let entrances = all_left (Keeps w.reading) (at_most_one (pairs_from w.r.rect (most_distance w.r) c dir))
      (rule (holds c shape.Exit dir ∷ []) (pairs_into w.r.rect (most_distance w.r) c dir) ∷ at_most_one (pairs_into w.r.rect (most_distance w.r) c dir)) kept.1 in
      let same : Pair c dir k ≡ Pair c dir j = one_holds w.reading (Pair c dir k) (Pair c dir j) (pairs_from w.r.rect (most_distance w.r) c dir) entrances
      (in_pairs k k_some k_few k_in) (in_pairs j j_some j_few j_in) s t in
      cc
    where
      in_pairs : (i : ℕ) → 1 ≤ i → i ≤ most_distance w.r → IsInside w.r.rect (steps i dir c) → In (pairs_from w.r.rect (most_distance w.r) c dir) (Pair c dir i)
      in_pairs i some few there =
          in_flat (λ x. where_inside w.r.rect (steps x dir c) (Pair c dir x ∷ [])) (range_with_len 1 (most_distance w.r)) i (Pair c dir i)
          (in_range 1 (most_distance w.r) i some (omega arith))
          (subst (λ facts. In facts (Pair c dir i)) (sym (where_in w.r.rect (steps i dir c) (Pair c dir i ∷ []) there)) (inl refl))

  -- an exit ends a pair
  pub pair_ends : Says w (holds c shape.Exit dir)
      → (k : ℕ) × (1 ≤ k) × (k ≤ most_distance w.r) × IsInside w.r.rect (back k dir c) × Says w (Pair (back k dir c) dir k)
  unfolding paired_at
  pair_ends s =
      let kept = all_right (Keeps w.reading) tunnels_at paired_at to_paired in
      let exits = all_right (Keeps w.reading) (at_most_one (pairs_from w.r.rect (most_distance w.r) c dir))
      (rule (holds c shape.Exit dir ∷ []) (pairs_into w.r.rect (most_distance w.r) c dir) ∷ at_most_one (pairs_into w.r.rect (most_distance w.r) c dir)) kept.1 in
      let found = one_in w.reading (pairs_into w.r.rect (most_distance w.r) c dir) (exits.0 (s, tt)) in
      let k = from_flat (λ x. where_inside w.r.rect (back x dir c) (Pair (back x dir c) dir x ∷ [])) (range_with_len 1 (most_distance w.r)) found.0 found.1 in
      let has = from_range 1 (most_distance w.r) k.0 k.1 in
      let got = one_inside w (back k.0 dir c) (Pair (back k.0 dir c) dir k.0 ∷ []) (one_from w.reading found.0 _ k.2 found.2) in
      (k.0, has.0, (let lt = has.1 in omega arith), got.0, ⊎_elim (λ e. e) (λ none. absurd none) got.1)

  module _ (k : ℕ) (some : 1 ≤ k) (few : k ≤ most_distance w.r) (i : IsInside w.r.rect (steps k dir c)) (pair : Says w (Pair c dir k)) where
    classes_at : List Rule
    classes_at = flat_map (pair_class_rules c dir k) (classes_of w.r)

    pair_kept : Kept w (way_rules c dir k ++ classes_at)
    unfolding pairs_at classes_at
    pair_kept =
        subst (Kept w) (where_in w.r.rect (steps k dir c) (way_rules c dir k ++ flat_map (pair_class_rules c dir k) (classes_of w.r)) i)
        (all_flat (Keeps w.reading) (pair_rules w.r c dir) k (range_with_len 1 (most_distance w.r))
        (all_right (Keeps w.reading) (tunnels_at ++ paired_at) pairs_at all_pieces) (in_range 1 (most_distance w.r) k some (omega arith)))

    way_kept : Kept w (way_rules c dir k)
    way_kept = all_left (Keeps w.reading) (way_rules c dir k) classes_at pair_kept

    -- here the entrance stands
    pub entrance_there : Says w (holds c shape.Entrance dir)
    entrance_there = ⊎_elim (λ e. e) (λ none. absurd none) (way_kept.0 (pair, tt))

    -- there the exit stands
    pub exit_there : Says w (holds (steps k dir c) shape.Exit dir)
    exit_there = ⊎_elim (λ e. e) (λ none. absurd none) (way_kept.1.0 (pair, tt))

    -- and the way there is a tunnel
    pub tunnel_between : (j : ℕ) → 1 ≤ j → j < k → Says w (Tunnel (steps j dir c) dir)
    tunnel_between j j_some lt =
        ⊎_elim (λ e. e) (λ none. absurd none)
        (all_mapped (Keeps w.reading) (λ fact. rule (Pair c dir k ∷ []) (fact ∷ [])) (Tunnel (steps j dir c) dir)
        (map (λ x. Tunnel (steps x dir c) dir) (range_with_len 1 (k - 1))) way_kept.1.1
        (in_map (λ x. Tunnel (steps x dir c) dir) (range_with_len 1 (k - 1)) j (in_range 1 (k - 1) j j_some (omega arith))) (pair, tt))

    -- with the entrance's class
    pub class_under : (class : Class) → In (classes_of w.r) class → Says w (Carries c class) → Says w (Carries (steps k dir c) class)
    unfolding classes_at
    class_under class there s =
        let kept = all_flat (Keeps w.reading) (pair_class_rules c dir k) class (classes_of w.r)
        (all_right (Keeps w.reading) (way_rules c dir k) classes_at pair_kept) there in
        ⊎_elim (λ t. t) (λ none. absurd none) (kept.0 (pair, (s, tt)))
