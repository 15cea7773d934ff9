-- The placement formula of a request is small enough to be numbered, since the request is.
use Rattle.std.proofs.Common.{◌≡◌, ℕ, zero, suc, ◌+◌, ◌-◌, ◌*◌, ◌<◌, ◌≤◌, List, [], ◌∷◌, Bool, true, false, cond, length, map, get_or, not, Option, Some, None, refl, sym, ◌∙◌, ap, subst, inl, inr, arith, length-append}
use Rattle.std.specs.Prelude.{unsigned_abs}
use Rattle.std.specs.List.{flat_map, filter, range_with_len}
use Rattle.std.proofs.lemmas.Nat.{mul-le}
use Rattle.std.proofs.Math.Nat.{mul-le-mul_right}
use Rattle.bt_parts.specs.declared.part.Cell.{Cell}
use Rattle.bt_parts.specs.declared.part.Dir.{Dir}
use Rattle.bt_parts.specs.declared.part.Dir.TheVariants.{North, East, South, West}
use Rattle.bt_parts.specs.declared.part.Tier.{Tier}
use Rattle.bt_parts.specs.declared.part.Tier.TheVariants.{Basic, Fast, Express, Turbo}
use Rattle.bt_parts.specs.Cells.{step, steps, opposite}
use Rattle.bt_parts.specs.Tiers.{reach_of}
use Rattle.bt_net.specs.declared.network.Block.{Block}
use Rattle.bt_net.specs.declared.network.Demand.{Demand}
use Rattle.bt_net.specs.declared.network.Demand.TheVariants as demand
use Rattle.bt_net.specs.declared.network.Edge.{Edge}
use Rattle.bt_net.specs.declared.network.End.{End}
use Rattle.bt_net.specs.declared.network.End.TheVariants.{Input, Output}
use Rattle.bt_net.specs.declared.network.Ends.{Ends}
use Rattle.bt_net.specs.declared.network.Ends.TheVariants.{One, Inputs, Outputs}
use Rattle.bt_net.specs.declared.network.EndKind.{EndKind}
use Rattle.bt_net.specs.declared.network.EndKind.TheVariants as which
use Rattle.bt_net.specs.declared.network.Pin.{Pin}
use Rattle.bt_net.specs.declared.network.Row.{Row as ARow}
use Rattle.bt_net.specs.Network.{leaves}
use Rattle.bt_net.specs.PinText.{HasEnds}
use Rattle.bt_model.specs.Laying.{end_count}
use Rattle.bt_model.specs.Requests.{LayoutRequest, IsRequest, HasEnd, Names, ends_of, is_row, pinned, blocked}
use Rattle.bt_facts.specs.declared.fact.Class.{Class}
use Rattle.bt_facts.specs.declared.fact.Class.TheVariants as class
use Rattle.bt_facts.specs.declared.fact.Content.TheVariants.{Empty}
use Rattle.bt_facts.specs.declared.fact.Fact.{Fact}
use Rattle.bt_facts.specs.declared.fact.Fact.TheVariants.{Kind, Carries, HalfOn, Begins, Starts, Stops, Pair, Tunnel, Goes, At, Column, Row, Points, EntersLesser, Lies}
use Rattle.bt_facts.specs.declared.fact.Half.{Half}
use Rattle.bt_facts.specs.declared.fact.Half.TheVariants.{Lesser}
use Rattle.bt_facts.specs.declared.fact.Line.{Line}
use Rattle.bt_facts.specs.declared.fact.Shape.TheVariants as shape
use Rattle.bt_rules.specs.Carrying.{carried_rules, taken_rule, kept_in_rules, onward_rules, carrying_rules}
use Rattle.bt_demands.specs.Classes.{classes_of, input_classes, occurs, ends_out, is_through, same_class, classes_into, splitters_of, shared_into}
use Rattle.bt_facts.specs.Facts.{holds}
use Rattle.bt_rules.specs.Contents.{contents, content_rules, shape_rules, mate_rules, class_rules}
use Rattle.bt_demands.specs.Counting.{halves_of, has_room, count_rules}
use Rattle.bt_facts.specs.Counters.{last_cell_rule, one_fewer_rules, held_rules, all_held_rules}
use Rattle.bt_rules.specs.Going.{going_rules, inner_rules, fed_belt, fed_entrance, begin_rules, once_rules, handing_rules}
use Rattle.bt_facts.specs.Facts.{goes_into}
use Rattle.bt_demands.specs.Pinning.{is_edge_of, end_shapes, turned_rules, pin_rules, clashes, clash_rules, end_classes, not_begun, begun_rules, stop_rules, apart_rules, pins_other, unpinned_rules, side_end_rules, ends_named, demand_rules, block_rule}
use Rattle.bt_rules.specs.PlaceRules.{cell_rules, splitter_rules, rules_of}
use Rattle.bt_demands.specs.Ends.{end_rules}
use Rattle.bt_demands.specs.Rows.{has_place, kind_facts, line_rules, lines_of, place_facts, placed_rules, row_rules, way_of}
use Rattle.bt_rules.specs.Ports.{two_in_rules, in_rules, out_rules, standing_port_rules, port_rules}
use Rattle.bt_facts.specs.Rules.{rule, rule_by, some_of, not_all}
use Rattle.bt_facts.specs.Spots.{dirs, halves, others_than, behind, mate, half_at, other_half, is_inside, cells_of, is_border, border_of, where_inside}
use Rattle.bt_rules.specs.Standing.{owner_rule, at_rules, name_rule, standing_rules, place_rules}
use Rattle.bt_demands.specs.Starts.{start_rules, input_rules}
use Rattle.bt_rules.specs.Underground.{most_distance, tunnel_rules, pairs_from, pairs_into, back, paired_rules, way_rules, pair_class_rules, pair_rules, piece_rules, underground_rules}
use Rattle.bt_facts.proofs.Keeping.{In, place_of, from_map, from_range}
use Rattle.bt_place.specs.inner.Grid.{spot_in, spots_in, cell_numbered}
use Rattle.bt_place.specs.PlaceFormula.{sizes_of, clause_of, place_formula}
use Rattle.bt_place.proofs.Cells.{spot_within, spot_numbered}
use Rattle.bt_place.proofs.Inverse.{length_cells}
use Rattle.bt_layout.proofs.Few.{HasFew, few_more, few_both, few_first, few_map, few_range, few_flat, few_filter, few_cond, few_inside, few_outside, few_most, few_apart}

reaches : (tier : Tier) → reach_of tier + 1 ≤ 16
reaches Basic = omega arith
reaches Fast = omega arith
reaches Express = omega arith
reaches Turbo = omega arith

-- the numbers of ends
abbrev end_number : End → ℕ
end_number (Input k) = k
end_number (Output k) = 2048 + k

-- exactly so many
as_they_are : {X : Type 0} (xs : List X) → HasFew xs (length xs)
as_they_are xs = record { few = omega arith }

module _ (r : LayoutRequest) (is : IsRequest r) where
  -- ---- what a request has

  splitters : HasFew (splitters_of r) 512
  splitters = few_range 0 r.net.splitters is.few_splitters

  inputs : HasFew (range_with_len 0 r.net.inputs) 2048
  inputs = few_range 0 r.net.inputs is.net.few_inputs

  splitter_classes : HasFew (map class.Split (splitters_of r)) 512
  splitter_classes = few_map class.Split splitters

  of_inputs : HasFew (input_classes r) 4608
  of_inputs = few_filter (occurs r) (few_both (few_flat shared_into 5 splitters (λ t h. as_they_are (shared_into t))) (few_map class.Input inputs))

  classes : HasFew (classes_of r) 5120
  classes = few_both splitter_classes of_inputs

  distances : HasFew (range_with_len 1 (most_distance r)) 16
  distances = few_range 1 (most_distance r) (reaches r.tier)

  edges : HasFew r.net.edges 1024
  edges = record { few = is.few_edges }

  spots_few : spots_in r.rect ≤ 25600
  spots_few = let area = mul-le r.rect.width r.rect.height 160 160 is.grid.few_across is.grid.few_down in omega (arith, area)

  cells : HasFew (cells_of r.rect) 25600
  cells = let long : length (cells_of r.rect) ≡ spots_in r.rect = length_cells (sizes_of r) in let few = spots_few in record { few = omega (arith, long, few) }

  border : HasFew (border_of r.rect) 25600
  border = few_filter (is_border r.rect) cells

  end_below : (end : End) → HasEnd r.net end → end_number end < 4096
  end_below (Input k) h = let le = is.net.few_inputs in omega (arith, h, le)
  end_below (Output k) h = let le = is.net.few_outputs in omega (arith, h, le)

  one_end : (one other : End) → HasEnd r.net one → HasEnd r.net other → end_number one ≡ end_number other → one ≡ other
  one_end (Input k) (Input j) h g e = ap Input e
  one_end (Input k) (Output j) h g e = let le = is.net.few_inputs in absurd (omega (arith, h, le, e))
  one_end (Output k) (Input j) h g e = let le = is.net.few_inputs in absurd (omega (arith, g, le, e))
  one_end (Output k) (Output j) h g e = ap Output (let same : k ≡ j = omega (arith, e) in same)

  -- an end that a line names
  named_of : Ends → End
  named_of (One one) = one
  named_of Inputs = Input 0
  named_of Outputs = Output 0

  names_it : (ends : Ends) → Names ends (named_of ends)
  unfolding named_of
  names_it (One one) = refl
  names_it Inputs = tt
  names_it Outputs = tt

  has_it : (ends : Ends) → HasEnds r.net ends → HasEnd r.net (named_of ends)
  unfolding named_of
  has_it (One one) has = has
  has_it Inputs has = is.net.some_input
  has_it Outputs has = is.net.some_output

  -- the number of a line: that of an end that it names, and more for a row
  line_number : Demand → ℕ
  line_number d = end_number (named_of (ends_of d)) + cond (is_row d) 4096 0

  same_line : (one other : Bool) (a b : ℕ) → a < 4096 → b < 4096 → a + cond one 4096 0 ≡ b + cond other 4096 0 → (one ≡ other) × (a ≡ b)
  same_line true true a b la lb e = (refl, omega (arith, e))
  same_line true false a b la lb e = absurd (omega (arith, e, lb))
  same_line false true a b la lb e = absurd (omega (arith, e, la))
  same_line false false a b la lb e = (refl, omega (arith, e))

  line_below : (b : Bool) (a : ℕ) → a < 4096 → a + cond b 4096 0 < 8192
  line_below true a lt = omega (arith, lt)
  line_below false a lt = omega (arith, lt)

  number_of : (d : Demand) → HasEnds r.net (ends_of d) → end_number (named_of (ends_of d)) < 4096
  number_of d has = end_below (named_of (ends_of d)) (has_it (ends_of d) has)

  demands : HasFew r.demands 8192
  unfolding line_number
  demands = record {
    few = few_apart line_number r.demands 8192
        (λ i j d before lt. λ e.
        let one = get_or r.demands i d in
        let other = get_or r.demands j d in
        let has_one = is.ends i d (omega (arith, before, lt)) in
        let has_other = is.ends j d lt in
        let both = same_line (is_row one) (is_row other) _ _ (number_of one has_one) (number_of other has_other) e in
        let same = one_end (named_of (ends_of one)) (named_of (ends_of other)) (has_it (ends_of one) has_one) (has_it (ends_of other) has_other) both.1 in
        is.demands_apart i j d before lt (both.0, (named_of (ends_of one), names_it (ends_of one), subst (Names (ends_of other)) (sym same) (names_it (ends_of other)))))
        (λ k d lt. line_below (is_row (get_or r.demands k d)) _ (number_of (get_or r.demands k d) (is.ends k d lt)));
  }

  blocks : HasFew r.blocks 25600
  blocks =
      let most = few_apart (λ (block : Block). spot_in r.rect (blocked block)) r.blocks (spots_in r.rect)
      (λ i j d before lt. λ e. is.blocks_apart i j d before lt
      (sym (spot_numbered r.rect _ (is.blocks_inside i d (omega (arith, before, lt)))) ∙ ap (cell_numbered r.rect) e ∙ spot_numbered r.rect _ (is.blocks_inside j d lt)))
      (λ k d lt. spot_within r.rect _ (is.blocks_inside k d lt)) in
      let area = spots_few in
      record { few = omega (arith, most, area) }

  -- ---- the rules of a cell

  contents_few : (c : Cell) → HasFew (content_rules c) 500
  contents_few c = let all = few_first _ (few_most (as_they_are (map (Kind c) contents))) in few_more all (omega arith)

  shapes_few : (c : Cell) → HasFew (shape_rules c) 14
  shapes_few c = as_they_are (shape_rules c)

  mates_few : (c : Cell) → HasFew (mate_rules r.rect c) 8
  mates_few c = as_they_are (mate_rules r.rect c)

  classes_few : (c : Cell) → HasFew (class_rules r c) 27000000
  classes_few c =
      let once = few_most (few_map (Carries c) classes) in
      let not_empty = few_map (λ k. not_all (Kind c Empty ∷ Carries c k ∷ [])) classes in
      let no_half = few_map (λ k. not_all (HalfOn c ∷ Carries c k ∷ [])) of_inputs in
      few_more (few_first _ (few_both (few_both once not_empty) no_half)) (omega arith)

  at_few : (s : ℕ) (c : Cell) (dir : Dir) → HasFew (at_rules r.rect s c dir) 6
  at_few s c dir =
      let name = few_inside r.rect (mate Lesser dir c) (as_they_are (Carries (mate Lesser dir c) (class.Split s) ∷ [])) in
      let facts = few_first (holds c (shape.Half Lesser) dir) (few_first (Carries c (class.Split s)) (few_first (Column s (unsigned_abs c.x)) (few_first (Row s (unsigned_abs c.y)) (few_first (Points s dir) name)))) in
      few_map (λ fact. rule (At s c dir ∷ []) (fact ∷ [])) facts

  standing_few : (c : Cell) → HasFew (standing_rules r c) 20000
  standing_few c =
      let owners = few_map (owner_rule (splitters_of r) c) (as_they_are dirs) in
      let places = few_flat (λ s. flat_map (at_rules r.rect s c) dirs) 24 splitters (λ s h. few_flat (at_rules r.rect s c) 6 (as_they_are dirs) (λ dir k. at_few s c dir)) in
      let names = few_map (name_rule r.rect c) splitters in
      few_more (few_both (few_both owners places) names) (omega arith)

  going_few : (c : Cell) (dir : Dir) → HasFew (going_rules r.rect c dir) 7
  going_few c dir =
      let outside = few_more (as_they_are (not_all (Goes c dir ∷ []) ∷ [])) (let le : 1 ≤ 7 = omega arith in le) in
      few_cond (is_inside r.rect (step dir c)) (as_they_are (inner_rules c dir)) outside

  into_few : (c : Cell) (dir : Dir) → HasFew (goes_into r.rect c dir) 1
  into_few c dir = few_inside r.rect (behind dir c) (as_they_are (Goes (behind dir c) dir ∷ []))

  once_few : (c : Cell) → HasFew (once_rules r.rect c) 41
  once_few c =
      let into = few_flat (goes_into r.rect c) 1 (as_they_are dirs) (λ dir h. into_few c dir) in
      few_both (few_most (few_map (Goes c) (as_they_are dirs))) (few_most (few_first (Begins c) into))

  handing_few : (c : Cell) → HasFew (handing_rules r c) 100
  handing_few c =
      let going = few_flat (going_rules r.rect c) 7 (as_they_are dirs) (λ dir h. going_few c dir) in
      let belts = few_map (fed_belt r.rect c) (as_they_are dirs) in
      let entrances = few_map (fed_entrance r.rect c) (as_they_are dirs) in
      few_more (few_both (few_both (few_both (few_both going belts) entrances) (as_they_are (begin_rules r c))) (once_few c)) (omega arith)

  tunnel_few : (c : Cell) (dir : Dir) → HasFew (tunnel_rules r.rect c dir) 8
  tunnel_few c dir =
      let outside = few_outside r.rect (step dir c) (as_they_are (not_all (Tunnel c dir ∷ []) ∷ [])) in
      let inside = few_inside r.rect (step dir c) (few_map (λ fact. not_all (Tunnel c dir ∷ fact ∷ []))
      (as_they_are (holds (step dir c) shape.Entrance dir ∷ holds (step dir c) shape.Entrance (opposite dir) ∷ holds (step dir c) shape.Exit (opposite dir) ∷ []))) in
      few_first _ (few_first _ (few_first _ (few_first _ (few_both outside inside))))

  from_few : (c : Cell) (dir : Dir) → HasFew (pairs_from r.rect (most_distance r) c dir) 16
  from_few c dir = few_flat (λ k. where_inside r.rect (steps k dir c) (Pair c dir k ∷ [])) 1 distances
      (λ k h. few_inside r.rect (steps k dir c) (as_they_are (Pair c dir k ∷ [])))

  to_few : (c : Cell) (dir : Dir) → HasFew (pairs_into r.rect (most_distance r) c dir) 16
  to_few c dir = few_flat (λ k. where_inside r.rect (back k dir c) (Pair (back k dir c) dir k ∷ [])) 1 distances
      (λ k h. few_inside r.rect (back k dir c) (as_they_are (Pair (back k dir c) dir k ∷ [])))

  paired_few : (c : Cell) (dir : Dir) → HasFew (paired_rules r.rect (most_distance r) c dir) 514
  paired_few c dir = few_first _ (few_both (few_most (from_few c dir)) (few_first _ (few_most (to_few c dir))))

  way_few : (c : Cell) (dir : Dir) (k : ℕ) → k ≤ 17 → HasFew (way_rules c dir k) 18
  way_few c dir k le =
      let between = few_map (λ j. Tunnel (steps j dir c) dir) (few_range {m = 16} 1 (k - 1) (omega (arith, le))) in
      few_map (λ fact. rule (Pair c dir k ∷ []) (fact ∷ [])) (few_first (holds c shape.Entrance dir) (few_first (holds (steps k dir c) shape.Exit dir) between))

  pair_few : (c : Cell) (dir : Dir) (k : ℕ) → k ≤ 17 → HasFew (pair_rules r c dir k) 10258
  pair_few c dir k le =
      let same = few_flat (pair_class_rules c dir k) 2 classes (λ l h. as_they_are (pair_class_rules c dir k l)) in
      few_inside r.rect (steps k dir c) (few_both (way_few c dir k le) same)

  piece_few : (c : Cell) (dir : Dir) → HasFew (piece_rules r c dir) 200000
  piece_few c dir =
      let pairs = few_flat (pair_rules r c dir) 10258 distances
      (λ k h. let at = (from_range 1 (most_distance r) k h).1 in let le = reaches r.tier in pair_few c dir k (omega (arith, at, le))) in
      few_more (few_both (few_both (tunnel_few c dir) (paired_few c dir)) pairs) (omega arith)

  underground_few : (c : Cell) → HasFew (underground_rules r c) 800000
  underground_few c = few_flat (piece_rules r c) 200000 (as_they_are dirs) (λ dir h. piece_few c dir)

  onward_few : (c : Cell) (dir : Dir) → HasFew (onward_rules r c dir) 15872
  onward_few c dir =
      let carried = few_flat (carried_rules r c dir) 3 classes (λ k h. as_they_are (carried_rules r c dir k)) in
      let taken = few_map (taken_rule r c dir) splitters in
      let kept = few_flat (kept_in_rules c dir) 2 (few_filter (λ k. not (ends_out r k)) classes) (λ k h. as_they_are (kept_in_rules c dir k)) in
      few_cond (is_inside r.rect (step dir c)) (few_both carried taken) (few_more kept (let le : 5120 * 2 ≤ 15872 = omega arith in le))

  carrying_few : (c : Cell) → HasFew (carrying_rules r c) 63488
  carrying_few c = few_flat (onward_rules r c) 15872 (as_they_are dirs) (λ dir h. onward_few c dir)

  cell_few : (c : Cell) → HasFew (cell_rules r c) 30000000
  cell_few c =
      few_more
      (few_both (few_both (few_both (few_both (few_both (few_both (few_both (contents_few c) (shapes_few c)) (mates_few c)) (classes_few c)) (standing_few c)) (handing_few c)) (underground_few c))
      (carrying_few c))
      (omega arith)

  -- ---- the rules of a splitter

  places_few : (s : ℕ) → HasFew (place_rules r.rect s) 60000
  places_few s =
      let columns = few_most (few_map (Column s) (few_range 0 r.rect.width is.grid.few_across)) in
      let rows = few_most (few_map (Row s) (few_range 0 r.rect.height is.grid.few_down)) in
      let points = few_most (few_map (Points s) (as_they_are dirs)) in
      few_more (few_first _ (few_both (few_both columns rows) points)) (omega arith)

  two_few : (t : ℕ) (at : Fact) (c : Cell) (dir : Dir) (half : Half) (k l : Class) → HasFew (two_in_rules r.rect t at c dir half k l) 2
  two_few t at c dir half k l =
      few_cond (same_class k l) (few_more (as_they_are (_ ∷ [])) (let le : 1 ≤ 2 = omega arith in le)) (as_they_are (_ ∷ _ ∷ []))

  in_few : (t : ℕ) (at : Fact) (c : Cell) (dir : Dir) (into : List Class) (half : Half) → HasFew (in_rules r.rect t at c dir into half) 3
  in_few t at c dir [] half = few_more (few_map (λ going. not_all (at ∷ going ∷ [])) (into_few (half_at half dir c) dir)) (let le : 1 ≤ 3 = omega arith in le)
  in_few t at c dir (k ∷ []) half =
      few_first _ (few_first _ (few_map (λ going. rule_by half (EntersLesser t) (at ∷ going ∷ []) []) (into_few (half_at (other_half half) dir c) dir)))
  in_few t at c dir (k ∷ l ∷ more) half = few_first _ (two_few t at c dir half k l)

  out_few : (s : ℕ) (at : Fact) (c : Cell) (dir : Dir) (out : List Edge) (half : Half) → HasFew (out_rules r s at c dir out half) 3
  out_few s at c dir [] half = few_more (as_they_are (_ ∷ [])) (let le : 1 ≤ 3 = omega arith in le)
  out_few s at c dir (edge ∷ []) half = as_they_are (_ ∷ _ ∷ _ ∷ [])
  out_few s at c dir (edge ∷ other ∷ more) half = few_more (as_they_are (_ ∷ _ ∷ [])) (let le : 2 ≤ 3 = omega arith in le)

  standing_ports_few : (s : ℕ) (c : Cell) (dir : Dir) → HasFew (standing_port_rules r s c dir) 12
  standing_ports_few s c dir =
      let into = few_flat (in_rules r.rect s (At s c dir) c dir (classes_into r s)) 3 (as_they_are halves) (λ half h. in_few s (At s c dir) c dir (classes_into r s) half) in
      let out = few_flat (out_rules r s (At s c dir) c dir (filter (leaves s) r.net.edges)) 3 (as_they_are halves)
      (λ half h. out_few s (At s c dir) c dir (filter (leaves s) r.net.edges) half) in
      few_inside r.rect (mate Lesser dir c) (few_both into out)

  ports_few : (s : ℕ) → HasFew (port_rules r s) 1228800
  ports_few s = few_flat (λ c. flat_map (standing_port_rules r s c) dirs) 48 cells
      (λ c h. few_flat (standing_port_rules r s c) 12 (as_they_are dirs) (λ dir k. standing_ports_few s c dir))

  -- ---- all rules

  input_few : (i : ℕ) → HasFew (input_rules r i) 655436801
  input_few i =
      let once = few_first _ (few_most (few_map (λ c. Starts c i) border)) in
      let each = few_flat (start_rules i) 3 border (λ c h. as_they_are (start_rules i c)) in
      few_cond (is_through r i) (few_both once each) (record { few = omega arith })

  three_others : (dir : Dir) → HasFew (others_than dir) 3
  three_others North = record { few = omega arith }
  three_others East = record { few = omega arith }
  three_others South = record { few = omega arith }
  three_others West = record { few = omega arith }

  turned_few : (c : Cell) (end : End) (dir : Option Dir) → HasFew (turned_rules c end dir) 6
  turned_few c end None = record { few = omega arith }
  turned_few c end (Some dir) = few_flat (λ of. map (λ other. not_all (holds c of other ∷ [])) (others_than dir)) 3 (two_shapes end) (λ of h. few_map _ (three_others dir))
    where
      two_shapes : (end : End) → HasFew (end_shapes end) 2
      two_shapes (Input k) = record { few = omega arith }
      two_shapes (Output k) = record { few = omega arith }

  pin_few : (pin : Pin) → HasFew (pin_rules r pin) 1031
  pin_few pin = few_both (few_map _ (few_filter (is_edge_of pin.end) edges)) (few_first _ (turned_few (pinned pin) pin.end pin.dir))

  end_classes_few : (e : End) → HasFew (end_classes r e) 1024
  end_classes_few e = few_map _ (few_filter (is_edge_of e) edges)

  begun_few : (dir : Dir) (k : Class) → HasFew (begun_rules r.rect dir k) 153600
  begun_few dir k = few_flat (λ c. flat_map (not_begun k c) (others_than (opposite dir))) 6 border
      (λ c h. few_flat (not_begun k c) 2 (three_others (opposite dir)) (λ other l. as_they_are (not_begun k c other)))

  stop_few : (dir : Dir) (o : ℕ) (c : Cell) → HasFew (stop_rules r dir o c) 1025
  stop_few dir o c = few_first _ (few_map _ (end_classes_few (Output o)))

  unpinned_few : (o : ℕ) (d : Demand) → HasFew (unpinned_rules o d) 1
  unpinned_few o (demand.Pin pin) = few_cond (pins_other o pin.end) (as_they_are (not_all (Stops (pinned pin) o ∷ []) ∷ [])) (record { few = omega arith })
  unpinned_few o (demand.Side side) = record { few = omega arith }
  unpinned_few o (demand.Row row) = record { few = omega arith }

  side_end_few : (dir : Dir) (e : End) → HasEnd r.net e → HasFew (side_end_rules r dir e) 160000000
  side_end_few dir (Input k) has = few_more (few_flat (begun_rules r.rect dir) 153600 (end_classes_few (Input k)) (λ l h. begun_few dir l)) (omega arith)
  side_end_few dir (Output o) has =
      let stops = few_flat (stop_rules r dir o) 1025 border (λ c h. stop_few dir o c) in
      let apart = few_flat (apart_rules r.rect o) 25600 (few_range {m = 2048} 0 o (let le = is.net.few_outputs in omega (arith, has, le))) (λ other h. few_map _ border) in
      let unpinned = few_flat (unpinned_rules o) 1 demands (λ d h. unpinned_few o d) in
      few_more (few_first _ (few_both (few_both stops apart) unpinned)) (omega arith)

  -- the ends that a line names
  ends_named_few : (ends : Ends) → HasFew (ends_named r ends) 2048
  ends_named_few (One one) = record { few = omega arith }
  ends_named_few Inputs = few_map Input (few_range 0 r.net.inputs is.net.few_inputs)
  ends_named_few Outputs = few_map Output (few_range 0 r.net.outputs is.net.few_outputs)

  named_has : (ends : Ends) → HasEnds r.net ends → (e : End) → In (ends_named r ends) e → HasEnd r.net e
  named_has (One one) has e (inl same) = subst (HasEnd r.net) (sym same) has
  named_has (One one) has e (inr none) = absurd none
  named_has Inputs has e there =
      let at = from_map Input (range_with_len 0 r.net.inputs) e there in
      let below = (from_range 0 r.net.inputs at.0 at.1).1 in
      let lt : HasEnd r.net (Input at.0) = omega (arith, below) in subst (HasEnd r.net) (sym at.2) lt
  named_has Outputs has e there =
      let at = from_map Output (range_with_len 0 r.net.outputs) e there in
      let below = (from_range 0 r.net.outputs at.0 at.1).1 in
      let lt : HasEnd r.net (Output at.0) = omega (arith, below) in subst (HasEnd r.net) (sym at.2) lt

  -- the rules of a row: of each of its lines, of each place, one for each cell
  ends_counted : (kind : EndKind) → end_count r.net kind ≤ 2048
  ends_counted which.Inputs = is.net.few_inputs
  ends_counted which.Outputs = is.net.few_outputs

  lines_few : (kind : EndKind) → HasFew (lines_of kind) 2
  lines_few which.Inputs = record { few = omega arith }
  lines_few which.Outputs = record { few = omega arith }

  placed_few : (kind : EndKind) (l : Line) (c : Cell) → HasFew (placed_rules r.rect kind (end_count r.net kind) l c) 2048
  placed_few kind l c =
      few_map (λ k. rule (Lies c l ∷ []) (kind_facts r.rect (steps k (way_of l) c) kind)) (few_range {m = 2048} 0 (end_count r.net kind) (ends_counted kind))

  line_few : (kind : EndKind) (l : Line) → HasFew (line_rules r.rect kind (end_count r.net kind) l) 52428800
  line_few kind l =
      few_flat (placed_rules r.rect kind (end_count r.net kind) l) 2048 (few_filter (has_place r.rect (end_count r.net kind) l) cells) (λ c h. placed_few kind l c)

  row_few : (row : ARow) → HasFew (row_rules r row) 104857601
  row_few row =
      let all : HasFew (flat_map (line_rules r.rect row.kind (end_count r.net row.kind)) (lines_of row.kind)) 104857600 =
      few_flat (line_rules r.rect row.kind (end_count r.net row.kind)) 52428800 (lines_few row.kind) (λ l h. line_few row.kind l) in
      few_first (some_of (flat_map (place_facts r.rect (end_count r.net row.kind)) (lines_of row.kind))) all

  demand_few : (d : Demand) → HasEnds r.net (ends_of d) → HasFew (demand_rules r d) 327680000000
  demand_few (demand.Pin pin) has = few_more (pin_few pin) (omega arith)
  demand_few (demand.Side side) has = few_flat (side_end_rules r side.dir) 160000000 (ends_named_few side.ends) (λ e h. side_end_few side.dir e (named_has side.ends has e h))
  demand_few (demand.Row row) has = few_more (row_few row) (omega arith)

  all_at : (d : Demand) → In r.demands d → HasEnds r.net (ends_of d)
  all_at d there = let place = place_of r.demands d there in subst (λ x. HasEnds r.net (ends_of x)) (place.2 d) (is.ends place.0 d place.1)

  clashing : (others : List Demand) (n : ℕ) → length others ≤ n → length (clash_rules others) ≤ length others * n
  clashing [] n le = omega arith
  clashing (d ∷ others) n le =
      let later = clashing others n (omega (arith, le)) in
      let here = (few_map {n = n} (λ other. some_of []) (few_filter {xs = others} (clashes d) (record { few = omega (arith, le) }))).few in
      let all = length-append (map (λ other. some_of []) (filter (clashes d) others)) (clash_rules others) in
      omega (arith, later, here, all)

  clashes_few : HasFew (clash_rules r.demands) 67108864
  clashes_few =
      let all = clashing r.demands 8192 demands.few in let le : length r.demands * 8192 ≤ 8192 * 8192 = mul-le-mul_right 8192 demands.few in record { few = omega (arith, all, le) }

  ends_few : HasFew (end_rules r) 3000000000000000
  ends_few =
      let at_inputs = few_flat (input_rules r) 655436801 inputs (λ i h. input_few i) in
      let at_demands = few_flat (demand_rules r) 327680000000 demands (λ d h. demand_few d (all_at d h)) in
      few_more (few_both (few_both (few_both at_inputs at_demands) clashes_few) (few_map block_rule blocks)) (omega arith)

  fewer_few : (spare half : ℕ) → HasFew (one_fewer_rules spare half) 1
  fewer_few spare zero = record { few = omega arith }
  fewer_few spare (suc half) = record { few = omega arith }

  all_held_few : (n m : ℕ) → HasFew (all_held_rules n m) 1
  all_held_few n zero = record { few = omega arith }
  all_held_few n (suc half) = record { few = omega arith }

  counts_few : HasFew (count_rules r) 52430849
  counts_few =
      let all = cells.few in
      let s = is.few_splitters in
      let halves_in = few_range {m = 1024} 0 (halves_of r) (omega (arith, s)) in
      let spares_in = few_range {m = 25601} 0 (length (cells_of r.rect) + 1 - halves_of r) (omega (arith, all)) in
      few_both
      (few_flat (λ spare. flat_map (held_rules (cells_of r.rect) spare) (range_with_len 0 (halves_of r))) 2048 spares_in
      (λ spare h. few_flat (held_rules (cells_of r.rect) spare) 2 halves_in (λ half g. few_first (last_cell_rule (cells_of r.rect) spare half) (fewer_few spare half))))
      (all_held_few (length (cells_of r.rect)) (halves_of r))

  rules_few : HasFew (rules_of r) 4000000000000000
  rules_few =
      let at_cells = few_flat (cell_rules r) 30000000 cells (λ c h. cell_few c) in
      let at_splitters = few_flat (splitter_rules r) 1288800 splitters (λ s h. few_both (places_few s) (ports_few s)) in
      few_cond (has_room r) (few_more (few_both (few_both (few_both at_cells at_splitters) ends_few) counts_few) (omega arith))
      (record { few = omega arith })

  pub clauses_few : length (place_formula r).clauses ≤ 4000000000000000
  clauses_few = (few_map (clause_of (sizes_of r)) rules_few).few
