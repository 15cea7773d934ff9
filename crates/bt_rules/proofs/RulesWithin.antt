-- The rules of a request speak of cells, splitters, inputs and classes that it has.
use Rattle.std.proofs.Common.{◌≡◌, inl, inr, ℕ, zero, suc, ◌+◌, ◌<◌, ◌≤◌, ◌-◌, ℤ, pos, negsuc, Bool, true, false, not, cond, List, [], ◌∷◌, ◌++◌, length, get_or, map, Option, Some, None, refl, sym, ap, subst, ⊎_elim, arith}
use Rattle.std.specs.List.{AllByRecursion, All, Contains, flat_map, filter, range_with_len}
use Rattle.std.specs.Prelude.{unsigned_abs, ◌<ℤ◌, ◌≤ℤ◌}
use Rattle.std.proofs.lemmas.Int.{ints}
use Rattle.bt_parts.specs.declared.part.Cell.{Cell}
use Rattle.bt_parts.specs.declared.part.Dir.{Dir}
use Rattle.bt_parts.specs.Cells.{step, steps, opposite, IsInside, cell_at}
use Rattle.bt_net.specs.declared.network.Demand.{Demand}
use Rattle.bt_net.specs.declared.network.Demand.TheVariants as demand
use Rattle.bt_net.specs.declared.network.Edge.{Edge}
use Rattle.bt_net.specs.declared.network.End.{End}
use Rattle.bt_net.specs.declared.network.End.TheVariants.{Input, Output}
use Rattle.bt_net.specs.declared.network.Ends.{Ends}
use Rattle.bt_net.specs.declared.network.Ends.TheVariants.{One, Inputs, Outputs}
use Rattle.bt_net.specs.declared.network.Pin.{Pin}
use Rattle.bt_net.specs.declared.network.Side.{Side}
use Rattle.bt_net.specs.Network.{leaves, enters}
use Rattle.bt_net.specs.PinText.{HasEnds}
use Rattle.bt_model.specs.Requests.{LayoutRequest, IsRequest, IsPinnedInside, is_row, ends_of, pinned, blocked}
use Rattle.bt_facts.specs.declared.fact.Class.{Class}
use Rattle.bt_facts.specs.declared.fact.Class.TheVariants as class
use Rattle.bt_facts.specs.declared.fact.Content.TheVariants.{Empty}
use Rattle.bt_facts.specs.declared.fact.Fact.{Fact}
use Rattle.bt_facts.specs.declared.fact.Fact.TheVariants as fact
use Rattle.bt_facts.specs.declared.fact.Fact.TheVariants.{Stops, Lies}
use Rattle.bt_facts.specs.declared.fact.Line.{Line}
use Rattle.bt_facts.specs.declared.fact.Half.{Half}
use Rattle.bt_facts.specs.declared.fact.Half.TheVariants.{Lesser, Greater}
use Rattle.bt_facts.specs.declared.fact.Shape.TheVariants as shape
use Rattle.bt_rules.specs.Carrying.{carried_rules, taken_rule, kept_in_rules, onward_rules, carrying_rules}
use Rattle.bt_demands.specs.Classes.{same_class, class_of, goes_to, ends_out, is_through, splitters_of, input_classes, classes_of, goals, sources, onward, classes_into}
use Rattle.bt_facts.specs.Facts.{holds}
use Rattle.bt_rules.specs.Contents.{contents, content_rules, half_kinds, belt_kinds, shape_rules, mate_rule, mate_rules, class_rules}
use Rattle.bt_facts.specs.Rules.{equals_one}
use Rattle.bt_demands.specs.Counting.{halves_of, ends_apart, has_room, count_rules}
use Rattle.bt_facts.specs.Counters.{among_less, one_fewer_rules, held_rules, counter_rules, all_held_rules}
use Rattle.bt_rules.specs.Going.{runners, givers, inner_rules, going_rules, begins_there, fed_belt, fed_entrance, begin_rules, once_rules, handing_rules}
use Rattle.bt_facts.specs.Facts.{goes_into}
use Rattle.bt_rules.specs.Laws.{RulesAreWithin}
use Rattle.bt_demands.specs.Pinning.{is_edge_of, pin_class_rules, end_facts, end_shapes, turned_rules, pin_rules, clashes, clash_rules, end_classes, not_begun, begun_rules, stop_rules, apart_rules, pins_other, unpinned_rules, side_end_rules, ends_named, side_rules, demand_rules, block_rule}
use Rattle.bt_rules.specs.PlaceRules.{cell_rules, splitter_rules, room_rules, rules_of}
use Rattle.bt_demands.specs.Ends.{end_rules}
use Rattle.bt_rules.specs.Ports.{carries_into, two_in_rules, in_rules, in_front, out_rules, standing_port_rules, port_rules}
use Rattle.bt_facts.specs.Rules.{Rule, rule, some_of, not_all, at_most_one, exactly_one, rule_by}
use Rattle.bt_facts.specs.Spots.{dirs, halves, sides_of, others_than, other_half, behind, mate, half_at, where_inside, where_outside, cells_of, is_border, border_of}
use Rattle.bt_rules.specs.Standing.{owner_rule, at_rules, stands_on, name_rule, standing_rules, place_rules}
use Rattle.bt_demands.specs.Starts.{start_rules, input_rules}
use Rattle.bt_rules.specs.Underground.{most_distance, tunnel_into, tunnel_rules, pairs_from, back, pairs_into, paired_rules, way_rules, pair_class_rules, pair_rules, piece_rules, underground_rules}
use Rattle.bt_rules.specs.Within.{IsWithin, HasWithin}
use Rattle.bt_demands.specs.Stopping.{has_outputs, sides_outputs, stopping}
use Rattle.bt_demands.specs.Rows.{lines_of, way_of, kind_facts, has_place, row_places, place_facts, placed_rules, line_rules, row_rules, lining}
use Rattle.bt_demands.proofs.RowCells.{place_inside}
use Rattle.bt_net.specs.declared.network.EndKind.{EndKind}
use Rattle.bt_net.specs.declared.network.EndKind.TheVariants.{Inputs, Outputs}
use Rattle.bt_net.specs.declared.network.Row.{Row}
use Rattle.bt_model.specs.Laying.{end_count}
use Rattle.bt_rules.proofs.Classed.{edge_class_listed, through_listed}
use Rattle.bt_demands.proofs.Fitting.{from_enough}
use Rattle.bt_facts.proofs.Geometry.{inside_cases, inside_between, from_cells}
use Rattle.bt_facts.proofs.Keeping.{In, in_left, in_right, in_at, in_map, from_map, in_range, in_contains, from_filter, from_range, any_in, each_both, each_three, each_four, each_flat, each_map}

-- of lists of what is inside, or outside
all_inside : {X : Type 0} (r : LayoutRequest) (c : Cell) (P : X → Type 0) (xs : List X) → (IsInside r.rect c → AllByRecursion P xs) → AllByRecursion P (where_inside r.rect c xs)
all_inside r c P xs h =
    ⊎_elim (λ i. subst (λ b. AllByRecursion P (cond b xs [])) (sym i.1) (h i.0)) (λ o. subst (λ b. AllByRecursion P (cond b xs [])) (sym o.1) tt) (inside_cases r.rect c)

all_outside : {X : Type 0} (r : LayoutRequest) (c : Cell) (P : X → Type 0) (xs : List X) → AllByRecursion P xs → AllByRecursion P (where_outside r.rect c xs)
all_outside r c P xs h =
    ⊎_elim (λ i. subst (λ b. AllByRecursion P (cond b [] xs)) (sym i.1) tt) (λ o. subst (λ b. AllByRecursion P (cond b [] xs)) (sym o.1) h) (inside_cases r.rect c)

-- what is so of all items is so of each
all_of : {X : Type 0} (P : X → Type 0) (xs : List X) (x : X) → All P xs → In xs x → P x
all_of P [] x all h = absurd h
all_of P (y ∷ xs) x all (inl e) = subst P (sym e) (all 0 x (omega arith))
all_of P (y ∷ xs) x all (inr h) = all_of P xs x (λ k d lt. all (suc k) d (omega arith)) h

module _ (r : LayoutRequest) (is : IsRequest r) where
  abbrev W : Fact → Type 0
  W = IsWithin r

  abbrev H : Rule → Type 0
  H = HasWithin r

  abbrev I : Cell → Type 0
  I c = IsInside r.rect c

  abbrev A : List Fact → Type 0
  A facts = AllByRecursion W facts

  abbrev R : List Rule → Type 0
  R rules = AllByRecursion H rules

  -- ---- rules of lists

  -- the rule of facts that are there
  made : (given one_of : List Fact) → A given → A one_of → H (rule given one_of)
  made given one_of g o = record { given = g; one_of = o }

  at_most_within : (facts : List Fact) → A facts → R (at_most_one facts)
  at_most_within [] h = tt
  at_most_within (f ∷ facts) h = each_both H (map (λ other. not_all (f ∷ other ∷ [])) facts) (at_most_one facts) (others f h.0 facts h.1) (at_most_within facts h.1)
    where
      others : (f : Fact) → W f → (facts : List Fact) → A facts → R (map (λ other. not_all (f ∷ other ∷ [])) facts)
      others f w [] h = tt
      others f w (g ∷ facts) h = (record { given = (w, (h.0, tt)); one_of = tt }, others f w facts h.1)

  exactly_within : (facts : List Fact) → A facts → R (exactly_one facts)
  exactly_within facts h = (made [] facts tt h, at_most_within facts h)

  -- a rule for each fact of a list
  each_within : (f : Fact → Rule) (facts : List Fact) → A facts → ((g : Fact) → W g → H (f g)) → R (map f facts)
  each_within f [] h one = tt
  each_within f (g ∷ facts) h one = (one g h.0, each_within f facts h.1 one)

  equals_within : (f : Fact) (facts : List Fact) → W f → A facts → R (equals_one f facts)
  equals_within f facts w h = (made (f ∷ []) facts (w, tt) h, each_within (λ one. rule (one ∷ []) (f ∷ [])) facts h (λ g v. made (g ∷ []) (f ∷ []) (v, tt) (w, tt)))

  by_within : (half : Half) (f : Fact) (given one_of : List Fact) → W f → A given → A one_of → H (rule_by half f given one_of)
  by_within Lesser f given one_of w g o = made (f ∷ given) one_of (w, g) o
  by_within Greater f given one_of w g o = made given (f ∷ one_of) g (w, o)

  -- ---- numbers and classes

  natural : (a : ℤ) (n : ℕ) → pos 0 ≤ℤ a → a <ℤ pos n → unsigned_abs a < n
  natural (pos m) n h lt = omega (arith, ints)
  natural (negsuc m) n h lt = absurd (omega (arith, ints))

  below : (n k : ℕ) → In (range_with_len 0 n) k → k < n
  below n k h = let b = from_range 0 n k h in let lt = b.1 in omega (arith, lt)

  distance_within : (k : ℕ) → In (range_with_len 1 (most_distance r)) k → (1 ≤ k) × (k ≤ most_distance r)
  distance_within k h = let b = from_range 1 (most_distance r) k h in let lt = b.1 in (b.0, omega (arith, lt))

  listed : (k : Class) → In (classes_of r) k → Contains (classes_of r) k
  listed k h = in_contains (classes_of r) k h

  input_listed : (k : Class) → In (input_classes r) k → In (classes_of r) k
  input_listed k h = in_right (map class.Split (splitters_of r)) (input_classes r) k h

  split_listed : (s : ℕ) → s < r.net.splitters → Contains (classes_of r) (class.Split s)
  split_listed s lt = listed (class.Split s) (in_left (map class.Split (splitters_of r)) (input_classes r) (class.Split s)
      (in_map class.Split (splitters_of r) s (in_range 0 r.net.splitters s (omega arith) (omega (arith, lt)))))

  carries_within : (c : Cell) (ks : List Class) → ((k : Class) → In ks k → In (classes_of r) k) → I c → A (map (fact.Carries c) ks)
  carries_within c ks among h = each_map W (fact.Carries c) ks (λ k at. (h, listed k (among k at)))

  -- the classes of splitters of a list
  splits_within : (c : Cell) (ss : List ℕ) → ((s : ℕ) → In ss s → s < r.net.splitters) → I c → A (map (λ s. fact.Carries c (class.Split s)) ss)
  splits_within c ss among h = each_map W (λ s. fact.Carries c (class.Split s)) ss (λ s at. (h, split_listed s (among s at)))

  -- ---- what cells hold

  kinds_within : (c : Cell) → I c → A (map (fact.Kind c) contents)
  kinds_within c h = each_map W (fact.Kind c) contents (λ content at. h)

  half_kinds_within : (c : Cell) → I c → A (half_kinds c)
  half_kinds_within c h = each_flat W (λ half. map (holds c (shape.Half half)) dirs) halves (λ half at. each_map W (holds c (shape.Half half)) dirs (λ d k. h))

  shapes_within : (c : Cell) → I c → R (shape_rules c)
  shapes_within c h = each_both H (equals_one (fact.HalfOn c) (half_kinds c)) (equals_one (fact.BeltOn c) (belt_kinds c))
      (equals_within (fact.HalfOn c) (half_kinds c) h (half_kinds_within c h))
      (equals_within (fact.BeltOn c) (belt_kinds c) h (each_map W (holds c shape.Belt) dirs (λ d k. h)))

  mates_within : (c : Cell) → I c → R (mate_rules r.rect c)
  mates_within c h = each_flat H (λ half. map (mate_rule r.rect c half) dirs) halves
      (λ half at. each_map H (mate_rule r.rect c half) dirs
      (λ d k. record { given = (h, tt); one_of = all_inside r (mate half d c) W (holds (mate half d c) (shape.Half (other_half half)) d ∷ []) (λ here. (here, tt)) }))

  classes_within : (c : Cell) → I c → R (class_rules r c)
  classes_within c h =
      let all = carries_within c (classes_of r) (λ k at. at) h in
      each_three H (some_of (fact.Kind c Empty ∷ map (fact.Carries c) (classes_of r)) ∷ at_most_one (map (fact.Carries c) (classes_of r)))
      (map (λ k. not_all (fact.Kind c Empty ∷ fact.Carries c k ∷ [])) (classes_of r)) (map (λ k. not_all (fact.HalfOn c ∷ fact.Carries c k ∷ [])) (input_classes r))
      (record { given = tt; one_of = (h, all) }, at_most_within (map (fact.Carries c) (classes_of r)) all)
      (each_map H (λ k. not_all (fact.Kind c Empty ∷ fact.Carries c k ∷ [])) (classes_of r) (λ k at. record { given = (h, ((h, listed k at), tt)); one_of = tt }))
      (each_map H (λ k. not_all (fact.HalfOn c ∷ fact.Carries c k ∷ [])) (input_classes r) (λ k at. record { given = (h, ((h, listed k (input_listed k at)), tt)); one_of = tt }))

  -- ---- where splitters stand

  at_within : (c : Cell) (s : ℕ) (d : Dir) → I c → s < r.net.splitters → R (at_rules r.rect s c d)
  at_within c s d h lt = each_within (λ f. rule (fact.At s c d ∷ []) (f ∷ []))
      (holds c (shape.Half Lesser) d ∷ fact.Carries c (class.Split s) ∷ fact.Column s (unsigned_abs c.x) ∷ fact.Row s (unsigned_abs c.y) ∷ fact.Points s d
      ∷ where_inside r.rect (mate Lesser d c) (fact.Carries (mate Lesser d c) (class.Split s) ∷ [])) (
        h,
        (
          (h, split_listed s lt),
          (
            (lt, natural c.x r.rect.width h.0 h.1),
            (
              (lt, natural c.y r.rect.height h.2 h.3),
              (
                lt,
                all_inside r (mate Lesser d c) W (fact.Carries (mate Lesser d c) (class.Split s) ∷ []) (λ here. ((here, split_listed s lt), tt)),
              ),
            ),
          ),
        ),
      )
      (λ g w. record { given = ((lt, h), tt); one_of = (w, tt) })

  standing_within : (c : Cell) → I c → R (standing_rules r c)
  standing_within c h = each_three H (map (owner_rule (splitters_of r) c) dirs) (flat_map (λ s. flat_map (at_rules r.rect s c) dirs) (splitters_of r)) (map (name_rule r.rect c) (splitters_of r))
      (each_map H (owner_rule (splitters_of r) c) dirs
      (λ d k. record { given = (h, tt); one_of = each_map W (λ s. fact.At s c d) (splitters_of r) (λ s at. (below r.net.splitters s at, h)) }))
      (each_flat H (λ s. flat_map (at_rules r.rect s c) dirs) (splitters_of r)
      (λ s at. each_flat H (at_rules r.rect s c) dirs (λ d k. at_within c s d h (below r.net.splitters s at))))
      (each_map H (name_rule r.rect c) (splitters_of r)
      (λ s at. let lt = below r.net.splitters s at in
      record {
        given = (h, ((h, split_listed s lt), tt));
        one_of = each_flat W (stands_on r.rect s c) dirs
            (λ d k. ((lt, h), all_inside r (mate Greater d c) W (fact.At s (mate Greater d c) d ∷ []) (λ here. ((lt, here), tt))));
      }))

  places_within : (s : ℕ) → s < r.net.splitters → R (place_rules r.rect s)
  places_within s lt = (
    record { given = tt; one_of = each_flat W (λ c. map (fact.At s c) dirs) (cells_of r.rect) (λ c at. each_map W (fact.At s c) dirs (λ d k. (lt, from_cells r.rect c at))) },
    each_three H
        (at_most_one (map (fact.Column s) (range_with_len 0 r.rect.width))) (at_most_one (map (fact.Row s) (range_with_len 0 r.rect.height))) (at_most_one (map (fact.Points s) dirs))
        (at_most_within (map (fact.Column s) (range_with_len 0 r.rect.width)) (each_map W (fact.Column s) (range_with_len 0 r.rect.width) (λ x at. (lt, below r.rect.width x at))))
        (at_most_within (map (fact.Row s) (range_with_len 0 r.rect.height)) (each_map W (fact.Row s) (range_with_len 0 r.rect.height) (λ y at. (lt, below r.rect.height y at))))
        (at_most_within (map (fact.Points s) dirs) (each_map W (fact.Points s) dirs (λ d at. lt))),
  )

  -- ---- what is handed on

  inner_within : (c : Cell) (d : Dir) → I c → I (step d c) → R (inner_rules c d)
  inner_within c d h n = (
    record { given = (h, tt); one_of = each_map W (λ of. holds c of d) givers (λ of k. h) },
    (
      record { given = (h, tt); one_of = (n, (n, each_map W (λ half. holds (step d c) (shape.Half half) d) halves (λ half k. n))) },
      (
        record { given = (h, (n, tt)); one_of = tt },
        each_both H (map (λ of. rule (holds c of d ∷ []) (fact.Goes c d ∷ [])) runners) (map (λ half. rule (holds c (shape.Half half) d ∷ []) (fact.Goes c d ∷ fact.Kind (step d c) Empty ∷ [])) halves)
            (each_map H (λ of. rule (holds c of d ∷ []) (fact.Goes c d ∷ [])) runners (λ of k. record { given = (h, tt); one_of = (h, tt) }))
            (each_map H (λ half. rule (holds c (shape.Half half) d ∷ []) (fact.Goes c d ∷ fact.Kind (step d c) Empty ∷ [])) halves (λ half k. record { given = (h, tt); one_of = (h, (n, tt)) })),
      ),
    ),
  )

  going_within : (c : Cell) (d : Dir) → I c → R (going_rules r.rect c d)
  going_within c d h = ⊎_elim
      (λ i. subst (λ b. R (cond b (inner_rules c d) (not_all (fact.Goes c d ∷ []) ∷ []))) (sym i.1) (inner_within c d h i.0))
      (λ o. subst (λ b. R (cond b (inner_rules c d) (not_all (fact.Goes c d ∷ []) ∷ []))) (sym o.1) (record { given = (h, tt); one_of = tt }, tt))
      (inside_cases r.rect (step d c))

  into_within : (c : Cell) (d : Dir) → A (goes_into r.rect c d)
  into_within c d = all_inside r (behind d c) W (fact.Goes (behind d c) d ∷ []) (λ here. (here, tt))

  begun_within : (c : Cell) (d : Dir) → I c → A (begins_there r.rect c d)
  begun_within c d h = all_outside r (behind d c) W (fact.Begins c ∷ []) (h, tt)

  belts_within : (c : Cell) (d : Dir) → I c → H (fed_belt r.rect c d)
  belts_within c d h = record {
    given = (h, tt);
    one_of = each_three W (goes_into r.rect c d) (flat_map (goes_into r.rect c) (sides_of d)) (begins_there r.rect c d) (into_within c d)
        (each_flat W (goes_into r.rect c) (sides_of d) (λ e k. into_within c e)) (begun_within c d h);
  }

  entrances_within : (c : Cell) (d : Dir) → I c → H (fed_entrance r.rect c d)
  entrances_within c d h = record {
    given = (h, tt);
    one_of = each_both W (goes_into r.rect c d) (begins_there r.rect c d) (into_within c d) (begun_within c d h);
  }

  begins_within : (c : Cell) → I c → R (begin_rules r c)
  begins_within c h = (
    record {
      given = (h, tt);
      one_of = each_flat W (λ d. where_outside r.rect (behind d c) (holds c shape.Belt d ∷ holds c shape.Entrance d ∷ [])) dirs
          (λ d k. all_outside r (behind d c) W (holds c shape.Belt d ∷ holds c shape.Entrance d ∷ []) (h, (h, tt)));
    },
    (record { given = (h, tt); one_of = carries_within c (input_classes r) input_listed h }, tt),
  )

  handing_within : (c : Cell) → I c → R (handing_rules r c)
  handing_within c h =
      let going = flat_map (going_rules r.rect c) dirs in
      let all_in = each_flat W (goes_into r.rect c) dirs (λ d k. into_within c d) in
      each_both H (going ++ map (fed_belt r.rect c) dirs ++ map (fed_entrance r.rect c) dirs ++ begin_rules r c) (once_rules r.rect c)
      (each_four H going (map (fed_belt r.rect c) dirs) (map (fed_entrance r.rect c) dirs) (begin_rules r c)
      (each_flat H (going_rules r.rect c) dirs (λ d k. going_within c d h)) (each_map H (fed_belt r.rect c) dirs (λ d k. belts_within c d h))
      (each_map H (fed_entrance r.rect c) dirs (λ d k. entrances_within c d h)) (begins_within c h))
      (each_both H (at_most_one (map (fact.Goes c) dirs)) (at_most_one (fact.Begins c ∷ flat_map (goes_into r.rect c) dirs))
      (at_most_within (map (fact.Goes c) dirs) (each_map W (fact.Goes c) dirs (λ d k. h)))
      (at_most_within (fact.Begins c ∷ flat_map (goes_into r.rect c) dirs) (h, all_in)))

  -- ---- underground pairs

  tunnel_into_within : (c : Cell) (d : Dir) → A (tunnel_into r.rect c d)
  tunnel_into_within c d = all_inside r (behind d c) W (fact.Tunnel (behind d c) d ∷ []) (λ here. (here, tt))

  tunnels_within : (c : Cell) (d : Dir) → I c → R (tunnel_rules r.rect c d)
  tunnels_within c d h =
      let passed = holds (step d c) shape.Entrance d ∷ holds (step d c) shape.Entrance (opposite d) ∷ holds (step d c) shape.Exit (opposite d) ∷ [] in (
        record { given = (h, tt); one_of = (h, tt) },
        (
          record { given = (h, tt); one_of = tunnel_into_within c d },
          (
            record { given = (h, tt); one_of = (h, tunnel_into_within c d) },
            (
              record { given = (h, (h, tt)); one_of = tt },
              each_both H (where_outside r.rect (step d c) (not_all (fact.Tunnel c d ∷ []) ∷ [])) (where_inside r.rect (step d c) (map (λ f. not_all (fact.Tunnel c d ∷ f ∷ [])) passed))
                  (all_outside r (step d c) H (not_all (fact.Tunnel c d ∷ []) ∷ []) (record { given = (h, tt); one_of = tt }, tt))
                  (all_inside r (step d c) H (map (λ f. not_all (fact.Tunnel c d ∷ f ∷ [])) passed)
                  (λ n. each_within (λ f. not_all (fact.Tunnel c d ∷ f ∷ [])) passed (n, (n, (n, tt))) (λ g w. record { given = (h, (w, tt)); one_of = tt }))),
            ),
          ),
        ),
      )

  from_within : (c : Cell) (d : Dir) → I c → A (pairs_from r.rect (most_distance r) c d)
  from_within c d h = each_flat W (λ k. where_inside r.rect (steps k d c) (fact.Pair c d k ∷ [])) (range_with_len 1 (most_distance r))
      (λ k at. all_inside r (steps k d c) W (fact.Pair c d k ∷ []) (λ here. ((h, distance_within k at), tt)))

  back_within : (c : Cell) (d : Dir) → A (pairs_into r.rect (most_distance r) c d)
  back_within c d = each_flat W (λ k. where_inside r.rect (back k d c) (fact.Pair (back k d c) d k ∷ [])) (range_with_len 1 (most_distance r))
      (λ k at. all_inside r (back k d c) W (fact.Pair (back k d c) d k ∷ []) (λ here. ((here, distance_within k at), tt)))

  paired_within : (c : Cell) (d : Dir) → I c → R (paired_rules r.rect (most_distance r) c d)
  paired_within c d h =
      let from = pairs_from r.rect (most_distance r) c d in
      let into = pairs_into r.rect (most_distance r) c d in
      each_both H (rule (holds c shape.Entrance d ∷ []) from ∷ at_most_one from) (rule (holds c shape.Exit d ∷ []) into ∷ at_most_one into)
      (record { given = (h, tt); one_of = from_within c d h }, at_most_within from (from_within c d h))
      (record { given = (h, tt); one_of = back_within c d }, at_most_within into (back_within c d))

  ways_within : (c : Cell) (d : Dir) (k : ℕ) → I c → I (steps k d c) → (1 ≤ k) × (k ≤ most_distance r) → R (way_rules c d k)
  ways_within c d k h n far = each_within (λ f. rule (fact.Pair c d k ∷ []) (f ∷ []))
      (holds c shape.Entrance d ∷ holds (steps k d c) shape.Exit d ∷ map (λ j. fact.Tunnel (steps j d c) d) (range_with_len 1 (k - 1))) (
        h,
        (
          n,
          each_map W (λ j. fact.Tunnel (steps j d c) d) (range_with_len 1 (k - 1))
              (λ j at. let b = from_range 1 (k - 1) j at in let le = b.0 in let lt = b.1 in inside_between r.rect d j k c h n (omega (arith, le, lt))),
        ),
      )
      (λ g w. record { given = ((h, far), tt); one_of = (w, tt) })

  pairs_within : (c : Cell) (d : Dir) (k : ℕ) → I c → (1 ≤ k) × (k ≤ most_distance r) → R (pair_rules r c d k)
  pairs_within c d k h far = all_inside r (steps k d c) H (way_rules c d k ++ flat_map (pair_class_rules c d k) (classes_of r))
      (λ n. each_both H (way_rules c d k) (flat_map (pair_class_rules c d k) (classes_of r)) (ways_within c d k h n far)
      (each_flat H (pair_class_rules c d k) (classes_of r) (λ l at.
      let has = listed l at in (
        record { given = ((h, far), ((h, has), tt)); one_of = ((n, has), tt) },
        (record { given = ((h, far), ((n, has), tt)); one_of = ((h, has), tt) }, tt),
      ))))

  pieces_within : (c : Cell) (d : Dir) → I c → R (piece_rules r c d)
  pieces_within c d h = each_three H (tunnel_rules r.rect c d) (paired_rules r.rect (most_distance r) c d) (flat_map (pair_rules r c d) (range_with_len 1 (most_distance r)))
      (tunnels_within c d h) (paired_within c d h) (each_flat H (pair_rules r c d) (range_with_len 1 (most_distance r)) (λ k at. pairs_within c d k h (distance_within k at)))

  -- ---- classes along the way

  carried_within : (c : Cell) (d : Dir) (k : Class) → I c → I (step d c) → In (classes_of r) k → R (carried_rules r c d k)
  carried_within c d k h n at =
      let has = listed k at in (
        record { given = (h, ((h, has), tt)); one_of = (n, ((n, has), tt)) },
        (
          record { given = (h, ((n, has), tt)); one_of = (n, ((h, has), tt)) },
          (record { given = (h, (n, ((h, has), tt))); one_of = splits_within (step d c) (goals r k) (λ t g. below r.net.splitters t (from_filter (goes_to r k) (splitters_of r) t g).0) n }, tt),
        ),
      )

  taken_within : (c : Cell) (d : Dir) (t : ℕ) → I c → I (step d c) → t < r.net.splitters → H (taken_rule r c d t)
  taken_within c d t h n lt = record {
    given = (h, (n, ((n, split_listed t lt), tt)));
    one_of = carries_within c (sources r t) (λ k g. (from_filter (λ l. goes_to r l t) (classes_of r) k g).0) h;
  }

  onward_within : (c : Cell) (d : Dir) → I c → R (onward_rules r c d)
  onward_within c d h =
      let inner = flat_map (carried_rules r c d) (classes_of r) ++ map (taken_rule r c d) (splitters_of r) in
      let outer = flat_map (kept_in_rules c d) (filter (λ k. not (ends_out r k)) (classes_of r)) in
      ⊎_elim
      (λ i. subst (λ b. R (cond b inner outer)) (sym i.1) (each_both H (flat_map (carried_rules r c d) (classes_of r)) (map (taken_rule r c d) (splitters_of r))
      (each_flat H (carried_rules r c d) (classes_of r) (λ k at. carried_within c d k h i.0 at))
      (each_map H (taken_rule r c d) (splitters_of r) (λ t at. taken_within c d t h i.0 (below r.net.splitters t at)))))
      (λ o. subst (λ b. R (cond b inner outer)) (sym o.1) (each_flat H (kept_in_rules c d) (filter (λ k. not (ends_out r k)) (classes_of r))
      (λ k at. each_map H (λ of. not_all (fact.Carries c k ∷ holds c of d ∷ [])) runners
      (λ of g. record { given = ((h, listed k (from_filter (λ l. not (ends_out r l)) (classes_of r) k at).0), (h, tt)); one_of = tt }))))
      (inside_cases r.rect (step d c))

  -- ---- ports

  into_class_within : (c : Cell) (d : Dir) (k : Class) → Contains (classes_of r) k → A (carries_into r.rect c d k)
  into_class_within c d k has = all_inside r (behind d c) W (fact.Carries (behind d c) k ∷ []) (λ here. ((here, has), tt))

  module _ (s : ℕ) (lt : s < r.net.splitters) (c : Cell) (d : Dir) (h : I c) where
    abbrev at : Fact
    at = fact.At s c d

    half_inside : (half : Half) → I (mate Lesser d c) → I (half_at half d c)
    half_inside Lesser other = h
    half_inside Greater other = other

    two_within : (half : Half) (k l : Class) → Contains (classes_of r) k → Contains (classes_of r) l → R (two_in_rules r.rect s at c d half k l)
    two_within half k l has_k has_l = by (same_class k l)
      where
        by : (b : Bool) → R (cond b (rule (at ∷ []) (carries_into r.rect (half_at half d c) d k) ∷ [])
            (rule_by half (fact.EntersLesser s) (at ∷ []) (carries_into r.rect (half_at half d c) d k) ∷ rule_by half (fact.EntersLesser s) (at ∷ []) (carries_into r.rect (half_at (other_half half) d c) d l) ∷ []))
        by true = (made (at ∷ []) (carries_into r.rect (half_at half d c) d k) ((lt, h), tt) (into_class_within (half_at half d c) d k has_k), tt)
        by false = (
          by_within half (fact.EntersLesser s) (at ∷ []) (carries_into r.rect (half_at half d c) d k) lt ((lt, h), tt) (into_class_within (half_at half d c) d k has_k),
          (by_within half (fact.EntersLesser s) (at ∷ []) (carries_into r.rect (half_at (other_half half) d c) d l) lt ((lt, h), tt) (into_class_within (half_at (other_half half) d c) d l has_l), tt),
        )

    in_within : (ks : List Class) → ((k : Class) → In ks k → Contains (classes_of r) k) → (half : Half) → R (in_rules r.rect s at c d ks half)
    in_within [] has half = each_within (λ going. not_all (at ∷ going ∷ [])) (goes_into r.rect (half_at half d c) d) (into_within (half_at half d c) d)
        (λ g w. made (at ∷ g ∷ []) [] ((lt, h), (w, tt)) tt)
    in_within (k ∷ []) has half = (
      by_within half (fact.EntersLesser s) (at ∷ []) (goes_into r.rect (half_at half d c) d) lt ((lt, h), tt) (into_within (half_at half d c) d),
      (
        by_within half (fact.EntersLesser s) (at ∷ []) (carries_into r.rect (half_at half d c) d k) lt ((lt, h), tt) (into_class_within (half_at half d c) d k (has k (inl refl))),
        each_within (λ going. rule_by half (fact.EntersLesser s) (at ∷ going ∷ []) []) (goes_into r.rect (half_at (other_half half) d c) d) (into_within (half_at (other_half half) d c) d)
            (λ g w. by_within half (fact.EntersLesser s) (at ∷ g ∷ []) [] lt ((lt, h), (w, tt)) tt),
      ),
    )
    in_within (k ∷ l ∷ more) has half = (
      made (at ∷ []) (goes_into r.rect (half_at half d c) d) ((lt, h), tt) (into_within (half_at half d c) d),
      two_within half k l (has k (inl refl)) (has l (inr (inl refl))),
    )

    front_within : (n : Cell) → A (in_front r s n)
    front_within n = all_inside r n W (map (λ t. fact.Carries n (class.Split t)) (onward r s))
        (λ here. splits_within n (onward r s) (λ t g. below r.net.splitters t (from_filter _ (splitters_of r) t g).0) here)

    out_within : (edges : List Edge) → I (mate Lesser d c) → (half : Half) → R (out_rules r s at c d edges half)
    out_within [] m half = (made (at ∷ fact.Goes (half_at half d c) d ∷ []) [] ((lt, h), (half_inside half m, tt)) tt, tt)
    out_within (e ∷ []) m half = (
      by_within half (fact.LeavesLesser s) (at ∷ []) (fact.Goes (half_at half d c) d ∷ []) lt ((lt, h), tt) (half_inside half m, tt),
      (
        by_within half (fact.LeavesLesser s) (at ∷ []) (in_front r s (step d (half_at half d c))) lt ((lt, h), tt) (front_within (step d (half_at half d c))),
        (by_within half (fact.LeavesLesser s) (at ∷ fact.Goes (half_at (other_half half) d c) d ∷ []) [] lt ((lt, h), (half_inside (other_half half) m, tt)) tt, tt),
      ),
    )
    out_within (e ∷ f ∷ more) m half = (
      made (at ∷ []) (fact.Goes (half_at half d c) d ∷ []) ((lt, h), tt) (half_inside half m, tt),
      (made (at ∷ []) (in_front r s (step d (half_at half d c))) ((lt, h), tt) (front_within (step d (half_at half d c))), tt),
    )

    into_listed : (k : Class) → In (classes_into r s) k → Contains (classes_of r) k
    into_listed k g =
        let found = from_map (class_of r.demands) (filter (enters s) r.net.edges) k g in
        listed k (subst (In (classes_of r)) (sym found.2) (edge_class_listed r is found.0 (from_filter (enters s) r.net.edges found.0 found.1).0))

    standing_ports_within : R (standing_port_rules r s c d)
    standing_ports_within = all_inside r (mate Lesser d c) H
        (flat_map (in_rules r.rect s at c d (classes_into r s)) halves ++ flat_map (out_rules r s at c d (filter (leaves s) r.net.edges)) halves)
        (λ m. each_both H (flat_map (in_rules r.rect s at c d (classes_into r s)) halves) (flat_map (out_rules r s at c d (filter (leaves s) r.net.edges)) halves)
        (each_flat H (in_rules r.rect s at c d (classes_into r s)) halves (λ half k. in_within (classes_into r s) into_listed half))
        (each_flat H (out_rules r s at c d (filter (leaves s) r.net.edges)) halves (λ half k. out_within (filter (leaves s) r.net.edges) m half)))

  ports_within : (s : ℕ) → s < r.net.splitters → R (port_rules r s)
  ports_within s lt = each_flat H (λ c. flat_map (standing_port_rules r s c) dirs) (cells_of r.rect)
      (λ c at. each_flat H (standing_port_rules r s c) dirs (λ d k. standing_ports_within s lt c d (from_cells r.rect c at)))

  -- ---- ends

  border_inside : (c : Cell) → In (border_of r.rect) c → I c
  border_inside c h = from_cells r.rect c (from_filter (is_border r.rect) (cells_of r.rect) c h).0

  inputs_within : (i : ℕ) → i < r.net.inputs → R (input_rules r i)
  inputs_within i lt = by (is_through r i) refl
    where
      by : (b : Bool) → is_through r i ≡ b → R (cond b (exactly_one (map (λ c. fact.Starts c i) (border_of r.rect)) ++ flat_map (start_rules i) (border_of r.rect)) [])
      by false t = tt
      by true t =
          let has = listed (class.Input i) (through_listed r is i t) in
          each_both H (exactly_one (map (λ c. fact.Starts c i) (border_of r.rect))) (flat_map (start_rules i) (border_of r.rect))
          (exactly_within (map (λ c. fact.Starts c i) (border_of r.rect)) (each_map W (λ c. fact.Starts c i) (border_of r.rect) (λ c at. (border_inside c at, lt))))
          (each_flat H (start_rules i) (border_of r.rect) (λ c at.
          let h = border_inside c at in (
            record { given = ((h, lt), tt); one_of = (h, tt) },
            (
              record { given = ((h, lt), tt); one_of = ((h, has), tt) },
              (record { given = (h, ((h, has), tt)); one_of = ((h, lt), tt) }, tt),
            ),
          )))

  turned_within : (c : Cell) (end : End) (dir : Option Dir) → I c → R (turned_rules c end dir)
  turned_within c end None h = tt
  turned_within c end (Some dir) h = each_flat H (λ of. map (λ other. not_all (holds c of other ∷ [])) (others_than dir)) (end_shapes end)
      (λ of k. each_map H (λ other. not_all (holds c of other ∷ [])) (others_than dir) (λ other l. record { given = (h, tt); one_of = tt }))

  end_within : (c : Cell) (end : End) → I c → A (end_facts r.rect c end)
  end_within c (Input i) h = (h, tt)
  end_within c (Output o) h = each_flat W (λ d. where_outside r.rect (step d c) (holds c shape.Belt d ∷ holds c shape.Exit d ∷ [])) dirs
      (λ d k. all_outside r (step d c) W (holds c shape.Belt d ∷ holds c shape.Exit d ∷ []) (h, (h, tt)))

  pins_within : (pin : Pin) → I (pinned pin) → R (pin_rules r pin)
  pins_within pin h = each_both H (pin_class_rules r pin) (some_of (end_facts r.rect (pinned pin) pin.end) ∷ turned_rules (pinned pin) pin.end pin.dir)
      (each_map H (λ edge. some_of (fact.Carries (pinned pin) (class_of r.demands edge) ∷ [])) (filter (is_edge_of pin.end) r.net.edges)
      (λ edge g. record { given = tt; one_of = ((h, listed (class_of r.demands edge) (edge_class_listed r is edge (from_filter (is_edge_of pin.end) r.net.edges edge g).0)), tt) }))
      (record { given = tt; one_of = end_within (pinned pin) pin.end h }, turned_within (pinned pin) pin.end pin.dir h)

  clashes_within : (demands : List Demand) → R (clash_rules demands)
  clashes_within [] = tt
  clashes_within (d ∷ demands) = each_both H (map (λ other. some_of []) (filter (clashes d) demands)) (clash_rules demands)
      (each_map H (λ other. some_of []) (filter (clashes d) demands) (λ other g. record { given = tt; one_of = tt })) (clashes_within demands)

  -- the class of an end's edge is one of the classes
  end_listed : (e : End) (k : Class) → In (end_classes r e) k → Contains (classes_of r) k
  end_listed e k there =
      let made = from_map (class_of r.demands) (filter (is_edge_of e) r.net.edges) k there in
      listed k (subst (In (classes_of r)) (sym made.2) (edge_class_listed r is made.0 (from_filter (is_edge_of e) r.net.edges made.0 made.1).0))

  input_side_within : (dir : Dir) (i : ℕ) → R (side_end_rules r dir (Input i))
  input_side_within dir i = each_flat H (begun_rules r.rect dir) (end_classes r (Input i)) (λ k there.
      let has = end_listed (Input i) k there in
      each_flat H (λ c. flat_map (not_begun k c) (others_than (opposite dir))) (border_of r.rect) (λ c at.
      let h = border_inside c at in
      each_flat H (not_begun k c) (others_than (opposite dir)) (λ other l. (
        record { given = (h, ((h, has), (h, tt))); one_of = tt },
        (record { given = (h, ((h, has), (h, tt))); one_of = tt }, tt),
      ))))

  module _ (o : ℕ) (lt : o < stopping r) where
    stops_within : (dir : Dir) (c : Cell) → I c → R (stop_rules r dir o c)
    stops_within dir c h = (
      record { given = ((h, lt), tt); one_of = all_outside r (step dir c) W (holds c shape.Belt dir ∷ holds c shape.Exit dir ∷ []) (h, (h, tt)) },
      each_map H (λ k. rule (Stops c o ∷ []) (fact.Carries c k ∷ [])) (end_classes r (Output o))
          (λ k there. record { given = ((h, lt), tt); one_of = ((h, end_listed (Output o) k there), tt) }),
    )

    apart_within : (other : ℕ) → other < o → R (apart_rules r.rect o other)
    apart_within other below = each_map H (λ c. not_all (Stops c o ∷ Stops c other ∷ [])) (border_of r.rect)
        (λ c at. let h = border_inside c at in record { given = ((h, lt), ((h, omega (arith, lt, below)), tt)); one_of = tt })

    unpinned_within : (d : Demand) → IsPinnedInside r.rect d → R (unpinned_rules o d)
    unpinned_within (demand.Pin pin) h = by (pins_other o pin.end) where
      by : (b : Bool) → R (cond b (not_all (Stops (pinned pin) o ∷ []) ∷ []) [])
      by true = (record { given = ((h, lt), tt); one_of = tt }, tt)
      by false = tt
    unpinned_within (demand.Side side) h = tt
    unpinned_within (demand.Row row) h = tt

    output_side_within : (dir : Dir) → R (side_end_rules r dir (Output o))
    output_side_within dir = (
      record { given = tt; one_of = each_map W (λ c. Stops c o) (border_of r.rect) (λ c at. (border_inside c at, lt)) },
      each_three H (flat_map (stop_rules r dir o) (border_of r.rect)) (flat_map (apart_rules r.rect o) (range_with_len 0 o)) (flat_map (unpinned_rules o) r.demands)
          (each_flat H (stop_rules r dir o) (border_of r.rect) (λ c at. stops_within dir c (border_inside c at)))
          (each_flat H (apart_rules r.rect o) (range_with_len 0 o) (λ other at. apart_within other (below o other at)))
          (each_flat H (unpinned_rules o) r.demands (λ d at. unpinned_within d (all_of (IsPinnedInside r.rect) r.demands d is.pins_inside at))),
    )

  -- outputs of which a side is said are counted
  counted : (side : Side) → In r.demands (demand.Side side) → has_outputs side.ends ≡ true → stopping r ≡ r.net.outputs
  counted side there t = ap (λ b. cond b r.net.outputs 0) (any_in sides_outputs r.demands (demand.Side side) there t)

  side_within : (side : Side) → In r.demands (demand.Side side) → HasEnds r.net side.ends → R (side_rules r side)
  side_within side there has = by side.ends refl has where
    by : (ends : Ends) → side.ends ≡ ends → HasEnds r.net ends → R (flat_map (side_end_rules r side.dir) (ends_named r ends))
    by (One (Input i)) own has = each_both H (side_end_rules r side.dir (Input i)) [] (input_side_within side.dir i) tt
    by (One (Output o)) own has = each_both H (side_end_rules r side.dir (Output o)) []
        (output_side_within o (subst (λ n. o < n) (sym (counted side there (ap has_outputs own))) has) side.dir) tt
    by Inputs own has = each_flat H (side_end_rules r side.dir) (map Input (range_with_len 0 r.net.inputs))
        (λ e at. let found = from_map Input (range_with_len 0 r.net.inputs) e at in subst (λ x. R (side_end_rules r side.dir x)) (sym found.2) (input_side_within side.dir found.0))
    by Outputs own has = each_flat H (side_end_rules r side.dir) (map Output (range_with_len 0 r.net.outputs))
        (λ e at.
        let found = from_map Output (range_with_len 0 r.net.outputs) e at in
        let lt : found.0 < stopping r = subst (λ n. found.0 < n) (sym (counted side there (ap has_outputs own))) (below r.net.outputs found.0 found.1) in
        subst (λ x. R (side_end_rules r side.dir x)) (sym found.2) (output_side_within found.0 lt side.dir))

  -- rows in which ends are to stand are counted
  lined : (row : Row) → In r.demands (demand.Row row) → 0 < lining r
  lined row there = subst (λ b. 0 < cond b 4 0) (sym (any_in is_row r.demands (demand.Row row) there refl)) (omega arith)

  kind_within : (kind : EndKind) (c : Cell) → I c → A (kind_facts r.rect c kind)
  kind_within Inputs c h = (h, tt)
  kind_within Outputs c h = each_flat W (λ dir. where_outside r.rect (step dir c) (holds c shape.Belt dir ∷ holds c shape.Exit dir ∷ [])) dirs
      (λ dir at. all_outside r (step dir c) W (holds c shape.Belt dir ∷ holds c shape.Exit dir ∷ []) (h, (h, tt)))

  row_within : (row : Row) → In r.demands (demand.Row row) → R (row_rules r row)
  row_within row there =
      let count = end_count r.net row.kind in (
        record { given = tt; one_of = each_flat W (place_facts r.rect count) (lines_of row.kind) (λ l at. each_map W (λ c. Lies c l) (row_places r.rect count l) (λ c found. (place_cell l c found, lined row there))) },
        each_flat H (line_rules r.rect row.kind count) (lines_of row.kind) (λ l at.
            each_flat H (placed_rules r.rect row.kind count l) (row_places r.rect count l) (λ c found.
            each_map H (λ k. rule (Lies c l ∷ []) (kind_facts r.rect (steps k (way_of l) c) row.kind)) (range_with_len 0 count) (λ k low. record {
              given = ((place_cell l c found, lined row there), tt);
              one_of = kind_within row.kind (steps k (way_of l) c)
                  (place_inside r.rect count l c (place_cell l c found) (from_filter (has_place r.rect count l) (cells_of r.rect) c found).1 k (below count k low));
            }))),
      )
    where
      place_cell : (l : Line) (c : Cell) → In (row_places r.rect (end_count r.net row.kind) l) c → I c
      place_cell l c found = from_cells r.rect c (from_filter (has_place r.rect (end_count r.net row.kind) l) (cells_of r.rect) c found).0

  demand_within : (d : Demand) → In r.demands d → IsPinnedInside r.rect d → HasEnds r.net (ends_of d) → R (demand_rules r d)
  demand_within (demand.Pin pin) there h has = pins_within pin h
  demand_within (demand.Side side) there h has = side_within side there has
  demand_within (demand.Row row) there h has = row_within row there

  -- ---- counts

  less_within : (spare half : ℕ) → spare + halves_of r ≤ length (cells_of r.rect) → half < halves_of r → A (among_less spare half)
  less_within zero half few lt = tt
  less_within (suc spare) half few lt = ((omega (arith, few), lt), tt)

  fewer_within : (spare half : ℕ) → spare + halves_of r ≤ length (cells_of r.rect) → half < halves_of r → R (one_fewer_rules spare half)
  fewer_within spare zero few lt = tt
  fewer_within spare (suc half) few lt =
      let less : half < halves_of r = omega (arith, lt) in (
        made (fact.Held spare (suc half) ∷ []) (among_less spare (suc half) ++ fact.Held spare half ∷ []) ((few, lt), tt)
            (each_both W (among_less spare (suc half)) (fact.Held spare half ∷ []) (less_within spare (suc half) few lt) ((few, less), tt)),
        tt,
      )

  held_within : (spare half : ℕ) → spare + halves_of r ≤ length (cells_of r.rect) → half < halves_of r → R (held_rules (cells_of r.rect) spare half)
  held_within spare half few lt =
      let last = get_or (cells_of r.rect) (spare + half) (cell_at 0 0) in
      let there : In (cells_of r.rect) last = in_at (cells_of r.rect) (spare + half) (cell_at 0 0) (omega (arith, few, lt)) in (
        made (fact.Held spare half ∷ []) (among_less spare half ++ fact.HalfOn last ∷ []) ((few, lt), tt)
            (each_both W (among_less spare half) (fact.HalfOn last ∷ []) (less_within spare half few lt) (from_cells r.rect last there, tt)),
        fewer_within spare half few lt,
      )

  counter_within : R (counter_rules (cells_of r.rect) (halves_of r))
  counter_within = each_flat H (λ spare. flat_map (held_rules (cells_of r.rect) spare) (range_with_len 0 (halves_of r))) (range_with_len 0 (length (cells_of r.rect) + 1 - halves_of r))
      (λ spare at. each_flat H (held_rules (cells_of r.rect) spare) (range_with_len 0 (halves_of r))
      (λ half there. let some = below (length (cells_of r.rect) + 1 - halves_of r) spare at in held_within spare half (omega (arith, some)) (below (halves_of r) half there)))

  all_held_within : (m : ℕ) → m ≡ halves_of r → m ≤ length (cells_of r.rect) → R (all_held_rules (length (cells_of r.rect)) m)
  all_held_within zero same few = tt
  all_held_within (suc half) same few =
      (record { given = tt; one_of = ((omega (arith, same, few), (omega (arith, same))), tt) }, tt)

  pub counts_within : has_room r ≡ true → R (count_rules r)
  counts_within t =
      let enough = from_enough (length (cells_of r.rect)) (length (border_of r.rect)) (halves_of r) (ends_apart r) t in
      let few = enough.1 in
      each_both H (counter_rules (cells_of r.rect) (halves_of r)) (all_held_rules (length (cells_of r.rect)) (halves_of r))
      counter_within (all_held_within (halves_of r) refl (omega (arith, few)))

  -- ---- all rules

  pub cell_within : (c : Cell) → I c → R (cell_rules r c)
  cell_within c h =
      let a = content_rules c in let b = shape_rules c in let m = mate_rules r.rect c in let k = class_rules r c in
      let s = standing_rules r c in let g = handing_rules r c in let u = underground_rules r c in let l = carrying_rules r c in
      each_both H (a ++ b ++ m ++ k ++ s ++ g ++ u) l
      (each_four H (a ++ b ++ m ++ k) s g u
      (each_four H a b m k (exactly_within (map (fact.Kind c) contents) (kinds_within c h)) (shapes_within c h) (mates_within c h) (classes_within c h))
      (standing_within c h) (handing_within c h) (each_flat H (piece_rules r c) dirs (λ d k. pieces_within c d h)))
      (each_flat H (onward_rules r c) dirs (λ d k. onward_within c d h))

  pub splitter_within : (s : ℕ) → s < r.net.splitters → R (splitter_rules r s)
  splitter_within s lt = each_both H (place_rules r.rect s) (port_rules r s) (places_within s lt) (ports_within s lt)

  pub ends_within : R (end_rules r)
  ends_within = each_four H (flat_map (input_rules r) (range_with_len 0 r.net.inputs)) (flat_map (demand_rules r) r.demands) (clash_rules r.demands) (map block_rule r.blocks)
      (each_flat H (input_rules r) (range_with_len 0 r.net.inputs) (λ i at. inputs_within i (below r.net.inputs i at)))
      (each_flat H (demand_rules r) r.demands (λ d at. demand_within d at (all_of (IsPinnedInside r.rect) r.demands d is.pins_inside at) (all_of (λ x. HasEnds r.net (ends_of x)) r.demands d is.ends at)))
      (clashes_within r.demands)
      (each_map H block_rule r.blocks (λ block at. record { given = tt; one_of = (all_of (λ b. I (blocked b)) r.blocks block is.blocks_inside at, tt) }))

  all_within : R (rules_of r)
  all_within = by (has_room r) refl
    where
      by : (b : Bool) → has_room r ≡ b → R (cond b (room_rules r) (some_of [] ∷ []))
      by true t = each_four H (flat_map (cell_rules r) (cells_of r.rect)) (flat_map (splitter_rules r) (splitters_of r)) (end_rules r) (count_rules r)
          (each_flat H (cell_rules r) (cells_of r.rect) (λ c at. cell_within c (from_cells r.rect c at)))
          (each_flat H (splitter_rules r) (splitters_of r) (λ s at. splitter_within s (below r.net.splitters s at)))
          ends_within (counts_within t)
      by false t = (record { given = tt; one_of = tt }, tt)

pub rules_within : RulesAreWithin
rules_within r is = all_within r is
