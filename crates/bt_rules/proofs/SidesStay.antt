-- Layouts keep the rules of sides, and of all lines that say where ends stand.
use Rattle.std.proofs.Common.{◌≡◌, inl, inr, ℕ, ◌<◌, Bool, true, false, not, cond, List, [], ◌∷◌, length, Some, refl, sym, ◌∙◌, ap, subst, ⊎_elim, arith, ◌==◌, eq-eqb, suc}
use Rattle.std.specs.List.{All, AllByRecursion, flat_map, filter, range_with_len}
use Rattle.std.proofs.lemmas.Bool.{false≢true}
use Rattle.bt_parts.specs.declared.part.Cell.{Cell}
use Rattle.bt_parts.specs.declared.part.Dir.{Dir}
use Rattle.bt_parts.specs.declared.part.Part.{Part}
use Rattle.bt_parts.specs.Cells.{step, opposite, IsInside}
use Rattle.bt_parts.specs.Layouts.{HasPart}
use Rattle.bt_parts.proofs.Places.{one_there, same_part}
use Rattle.bt_net.specs.declared.network.Demand.{Demand}
use Rattle.bt_net.specs.declared.network.Demand.TheVariants as demand
use Rattle.bt_net.specs.declared.network.End.{End}
use Rattle.bt_net.specs.declared.network.End.TheVariants.{Input, Output}
use Rattle.bt_net.specs.declared.network.Ends.{Ends}
use Rattle.bt_net.specs.declared.network.Ends.TheVariants.{One, Inputs, Outputs}
use Rattle.bt_net.specs.declared.network.Pin.{Pin}
use Rattle.bt_net.specs.declared.network.Start.TheVariants as from
use Rattle.bt_net.specs.Network.{HasEnd, StartsIn}
use Rattle.bt_net.specs.PinText.{HasEnds}
use Rattle.bt_model.specs.Chains.{IsOutput}
use Rattle.bt_model.specs.Laying.{Lays, IsNamed, KeepsPin, StandsAtSide, KeepsDemand}
use Rattle.bt_model.specs.Requests.{LayoutRequest, IsRequest, Names, ends_of, pinned}
use Rattle.bt_model.proofs.Sorted.{one_place}
use Rattle.bt_facts.specs.declared.fact.Class.{Class}
use Rattle.bt_facts.specs.declared.fact.Fact.{Fact}
use Rattle.bt_facts.specs.declared.fact.Fact.TheVariants.{Carries, Begins, Stops}
use Rattle.bt_facts.specs.declared.fact.Shape.{Shape}
use Rattle.bt_facts.specs.declared.fact.Shape.TheVariants as shape
use Rattle.bt_demands.specs.Classes.{side_of, class_between, class_of}
use Rattle.bt_facts.specs.Facts.{holds}
use Rattle.bt_demands.specs.Pinning.{is_edge_of, end_classes, not_begun, begun_rules, stop_rules, apart_rules, pins_other, unpinned_rules, side_end_rules, ends_named, demand_rules}
use Rattle.bt_facts.specs.Rules.{rule, not_all}
use Rattle.bt_facts.specs.Spots.{others_than, border_of, where_outside}
use Rattle.bt_rules.proofs.CarryingStay.{there_has}
use Rattle.bt_rules.proofs.Classed.{the_edge, class_at, one_class, lies_class, input_lies, from_target, input_start, output_target}
use Rattle.bt_facts.proofs.Decided.{contains_at}
use Rattle.bt_facts.proofs.Geometry.{in_border, others_apart}
use Rattle.bt_facts.proofs.Keeping.{In, place_of, from_map, from_filter, from_range, all_there, each_three, each_flat, each_map, one_of_map, OneSaid, AllStay, Stays}
use Rattle.bt_rules.proofs.Laid.{Said, placed_of, stands_as, one_outside}
use Rattle.bt_rules.proofs.PinningStay.{pin_stays, output_cell}
use Rattle.bt_rules.proofs.Reading.{Bears, no_edge}
use Rattle.bt_rules.proofs.RowsStay.{row_stays}
use Rattle.bt_demands.proofs.Sharing.{class_side, side_from, side_is}

-- what holds of each item, by its place
pub each_of : {X : Type 0} (P : X → Type 0) (xs : List X) → All P xs → AllByRecursion P xs
each_of P [] h = tt
each_of P (x ∷ xs) h = (h 0 x (omega arith), each_of P xs (λ k d lt. h (suc k) d (omega arith)))

module _ (r : LayoutRequest) (is : IsRequest r) (parts : List Part) (lays : Lays parts r) where
  has_ends : (d : Demand) → In r.demands d → HasEnds r.net (ends_of d)
  has_ends d there = let place = place_of r.demands d there in subst (λ x. HasEnds r.net (ends_of x)) (place.2 d) (is.ends place.0 d place.1)

  starts_in : (n : ℕ) → n < length r.net.edges → StartsIn r.net (the_edge r parts lays n).start
  starts_in n lt = is.net.wired.starts n no_edge lt

  abbrev S : Fact → Type 0
  S = Said r parts lays

  -- the class of an end's edge is that of an edge with a number
  end_class : (e : End) (k : Class) → In (end_classes r e) k
      → (n : ℕ) × (n < length r.net.edges) × (is_edge_of e (the_edge r parts lays n) ≡ true) × (k ≡ class_at r parts lays n)
  end_class e k there =
      let made = from_map (class_of r.demands) (filter (is_edge_of e) r.net.edges) k there in
      let found = from_filter (is_edge_of e) r.net.edges made.0 made.1 in
      let place = place_of r.net.edges made.0 found.0 in
      let same = place.2 no_edge in
      (place.0, place.1, ap (is_edge_of e) same ∙ found.1, made.2 ∙ ap (class_of r.demands) (sym same))

  -- an end bears one part
  one_named : (e : End) (i j : ℕ) → IsNamed lays.naming e i → IsNamed lays.naming e j → i ≡ j
  one_named (Input k) i j p q = let same : Some i ≡ Some j = sym p ∙ q in cc
  one_named (Output o) i j p q = let same : Some i ≡ Some j = sym p ∙ q in cc

  -- ---- inputs

  module _ (k : ℕ) (dir : Dir) (sided : side_of r.demands (Input k) ≡ Some dir) (stands : StandsAtSide parts r.rect lays.naming dir (Input k)) where
    -- an input of the same class stands at the same side
    same_side : (j n : ℕ) → n < length r.net.edges → (the_edge r parts lays n).start ≡ from.Input j → (m : ℕ) → (the_edge r parts lays m).start ≡ from.Input k
        → class_at r parts lays m ≡ class_at r parts lays n → StandsAtSide parts r.rect lays.naming dir (Input j)
    same_side j n lt start m own same =
        let classes : class_between r.demands (from.Input k) (the_edge r parts lays m).target ≡ class_between r.demands (from.Input j) (the_edge r parts lays n).target =
        sym (ap (λ x. class_between r.demands x (the_edge r parts lays m).target) own) ∙ same ∙ ap (λ x. class_between r.demands x (the_edge r parts lays n).target) start in
        ⊎_elim
        (λ e. subst (λ x. StandsAtSide parts r.rect lays.naming dir (Input x)) e stands)
        (λ h.
        let found = side_from r.demands (Input j) dir h in
        let kept = all_there (KeepsDemand parts r lays.naming) r.demands (demand.Side found.0) (each_of (KeepsDemand parts r lays.naming) r.demands lays.demands) found.1 in
        subst (λ d. StandsAtSide parts r.rect lays.naming d (Input j)) found.3 (kept (Input j) has found.2))
        (class_side r.demands k j (the_edge r parts lays m).target (the_edge r parts lays n).target dir classes sided)
      where
        has : j < r.net.inputs
        has = subst (StartsIn r.net) start (starts_in n lt)

    begun_stays : (kind : Class) → In (end_classes r (Input k)) kind → (c : Cell) (other : Dir) → In (others_than (opposite dir)) other → AllStay S (not_begun kind c other)
    begun_stays kind there c other h = (
      λ given. absurd (never shape.Belt given.0 given.1.0 given.1.1.0),
      ((λ given. absurd (never shape.Entrance given.0 given.1.0 given.1.1.0)), tt),
    )
      where
        never : (of : Shape) → S (Begins c) → S (Carries c kind) → S (holds c of other) → ⊥
        never of begins carries turned =
            let own = end_class (Input k) kind there in
            let lies = input_lies r parts lays begins.0 begins.1 in
            let same : class_at r parts lays lies.0 ≡ kind = one_class r parts lays begins.0 (class_at r parts lays lies.0) kind
            (lies_class r parts lays begins.0 lies.0 lies.1) (there_has r parts lays c begins.0 kind begins.2 carries) in
            let at = same_side lies.2.0 lies.0 lies.1.0 lies.2.1 own.0 (input_start k (the_edge r parts lays own.0) own.2) (sym own.3 ∙ sym same) in
            let index : at.index ≡ begins.0 = one_named (Input lies.2.0) at.index begins.0 at.named lies.2.2 in
            let one = stands_as r parts lays c of other turned begins.0 begins.2 in
            let part : at.part ≡ begins.2.part = same_part parts begins.0 at.part begins.2.part (subst (λ x. HasPart parts x at.part) index at.is_part) begins.2.is_i in
            others_apart (opposite dir) other h (sym turned.turned ∙ ap (λ p. p.dir) (one.1 ∙ sym part) ∙ at.points)

    input_side_stays : AllStay S (side_end_rules r dir (Input k))
    input_side_stays = each_flat (Stays S) (begun_rules r.rect dir) (end_classes r (Input k))
        (λ kind there. each_flat (Stays S) (λ c. flat_map (not_begun kind c) (others_than (opposite dir))) (border_of r.rect)
        (λ c at. each_flat (Stays S) (not_begun kind c) (others_than (opposite dir)) (λ other h. begun_stays kind there c other h)))

  -- ---- outputs

  named_output : (o i : ℕ) → Bears lays.naming.outputs o i → IsOutput parts i
  named_output o i named = lays.shows.names.outputs.only i (contains_at lays.naming.outputs o i named)

  -- two outputs don't stop on one cell
  one_stop : (o u : ℕ) (c : Cell) → S (Stops c o) → S (Stops c u) → o ≡ u
  one_stop o u c p q =
      let index : p.index ≡ q.index = one_there parts (placed_of r parts lays) p.index q.index c p.at q.at in
      one_place lays.naming.outputs lays.shows.names.outputs.once o u q.index (subst (Bears lays.naming.outputs o) index p.named) q.named

  module _ (o : ℕ) (dir : Dir) (stands : StandsAtSide parts r.rect lays.naming dir (Output o)) where
    stops_there : (c : Cell) → S (Stops c o) → OneSaid S (where_outside r.rect (step dir c) (holds c shape.Belt dir ∷ holds c shape.Exit dir ∷ []))
    stops_there c stops =
        let i = stops.index in
        let output = named_output o i stops.named in
        let index : stands.index ≡ i = one_named (Output o) stands.index i stands.named stops.named in
        let part : stands.part ≡ output.part = same_part parts i stands.part output.part (subst (λ x. HasPart parts x stands.part) index stands.is_part) output.is_i in
        let turned : output.part.dir ≡ dir = sym (ap (λ p. p.dir) part) ∙ stands.points in
        let cell : c ≡ output.part.cell = output_cell r parts lays i c output stops.at in
        let out : IsInside r.rect (step dir c) → ⊥ = subst (λ x. IsInside r.rect (step dir x) → ⊥) (ap (λ p. p.cell) part ∙ sym cell) stands.stands.1 in
        one_outside S r.rect (step dir c) (holds c shape.Belt dir ∷ holds c shape.Exit dir ∷ []) out
        (⊎_elim
        (λ k. inl (record { index = i; part = output.part; is_part = output.is_i; kind = k; turned = turned; cell = cell }))
        (λ k. inr (inl (record { index = i; part = output.part; is_part = output.is_i; kind = k; turned = turned; cell = cell })))
        output.kind)

    stop_stays : (c : Cell) → AllStay S (stop_rules r dir o c)
    stop_stays c = (
      λ given. stops_there c given.0,
      each_map (Stays S) (λ k. rule (Stops c o ∷ []) (Carries c k ∷ [])) (end_classes r (Output o))
          (λ k there given.
          let stops = given.0 in
          let own = end_class (Output o) k there in
          let lies = from_target r parts lays own.0 o stops.index own.1 (output_target o (the_edge r parts lays own.0) own.2) stops.named in
          inl (stops.index, stops.at, inr (own.0, lies, own.3))),
    )

    apart_stays : (other : ℕ) → other < o → AllStay S (apart_rules r.rect o other)
    apart_stays other lt = each_map (Stays S) (λ c. not_all (Stops c o ∷ Stops c other ∷ [])) (border_of r.rect)
        (λ c at given. let same = one_stop o other c given.0 given.1.0 in absurd (omega (arith, same, lt)))

    other_stays : (pin : Pin) → KeepsPin parts lays.naming pin → (e : End) → pin.end ≡ e → AllStay S (cond (pins_other o e) (not_all (Stops (pinned pin) o ∷ []) ∷ []) [])
    other_stays pin kept (Input i) own = tt
    other_stays pin kept (Output u) own = by (u == o) refl where
      by : (b : Bool) → (u == o) ≡ b → AllStay S (cond (not b) (not_all (Stops (pinned pin) o ∷ []) ∷ []) [])
      by true e = tt
      by false e = (
        (λ given.
            let there : S (Stops (pinned pin) u) = record {
              index = kept.index;
              named = subst (λ x. IsNamed lays.naming x kept.index) own kept.named;
              at = record { part = kept.part; is_i = kept.is_part; covers = inl (sym kept.stands) };
            } in
            let same : u ≡ o = one_stop u o (pinned pin) there given.0 in
            absurd (false≢true (sym e ∙ eq-eqb u o same))),
        tt,
      )

    unpinned_stays : (d : Demand) → KeepsDemand parts r lays.naming d → AllStay S (unpinned_rules o d)
    unpinned_stays (demand.Pin pin) kept = other_stays pin kept pin.end refl
    unpinned_stays (demand.Side side) kept = tt
    unpinned_stays (demand.Row row) kept = tt

    output_side_stays : AllStay S (side_end_rules r dir (Output o))
    output_side_stays = (
      λ given. one_of_map S (λ c. Stops c o) (border_of r.rect) stands.part.cell
          (in_border r.rect dir stands.part.cell stands.stands.0 stands.stands.1)
          (record { index = stands.index; named = stands.named; at = record { part = stands.part; is_i = stands.is_part; covers = inl refl } }),
      each_three (Stays S) (flat_map (stop_rules r dir o) (border_of r.rect)) (flat_map (apart_rules r.rect o) (range_with_len 0 o)) (flat_map (unpinned_rules o) r.demands)
          (each_flat (Stays S) (stop_rules r dir o) (border_of r.rect) (λ c at. stop_stays c))
          (each_flat (Stays S) (apart_rules r.rect o) (range_with_len 0 o) (λ other at. let below = from_range 0 o other at in let lt = below.1 in apart_stays other (omega (arith, lt))))
          (each_flat (Stays S) (unpinned_rules o) r.demands (λ d at. unpinned_stays d (all_there (KeepsDemand parts r lays.naming) r.demands d (each_of (KeepsDemand parts r lays.naming) r.demands lays.demands) at))),
    )

  -- ---- lines

  side_end_stays : (e : End) (dir : Dir) → side_of r.demands e ≡ Some dir → StandsAtSide parts r.rect lays.naming dir e → AllStay S (side_end_rules r dir e)
  side_end_stays (Input k) dir sided stands = input_side_stays k dir sided stands
  side_end_stays (Output o) dir sided stands = output_side_stays o dir stands

  -- the ends that are named are ends of the network
  named_has : (ends : Ends) → HasEnds r.net ends → (e : End) → In (ends_named r ends) e → HasEnd r.net e × Names ends e
  named_has (One one) has e (inl same) = (subst (HasEnd r.net) (sym same) has, same)
  named_has (One one) has e (inr none) = absurd none
  named_has Inputs has e there =
      let at = from_map Input (range_with_len 0 r.net.inputs) e there in
      let below = from_range 0 r.net.inputs at.0 at.1 in
      let lt : HasEnd r.net (Input at.0) = let b = below.1 in omega (arith, b) in
      (subst (HasEnd r.net) (sym at.2) lt, subst (Names Inputs) (sym at.2) tt)
  named_has Outputs has e there =
      let at = from_map Output (range_with_len 0 r.net.outputs) e there in
      let below = from_range 0 r.net.outputs at.0 at.1 in
      let lt : HasEnd r.net (Output at.0) = let b = below.1 in omega (arith, b) in
      (subst (HasEnd r.net) (sym at.2) lt, subst (Names Outputs) (sym at.2) tt)

  pub demand_stays : (d : Demand) → In r.demands d → KeepsDemand parts r lays.naming d → AllStay S (demand_rules r d)
  demand_stays (demand.Pin pin) there kept = pin_stays r parts lays pin kept
  demand_stays (demand.Row row) there kept = row_stays r is parts lays row kept
  demand_stays (demand.Side side) there kept = each_flat (Stays S) (side_end_rules r side.dir) (ends_named r side.ends)
      (λ e at.
      let named = named_has side.ends (has_ends (demand.Side side) there) e at in
      side_end_stays e side.dir (side_is r.demands is.demands_apart side e there named.1) (kept e named.0 named.1))
