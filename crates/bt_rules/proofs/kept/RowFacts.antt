-- Rows: on each cell of the place that is chosen stands an end.
use Rattle.std.proofs.Common.{◌≡◌, ◌⊎◌, true, List, [], ◌∷◌, refl, subst, inl, inr, ⊎_elim, arith}
use Rattle.std.specs.List.{flat_map, range_with_len}
use Rattle.bt_parts.specs.declared.part.Cell.{Cell}
use Rattle.bt_parts.specs.declared.part.Dir.TheVariants.{East, South}
use Rattle.bt_parts.specs.declared.part.Part.{Part}
use Rattle.bt_parts.specs.Cells.{step, steps, IsInside}
use Rattle.bt_net.specs.declared.network.Demand.TheVariants as demand
use Rattle.bt_net.specs.declared.network.EndKind.{EndKind}
use Rattle.bt_net.specs.declared.network.EndKind.TheVariants.{Inputs, Outputs}
use Rattle.bt_net.specs.declared.network.Row.{Row}
use Rattle.bt_model.specs.Laying.{HasEndPart, StandInRow, end_count}
use Rattle.bt_model.specs.Shown.{ListsEach}
use Rattle.bt_facts.specs.declared.fact.Fact.TheVariants.{Lies}
use Rattle.bt_facts.specs.declared.fact.Line.{Line}
use Rattle.bt_facts.specs.declared.fact.Line.TheVariants as line
use Rattle.bt_facts.specs.declared.fact.Shape.TheVariants as shape
use Rattle.bt_facts.specs.Facts.{holds}
use Rattle.bt_facts.specs.Rules.{rule, OneHolds, Keeps}
use Rattle.bt_facts.specs.Spots.{dirs, cells_of, where_outside}
use Rattle.bt_demands.specs.Enders.{enders}
use Rattle.bt_demands.specs.Rows.{lines_of, way_of, kind_facts, has_place, row_places, place_facts, placed_rules, line_rules, row_rules}
use Rattle.bt_demands.proofs.RowCells.{place_inside}
use Rattle.bt_rules.specs.Kept.{IsKeptPart}
use Rattle.bt_facts.proofs.Geometry.{from_cells}
use Rattle.bt_facts.proofs.Keeping.{In, from_flat, from_map, from_filter, in_range}
use Rattle.bt_rules.proofs.kept.Readings.{all_mapped, all_flat, one_in, one_from}
use Rattle.bt_rules.proofs.kept.Solved.{Solved, Says, Kept, one_outside, demand_kept}
use Rattle.bt_rules.proofs.kept.ThroughFacts.{begun_input}
use Rattle.bt_rules.proofs.kept.WishFacts.{ender_output}

along_way : (l : Line) → (way_of l ≡ East) ⊎ (way_of l ≡ South)
along_way line.InputsEast = inl refl
along_way line.InputsSouth = inr refl
along_way line.OutputsEast = inl refl
along_way line.OutputsSouth = inr refl

module _ (w : Solved) (parts : List Part) (lists : ListsEach (IsKeptPart w.r w.reading) parts) where
  -- where it is said that an end of the kind stands on a cell, one does
  end_stands : (kind : EndKind) (c : Cell) → IsInside w.r.rect c → OneHolds w.reading (kind_facts w.r.rect c kind) → HasEndPart parts kind c
  end_stands Inputs c h (inl says) = begun_input w parts lists c h says
  end_stands Inputs c h (inr none) = absurd none
  end_stands Outputs c h one =
      let found = one_in w.reading (enders w.r.rect c) one in
      let dir = from_flat (λ d. where_outside w.r.rect (step d c) (holds c shape.Belt d ∷ holds c shape.Exit d ∷ [])) dirs found.0 found.1 in
      let got = one_outside w (step dir.0 c) (holds c shape.Belt dir.0 ∷ holds c shape.Exit dir.0 ∷ []) (one_from w.reading found.0 _ dir.2 found.2) in
      ⊎_elim (λ e. ender_output w parts lists c h dir.0 shape.Belt (inl refl) got.0 e)
      (λ more. ⊎_elim (λ e. ender_output w parts lists c h dir.0 shape.Exit (inr (inl refl)) got.0 e) (λ none. absurd none) more) got.1

  pub keeps_row : (row : Row) → In w.r.demands (demand.Row row) → StandInRow parts row.kind (end_count w.r.net row.kind)
  keeps_row row there =
      let count = end_count w.r.net row.kind in
      let kept : Kept w (row_rules w.r row) = demand_kept w (demand.Row row) there in
      let one = one_in w.reading (flat_map (place_facts w.r.rect count) (lines_of row.kind)) (kept.0 tt) in
      let found = from_flat (place_facts w.r.rect count) (lines_of row.kind) one.0 one.1 in
      let l = found.0 in
      let place = from_map (λ c. Lies c l) (row_places w.r.rect count l) one.0 found.2 in
      let c = place.0 in
      let fits = from_filter (has_place w.r.rect count l) (cells_of w.r.rect) c place.1 in
      let here = from_cells w.r.rect c fits.0 in
      let lies : Says w (Lies c l) = subst (λ f. w.reading f ≡ true) place.2 one.2 in
      let rules : Kept w (placed_rules w.r.rect row.kind count l c) =
      all_flat (Keeps w.reading) (placed_rules w.r.rect row.kind count l) c (row_places w.r.rect count l)
      (all_flat (Keeps w.reading) (line_rules w.r.rect row.kind count) l (lines_of row.kind) kept.1 found.1) place.1 in
      record {
        first = c;
        along = way_of l;
        is_along = along_way l;
        each = λ k lt. end_stands row.kind (steps k (way_of l) c) (place_inside w.r.rect count l c here fits.1 k lt)
            (all_mapped (Keeps w.reading) (λ j. rule (Lies c l ∷ []) (kind_facts w.r.rect (steps j (way_of l) c) row.kind)) k (range_with_len 0 count) rules
            (in_range 0 count k (omega arith) (omega (arith, lt))) (lies, tt));
      }
