-- Layouts keep the rules of rows.
use Rattle.std.proofs.Common.{◌≡◌, ◌⊎◌, inl, inr, ℕ, ◌<◌, ◌-◌, true, List, [], ◌∷◌, refl, sym, ap, subst, ⊎_elim, arith}
use Rattle.std.specs.List.{flat_map, range_with_len}
use Rattle.bt_parts.specs.declared.part.Cell.{Cell}
use Rattle.bt_parts.specs.declared.part.Dir.{Dir}
use Rattle.bt_parts.specs.declared.part.Dir.TheVariants.{East, South}
use Rattle.bt_parts.specs.declared.part.Part.{Part}
use Rattle.bt_parts.specs.declared.part.Rect.{Rect}
use Rattle.bt_parts.specs.Cells.{steps, IsInside}
use Rattle.bt_parts.proofs.Steps.{steps_none}
use Rattle.bt_net.specs.declared.network.EndKind.{EndKind}
use Rattle.bt_net.specs.declared.network.EndKind.TheVariants.{Inputs, Outputs}
use Rattle.bt_net.specs.declared.network.Row.{Row}
use Rattle.bt_model.specs.Laying.{Lays, HasEndPart, StandInRow, end_count}
use Rattle.bt_model.specs.Requests.{LayoutRequest, IsRequest}
use Rattle.bt_facts.specs.declared.fact.Fact.{Fact}
use Rattle.bt_facts.specs.declared.fact.Fact.TheVariants.{Lies}
use Rattle.bt_facts.specs.declared.fact.Line.{Line}
use Rattle.bt_facts.specs.declared.fact.Line.TheVariants as line
use Rattle.bt_facts.specs.Rules.{rule}
use Rattle.bt_facts.specs.Spots.{is_inside, cells_of}
use Rattle.bt_demands.specs.Rows.{lines_of, way_of, kind_facts, has_place, row_places, place_facts, placed_rules, line_rules, row_rules}
use Rattle.bt_facts.proofs.Geometry.{inside_cases, in_cells}
use Rattle.bt_facts.proofs.Keeping.{In, in_filter, from_range, each_flat, each_map, one_of_map, said_flat, OneSaid, AllStay, Stays}
use Rattle.bt_rules.proofs.Laid.{Said}
use Rattle.bt_rules.proofs.PinningStay.{ends_said}
use Rattle.bt_rules.proofs.Reading.{line_kind, named_count}

-- the row of a kind that runs this way
line_for : (kind : EndKind) (dir : Dir) → (dir ≡ East) ⊎ (dir ≡ South) → (l : Line) × In (lines_of kind) l × (way_of l ≡ dir)
line_for Inputs dir (inl e) = (line.InputsEast, inl refl, sym e)
line_for Inputs dir (inr e) = (line.InputsSouth, inr (inl refl), sym e)
line_for Outputs dir (inl e) = (line.OutputsEast, inl refl, sym e)
line_for Outputs dir (inr e) = (line.OutputsSouth, inr (inl refl), sym e)

-- the rows of a kind are of its ends
kind_of_line : (kind : EndKind) (l : Line) → In (lines_of kind) l → line_kind l ≡ kind
kind_of_line Inputs l (inl e) = ap line_kind e
kind_of_line Inputs l (inr (inl e)) = ap line_kind e
kind_of_line Inputs l (inr (inr none)) = absurd none
kind_of_line Outputs l (inl e) = ap line_kind e
kind_of_line Outputs l (inr (inl e)) = ap line_kind e
kind_of_line Outputs l (inr (inr none)) = absurd none

inside_true : (rect : Rect) (c : Cell) → IsInside rect c → is_inside rect c ≡ true
inside_true rect c h = ⊎_elim (λ i. i.1) (λ o. absurd (o.0 h)) (inside_cases rect c)

module _ (r : LayoutRequest) (is : IsRequest r) (parts : List Part) (lays : Lays parts r) where
  abbrev S : Fact → Type 0
  S = Said r parts lays

  -- as many ends bear names as there are
  count_is : (kind : EndKind) → end_count r.net kind ≡ named_count lays.naming kind
  count_is Inputs = lays.shows.names.input_count
  count_is Outputs = lays.shows.names.output_count

  some_end : (kind : EndKind) → 0 < end_count r.net kind
  some_end Inputs = omega (arith, is.net.some_input)
  some_end Outputs = omega (arith, is.net.some_output)

  end_inside : (kind : EndKind) (c : Cell) → HasEndPart parts kind c → IsInside r.rect c
  end_inside kind c h = lays.fits.inside h.0 c h.2

  -- an end of the kind stands on the cell
  kind_said : (kind : EndKind) (c : Cell) → HasEndPart parts kind c → OneSaid S (kind_facts r.rect c kind)
  kind_said Inputs c h = inl h
  kind_said Outputs c h = ends_said r parts lays h.0 c h.1 h.2

  module _ (row : Row) (kept : StandInRow parts row.kind (end_count r.net row.kind)) where
    abbrev count : ℕ
    count = end_count r.net row.kind

    -- the row that runs the way of the ends
    abbrev chosen : (l : Line) × In (lines_of row.kind) l × (way_of l ≡ kept.along)
    chosen = line_for row.kind kept.along kept.is_along

    here : (k : ℕ) → k < end_count r.net row.kind → HasEndPart parts row.kind (steps k (way_of chosen.0) kept.first)
    here k lt = subst (λ d. HasEndPart parts row.kind (steps k d kept.first)) (sym chosen.2) (kept.each k lt)

    first_inside : IsInside r.rect kept.first
    first_inside = subst (IsInside r.rect) (steps_none kept.along kept.first) (end_inside row.kind (steps 0 kept.along kept.first) (kept.each 0 (some_end row.kind)))

    last_inside : IsInside r.rect (steps (end_count r.net row.kind - 1) (way_of chosen.0) kept.first)
    last_inside = end_inside row.kind (steps (count - 1) (way_of chosen.0) kept.first) (here (count - 1) (let some = some_end row.kind in omega (arith, some)))

    lies_there : S (Lies kept.first chosen.0)
    lies_there k lt =
        let same = kind_of_line row.kind chosen.0 chosen.1 in
        let less : k < count = subst (λ n. k < n) (sym (count_is row.kind)) (subst (λ kind. k < named_count lays.naming kind) same lt) in
        subst (λ kind. HasEndPart parts kind (steps k (way_of chosen.0) kept.first)) (sym same) (here k less)

    some_place : OneSaid S (flat_map (place_facts r.rect count) (lines_of row.kind))
    some_place = said_flat S (place_facts r.rect count) (lines_of row.kind) chosen.0 chosen.1
        (one_of_map S (λ c. Lies c chosen.0) (row_places r.rect count chosen.0) kept.first
        (in_filter (has_place r.rect count chosen.0) (cells_of r.rect) kept.first (in_cells r.rect kept.first first_inside)
        (inside_true r.rect (steps (count - 1) (way_of chosen.0) kept.first) last_inside)) lies_there)

    each_placed : (l : Line) → In (lines_of row.kind) l → (c : Cell) → AllStay S (placed_rules r.rect row.kind count l c)
    each_placed l at c = each_map (Stays S) (λ k. rule (Lies c l ∷ []) (kind_facts r.rect (steps k (way_of l) c) row.kind)) (range_with_len 0 count)
        (λ k low given.
        let below = from_range 0 count k low in
        let lt = below.1 in
        let same = kind_of_line row.kind l at in
        let less : k < named_count lays.naming (line_kind l) =
        subst (λ kind. k < named_count lays.naming kind) (sym same) (subst (λ n. k < n) (count_is row.kind) (omega (arith, lt))) in
        kind_said row.kind (steps k (way_of l) c) (subst (λ kind. HasEndPart parts kind (steps k (way_of l) c)) same (given.0 k less)))

    pub row_stays : AllStay S (row_rules r row)
    row_stays = (
      λ none. some_place,
      each_flat (Stays S) (line_rules r.rect row.kind count) (lines_of row.kind)
          (λ l at. each_flat (Stays S) (placed_rules r.rect row.kind count l) (row_places r.rect count l) (λ c there. each_placed l at c)),
    )
