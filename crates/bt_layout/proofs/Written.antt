-- What is written of parts that lay a request is read back.
use Rattle.std.proofs.Common.{◌≡◌, ◌≢◌, ℕ, ◌<◌, ◌≤◌, ℤ, pos, List, length, get_or, refl, sym, ◌∙◌, ap, subst, inl, inr, arith}
use Rattle.std.specs.Prelude.{unsigned_abs}
use Rattle.std.specs.List.{All, AllPairs}
use Rattle.std.proofs.lemmas.Bool.{false≢true}
use Rattle.std.proofs.lemmas.Nat.{mul-le}
use Rattle.std.proofs.lemmas.Option.{slice_get-get_or}
use Rattle.bt_parts.specs.declared.part.Cell.{Cell}
use Rattle.bt_parts.specs.declared.part.Dir.{Dir}
use Rattle.bt_parts.specs.declared.part.Dir.TheVariants.{North, East, South, West}
use Rattle.bt_parts.specs.declared.part.Kind.{Kind}
use Rattle.bt_parts.specs.declared.part.Kind.TheVariants.{Belt, Entrance, Exit, Splitter}
use Rattle.bt_parts.specs.declared.part.Part.{Part}
use Rattle.bt_parts.specs.declared.part.Rect.{Rect}
use Rattle.bt_parts.specs.Cells.{IsInside}
use Rattle.bt_parts.specs.Layouts.{IsAt}
use Rattle.bt_entities.specs.declared.blueprint.TheConstants.{MOST_ENTITIES}
use Rattle.bt_entities.specs.Places.{width_of, height_of}
use Rattle.bt_model.specs.Laying.{Lays}
use Rattle.bt_model.specs.Requests.{LayoutRequest, IsRequest}
use Rattle.bt_model.specs.declared.request.TheConstants.{MOST_CELLS}
use Rattle.bt_entities.specs.ReadBack.{HasCentreInRange}
use Rattle.bt_entities.specs.Written.{twice_middle}
use Rattle.bt_entities.proofs.ReadBack.{written_read}
use Rattle.bt_rules.proofs.kept.Geometry.{across}
use Rattle.bt_rules.proofs.CountStay.{room_there}
use Rattle.bt_place.specs.PlaceFormula.{HasFormula}
use Rattle.bt_place.specs.inner.Grid.{spot_in, spots_in, cell_numbered}
use Rattle.bt_place.proofs.Cells.{cell_of, spot_within, spot_numbered}
use Rattle.bt_grids.specs.Grids.{area_of, IsWithin}
use Rattle.bt_layout.specs.Layouts.{IsLayout}
use Rattle.bt_layout.specs.Laws.{LaidIsReadBack}
use Rattle.bt_grids.specs.Asked.{request_on}
use Rattle.bt_grids.specs.declared.outcome.Layout.{Layout}
use Rattle.bt_grids.specs.declared.outcome.Layout.TheVariants.{Found, Nowhere, Spent}
use Rattle.bt_layout.specs.inner.Ends.{IsSought}
use Rattle.bt_layout.proofs.Few.{few_apart}

wide : (kind : Kind) (dir : Dir) → width_of kind dir ≤ 2
wide Belt dir = omega arith
wide Entrance dir = omega arith
wide Exit dir = omega arith
wide Splitter North = omega arith
wide Splitter East = omega arith
wide Splitter South = omega arith
wide Splitter West = omega arith

high : (kind : Kind) (dir : Dir) → height_of kind dir ≤ 2
high Belt dir = omega arith
high Entrance dir = omega arith
high Exit dir = omega arith
high Splitter North = omega arith
high Splitter East = omega arith
high Splitter South = omega arith
high Splitter West = omega arith

-- a coordinate that isn't large
near : (z : ℤ) (size : ℕ) → z ≡ pos (unsigned_abs z) → unsigned_abs z < 160 → size ≤ 2 → unsigned_abs (twice_middle z size) ≤ 1048576
near z size e lt le =
    subst (λ y. unsigned_abs (twice_middle y size) ≤ 1048576) (sym e) (omega (arith, lt, le))

module _ (r : LayoutRequest) (parts : List Part) (lays : Lays parts r) where
  on_own : (i : ℕ) (d : Part) → i < length parts → IsAt parts i (get_or parts i d).cell
  on_own i d lt = record { part = get_or parts i d; is_i = slice_get-get_or parts i d lt; covers = inl refl }

  own_inside : (i : ℕ) (d : Part) → i < length parts → IsInside r.rect (get_or parts i d).cell
  own_inside i d lt = lays.fits.inside i (get_or parts i d).cell (on_own i d lt)

  own_numbers : All (λ part. spot_in r.rect part.cell < spots_in r.rect) parts
  own_numbers i d lt = spot_within r.rect (get_or parts i d).cell (own_inside i d lt)

  -- no two parts have the same own cell
  own_apart : AllPairs (λ one other. spot_in r.rect one.cell ≢ spot_in r.rect other.cell) parts
  own_apart i j d before lt = λ e.
      let li : i < length parts = omega (arith, before, lt) in
      let same : (get_or parts i d).cell ≡ (get_or parts j d).cell =
      sym (spot_numbered r.rect (get_or parts i d).cell (own_inside i d li)) ∙ ap (cell_numbered r.rect) e ∙ spot_numbered r.rect (get_or parts j d).cell (own_inside j d lt) in
      lays.shows.clean.well_placed i j before (
        (get_or parts i d).cell,
        on_own i d li,
        subst (IsAt parts j) (sym same) (on_own j d lt),
      )

  -- they are no more than the cells
  pub laid_within : length parts ≤ spots_in r.rect
  laid_within = few_apart (λ part. spot_in r.rect part.cell) parts (spots_in r.rect) own_apart own_numbers

-- so on a grid within one of few cells they are few
pub found_few : (r : LayoutRequest) (grid : Rect) (parts : List Part) → area_of r.rect ≤ MOST_CELLS → IsWithin r.rect grid → Lays parts (request_on r grid)
    → length parts ≤ MOST_ENTITIES
found_few r grid parts few within lays =
    let fit = laid_within (request_on r grid) parts lays in
    let area = mul-le grid.width grid.height r.rect.width r.rect.height within.few_across within.few_down in
    omega (arith, fit, area, few)

module _ (r : LayoutRequest) (parts : List Part) (lays : Lays parts r) (is : IsRequest r) where
  -- and of a request that has a formula they are few: where there is no room, none lay it
  pub laid_few : HasFormula r → length parts ≤ MOST_ENTITIES
  laid_few (inl small) = let within = laid_within r parts lays in let few = small.cells in omega (arith, within, few)
  laid_few (inr none) = absurd (false≢true (sym none ∙ room_there r parts lays is))

  pub laid_near : All HasCentreInRange parts
  laid_near i d lt =
      let part = get_or parts i d in
      let inside = own_inside r parts lays i d lt in
      let at = across r.rect part.cell inside in
      let is_at = cell_of r.rect part.cell inside in
      let wide_enough = is.grid.few_across in
      let high_enough = is.grid.few_down in
      let x = at.0 in let y = at.1 in (
        near part.cell.x (width_of part.kind part.dir) (ap (λ (c : Cell). c.x) is_at) (omega (arith, x, wide_enough)) (wide part.kind part.dir),
        near part.cell.y (height_of part.kind part.dir) (ap (λ (c : Cell). c.y) is_at) (omega (arith, y, high_enough)) (high part.kind part.dir),
      )

pub laid_is_read_back : LaidIsReadBack
laid_is_read_back r parts priorities is few lays may = written_read parts priorities few (laid_near r parts lays is) may

-- what the search of a formula comes to is right to say of a request that has it
pub layout_told : (r : LayoutRequest) (learnt : ℕ) (layout : Layout) → IsRequest r → HasFormula r → IsSought r learnt layout → IsLayout r learnt layout
layout_told r learnt (Found parts) is has sought = (sought.0, sought.1, laid_few r parts.items sought.0 is has)
layout_told r learnt (Nowhere log) is has sought = (has, sought.0, sought.1, sought.2, sought.3)
layout_told r learnt (Spent log) is has sought = (has, sought)
