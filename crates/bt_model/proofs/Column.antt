-- A layout in a rectangle with one more column, row by row: belts go on from each end at the old border to the new one.
use Rattle.std.proofs.Common.{◌≡◌, ◌≢◌, ◌⊎◌, inl, inr, ℕ, zero, suc, ◌+◌, ◌<◌, ℤ, pos, negsuc, ◌≤ℤ◌, ◌<ℤ◌, List, [], ◌∷◌, length, slice_get, Some, All, Contains, refl, sym, ◌∙◌, ap, subst, arith}
use Rattle.std.proofs.lemmas.Int.{ints}
use Rattle.std.proofs.lemmas.Bool.{cases_lt, cases_eq}
use Rattle.std.proofs.lemmas.Option.{same_Some, slice_get_within}
use Rattle.bt_parts.specs.declared.part.Cell.{Cell}
use Rattle.bt_parts.specs.declared.part.Dir.{Dir}
use Rattle.bt_parts.specs.declared.part.Dir.TheVariants.{North, East, South, West}
use Rattle.bt_parts.specs.declared.part.Kind.TheVariants.{Belt, Entrance}
use Rattle.bt_parts.specs.declared.part.Part.{Part}
use Rattle.bt_parts.specs.declared.part.Rect.{Rect}
use Rattle.bt_parts.specs.Cells.{step, opposite, Covers, IsInside}
use Rattle.bt_parts.specs.Layouts.{HasPart, IsAt}
use Rattle.bt_parts.proofs.CellOrder.{cell_cases}
use Rattle.bt_parts.proofs.Places.{same_part, own_cell, one_there}
use Rattle.bt_parts.proofs.Steps.{opposite-opposite, near_end}
use Rattle.bt_model.specs.Handing.{Feeds}
use Rattle.bt_model.specs.Chains.{IsInput, IsOutput, IsSplitter}
use Rattle.bt_model.specs.Speeds.{HasOneTier}
use Rattle.bt_model.specs.Shown.{Naming, Shows}
use Rattle.bt_model.specs.Laying.{KeepsDemand, Lays}
use Rattle.bt_model.specs.Requests.{LayoutRequest}
use Rattle.bt_model.proofs.ChainLemmas.{no_link}
use Rattle.bt_model.proofs.ExistLemmas.{output_link}
use Rattle.bt_model.specs.Extending.{AsksNothing, HasLayout, in_rect}
use Rattle.bt_model.proofs.Lists.{has_cases, all_at, all_of, contained, contains_at}
use Rattle.bt_model.proofs.Exchanged.{no_block, no_demand}
use Rattle.bt_model.proofs.Added.{with_belt, Joins, input_back, output_back}
use Rattle.bt_model.proofs.Followed.{IsIt, Nothing, output_moved, output_passed, belt_no_input, followed}
use Rattle.bt_model.proofs.Led.{input_moved, input_passed, belt_no_output, led}

-- one column more
abbrev pub wider : Rect → Rect
wider rect = record { width = suc rect.width; height = rect.height }

-- the cell of the new column in this row, and the one before it
abbrev border : LayoutRequest → ℕ → Cell
border r y = record { x = pos r.rect.width; y = pos y }

cell_is : (a b : Cell) → a.x ≡ b.x → a.y ≡ b.y → a ≡ b
cell_is a b x y = ap (λ z. record { x = z; y = a.y }) x ∙ ap (λ z. record { x = b.x; y = z }) y

-- below the new border is the old one, or it is the new column
edge : (x : ℤ) (w : ℕ) → pos 0 ≤ℤ x → x <ℤ pos (suc w) → (x <ℤ pos w) ⊎ (x ≡ pos w)
edge (pos m) w low high = elim (cases_lt m w) [ inl lt ↦ inl (omega (arith, ints)) | inr ge ↦ inr (omega (arith, ints)) ]
edge (negsuc m) w low high = absurd (omega (arith, ints))

up : (y : ℕ) (z : ℤ) → pos y ≤ℤ z → (z ≡ pos y) ⊎ (pos (suc y) ≤ℤ z)
up y (pos m) le = elim (cases_eq m y) [ inl e ↦ inl (ap pos e) | inr apart ↦ inr (above m y le apart) ]
  where
    above : (m y : ℕ) → pos y ≤ℤ pos m → (m ≡ y → ⊥) → pos (suc y) ≤ℤ pos m
    above m y le apart = elim (cases_lt y m) [ inl lt ↦ omega (arith, ints) | inr ge ↦ absurd (apart (omega (arith, ints))) ]
up y (negsuc m) le = absurd (omega (arith, ints))

-- looks through a list
search_list : (P : ℕ → Type 0) (xs : List ℕ) → ((x : ℕ) → Contains xs x → P x ⊎ (P x → ⊥)) → ((x : ℕ) × P x) ⊎ ((x : ℕ) → Contains xs x → P x → ⊥)
search_list P [] test = inr (λ x c. absurd (let lt = c.1 in omega arith))
search_list P (y ∷ xs) test = elim (test y (contained (y ∷ xs) 0 y refl)) [
  | inl is ↦ inl (y, is)
  | inr first ↦ elim (search_list P xs (λ x c. let at = contains_at xs x c in test x (contained (y ∷ xs) (suc at.0) x at.1))) [
    | inl is ↦ inl is
    | inr none ↦ inr (λ x c is. later x c is first none)
  ]
]
  where
    later : (x : ℕ) → Contains (y ∷ xs) x → P x → (P y → ⊥) → ((z : ℕ) → Contains xs z → P z → ⊥) → ⊥
    later x c is first none = by_place (contains_at (y ∷ xs) x c).0 x (contains_at (y ∷ xs) x c).1 is first none
      where
        by_place : (k x : ℕ) → slice_get (y ∷ xs) k ≡ Some x → P x → (P y → ⊥) → ((z : ℕ) → Contains xs z → P z → ⊥) → ⊥
        by_place zero x e is first none = first (subst P (sym (same_Some y x e)) is)
        by_place (suc k) x e is first none = none x (contained xs k x e) is

-- belts go on in the rows above this one, and ends of the others are at the old border
record IsStage (r : LayoutRequest) (y : ℕ) (parts : List Part) : Type 0 where
  naming : Naming
  shows : Shows parts r.net naming
  tiers : All (λ part. part.tier ≡ r.tier) parts
  inside : (i : ℕ) (cell : Cell) → IsAt parts i cell → IsInside (wider r.rect) cell
  column : (i : ℕ) (part : Part) (cell : Cell) → HasPart parts i part → Covers part cell → cell.x ≡ pos r.rect.width
      → (cell.y <ℤ pos y) × ((part.dir ≡ East) ⊎ (part.dir ≡ West))
  inputs : (i : ℕ) (part : Part) → IsInput parts i → HasPart parts i part → IsInside (wider r.rect) (step (opposite part.dir) part.cell)
      → ((step (opposite part.dir) part.cell).x ≡ pos r.rect.width) × (pos y ≤ℤ (step (opposite part.dir) part.cell).y)
  outputs : (i : ℕ) (part : Part) → IsOutput parts i → HasPart parts i part → IsInside (wider r.rect) (step part.dir part.cell)
      → ((step part.dir part.cell).x ≡ pos r.rect.width) × (pos y ≤ℤ (step part.dir part.cell).y)

-- in the beginning all ends are at the old border
begin : (r : LayoutRequest) (parts : List Part) → Lays parts r → IsStage r 0 parts
begin r parts laid = record {
  naming = laid.naming;
  shows = laid.shows;
  tiers = laid.fits.one_tier;
  inside = λ i cell at. let h = laid.fits.inside i cell at in (h.0, (let x = h.1 in omega (arith, ints)), h.2, h.3);
  column = λ i part cell is covers x. absurd (let h = laid.fits.inside i cell (record { part = part; is_i = is; covers = covers }) in let lt = h.1 in omega (arith, ints));
  inputs = λ i part input is in'. at_border r.rect (step (opposite part.dir) part.cell) in' (laid.fits.inputs i part input is);
  outputs = λ i part output is in'. at_border r.rect (step part.dir part.cell) in' (laid.fits.outputs i part output is);
}
  where
    at_border : (rect : Rect) (c : Cell) → IsInside (wider rect) c → (IsInside rect c → ⊥) → (c.x ≡ pos rect.width) × (pos 0 ≤ℤ c.y)
    at_border rect c in' out = elim (edge c.x rect.width in'.0 in'.1) [ inl lt ↦ absurd (out (in'.0, lt, in'.2, in'.3)) | inr e ↦ (e, in'.2) ]

-- in the end all are at the new one
finish : (r : LayoutRequest) (parts : List Part) → AsksNothing r → IsStage r r.rect.height parts → Lays parts (in_rect (wider r.rect) r)
finish r parts none stage = record {
  fits = record {
    inside = stage.inside;
    unblocked = λ i block in' at. no_block r.blocks none.blocks block in';
    one_tier = stage.tiers;
    inputs = λ i part input is in'. let h = stage.inputs i part input is in' in let low = h.1 in let high = in'.3 in omega (arith, ints);
    outputs = λ i part output is in'. let h = stage.outputs i part output is in' in let low = h.1 in let high = in'.3 in omega (arith, ints);
  };
  naming = stage.naming;
  shows = stage.shows;
  demands = no_demand (KeepsDemand parts (in_rect (wider r.rect) r) stage.naming) r.demands none.demands;
}

module _ (r : LayoutRequest) (y : ℕ) (parts : List Part) (stage : IsStage r y parts) where
  -- what points to the new column's cell does so from the west
  faces : (i : ℕ) (part : Part) (cell : Cell) (d : Dir) → HasPart parts i part → Covers part cell
      → ((part.dir ≡ East) ⊎ (part.dir ≡ West) → (d ≡ East) ⊎ (d ≡ West)) → step d cell ≡ border r y → d ≡ East
  faces i part cell North is covers along e =
      let there = stage.column i part cell is covers (ap (λ z. z.x) e) in
      elim (along there.1) [ inl f ↦ absurd (cc) | inr f ↦ absurd (cc) ]
  faces i part cell East is covers along e = refl
  faces i part cell South is covers along e =
      let there = stage.column i part cell is covers (ap (λ z. z.x) e) in
      elim (along there.1) [ inl f ↦ absurd (cc) | inr f ↦ absurd (cc) ]
  faces i part cell West is covers along e =
      let h = stage.inside i cell (record { part = part; is_i = is; covers = covers }) in
      let lt = h.1 in let x = ap (λ z. z.x) e in absurd (omega (arith, ints))

  against : (d : Dir) → (d ≡ East) ⊎ (d ≡ West) → (opposite d ≡ East) ⊎ (opposite d ≡ West)
  against North is = absurd (elim is [ inl e ↦ cc | inr e ↦ cc ])
  against East is = inr refl
  against South is = absurd (elim is [ inl e ↦ cc | inr e ↦ cc ])
  against West is = inl refl

  -- and so from one cell
  west_of : (a b : Cell) → step East a ≡ border r y → step East b ≡ border r y → a ≡ b
  west_of a b e f =
      cell_is a b (let m = ap (λ z. z.x) e in let n = ap (λ z. z.x) f in omega (arith, ints)) (ap (λ z. z.y) (e ∙ sym f))

  one_facing : (i k : ℕ) (one other : Part) (a b : Cell) → HasPart parts i one → HasPart parts k other → Covers one a → Covers other b
      → step East a ≡ border r y → step East b ≡ border r y → i ≡ k
  one_facing i k one other a b is_i is_k at_a at_b e f =
      one_there parts stage.shows.clean.well_placed i k b
      (record { part = one; is_i = is_i; covers = subst (λ c. Covers one c) (west_of a b e f) at_a })
      (record { part = other; is_i = is_k; covers = at_b })

  beyond : IsInside (wider r.rect) (step East (border r y)) → ⊥
  beyond in' = let lt = in'.1 in omega (arith, ints)

  border_free : (i : ℕ) → IsAt parts i (border r y) → ⊥
  border_free i at = let h = stage.column i at.part (border r y) at.is_i at.covers refl in let lt = h.0 in omega (arith, ints)

  tier_of : HasOneTier parts
  tier_of = (r.tier, stage.tiers)

  -- the belt of this row
  abbrev belt_on : Dir → Part
  belt_on d = record { kind = Belt; tier = r.tier; dir = d; cell = border r y }

  tiers_on : (d : Dir) → All (λ part. part.tier ≡ r.tier) (with_belt parts (belt_on d))
  tiers_on d = all_of (λ part. part.tier ≡ r.tier) (with_belt parts (belt_on d)) (λ k part is.
      elim (has_cases parts (belt_on d) k part is) [ inl old ↦ all_at (λ p. p.tier ≡ r.tier) parts k part old stage.tiers | inr new ↦ ap (λ p. p.tier) new.1 ])

  inside_on : (d : Dir) → y < r.rect.height → (i : ℕ) (cell : Cell) → IsAt (with_belt parts (belt_on d)) i cell → IsInside (wider r.rect) cell
  inside_on d lt i cell at = elim (has_cases parts (belt_on d) i at.part at.is_i) [
    | inl old ↦ stage.inside i cell (record { part = at.part; is_i = old; covers = at.covers })
    | inr new ↦
        let here : cell ≡ border r y = own_cell (belt_on d) cell (λ e. cc) (subst (λ p. Covers p cell) new.1 at.covers) in
        subst (λ c. IsInside (wider r.rect) c) (sym here) (omega (arith, ints), omega (arith, ints), omega (arith, ints), omega (arith, ints))
  ]

  column_on : (d : Dir) → (d ≡ East) ⊎ (d ≡ West) → (i : ℕ) (part : Part) (cell : Cell) → HasPart (with_belt parts (belt_on d)) i part → Covers part cell
      → cell.x ≡ pos r.rect.width → (cell.y <ℤ pos (suc y)) × ((part.dir ≡ East) ⊎ (part.dir ≡ West))
  column_on d along i part cell is covers x = elim (has_cases parts (belt_on d) i part is) [
    | inl old ↦ let h = stage.column i part cell old covers x in ((let lt = h.0 in omega (arith, ints)), h.1)
    | inr new ↦
        let here : cell ≡ border r y = own_cell (belt_on d) cell (λ e. cc) (subst (λ p. Covers p cell) new.1 covers) in
        ((let e = ap (λ z. z.y) here in omega (arith, ints)), subst (λ p. (p.dir ≡ East) ⊎ (p.dir ≡ West)) (sym new.1) along)
  ]

  -- an end of before whose way doesn't lead to this row's cell leads to the new column further down
  further : (c : Cell) → (c.x ≡ pos r.rect.width) × (pos y ≤ℤ c.y) → (c ≡ border r y → ⊥) → (c.x ≡ pos r.rect.width) × (pos (suc y) ≤ℤ c.y)
  further c h apart = (h.0, elim (up y c.y h.1) [ inl e ↦ absurd (apart (cell_is c (border r y) h.0 e)) | inr le ↦ le ])

  -- an output whose way leads there goes on
  module _ (i : ℕ) (output : IsOutput parts i) (ahead : step output.part.dir output.part.cell ≡ border r y) where
    to_east : output.part.dir ≡ East
    to_east = faces i output.part output.part.cell output.part.dir output.is_i (inl refl) (λ is. is) ahead

    from_west : step East output.part.cell ≡ border r y
    from_west = subst (λ d. step d output.part.cell ≡ border r y) to_east ahead

    joins_on : Joins parts (belt_on East) (IsIt i) Nothing
    joins_on = record {
      belt = refl;
      free = border_free;
      seen = λ p half giver is covers above e.
          let d = faces p giver half giver.dir is covers (λ is. is) e in
          one_facing p i giver output.part half output.part.cell is output.is_i covers (inl refl) (subst (λ z. step z half ≡ border r y) d e) from_west;
      sees = λ k at. beyond (stage.inside k (step East (border r y)) at);
      before_along = λ p part e is. ap (λ q. q.dir) (same_part parts i part output.part (subst (λ z. HasPart parts z part) e is) output.is_i) ∙ to_east;
      before_one = λ p k a b. a ∙ sym b;
      before_link = λ p e splitter. no_link parts i (subst (λ z. IsSplitter parts z) e splitter) (output_link parts i output);
      after_along = λ k part none. absurd none;
      after_takes = λ k part none. absurd none;
      after_unfed = λ k none. absurd none;
      not_both = λ p k is none. none;
    }

    stage_followed : y < r.rect.height → IsStage r (suc y) (with_belt parts (belt_on East))
    stage_followed lt = record {
      naming = output_moved i (length parts) stage.naming;
      shows = followed parts (belt_on East) i joins_on output ahead r.net stage.naming tier_of (r.tier, tiers_on East) stage.shows;
      tiers = tiers_on East;
      inside = inside_on East lt;
      column = column_on East (inl refl);
      inputs = λ k part now is in'.
          let apart : k ≢ length parts = belt_no_input parts (belt_on East) i joins_on output ahead k now in
          let old : HasPart parts k part = elim (has_cases parts (belt_on East) k part is) [ inl h ↦ h | inr new ↦ absurd (apart new.0) ] in
          further (step (opposite part.dir) part.cell) (stage.inputs k part (input_back parts (belt_on East) (IsIt i) Nothing joins_on k apart now) old in')
          (λ e.
          let d = faces k part part.cell (opposite part.dir) old (inl refl) (against part.dir) e in
          let same : k ≡ i = one_facing k i part output.part part.cell output.part.cell old output.is_i (inl refl) (inl refl) (subst (λ z. step z part.cell ≡ border r y) d e) from_west in
          let there : part ≡ output.part = same_part parts i part output.part (subst (λ z. HasPart parts z part) same old) output.is_i in
          (let f = ap (λ q. opposite q.dir) there in let g = ap opposite to_east in let h = sym d ∙ f ∙ g in cc));
      outputs = λ k part now is in'. elim (has_cases parts (belt_on East) k part is) [
        | inl old ↦
            let apart : k ≢ length parts = λ e. let lt = slice_get_within parts k part old in omega arith in
            further (step part.dir part.cell) (stage.outputs k part (output_back parts (belt_on East) (IsIt i) Nothing joins_on k apart now) old in')
            (λ e.
            let d = faces k part part.cell part.dir old (inl refl) (λ is. is) e in
            output_passed parts (belt_on East) i joins_on output ahead k now
            (one_facing k i part output.part part.cell output.part.cell old output.is_i (inl refl) (inl refl) (subst (λ z. step z part.cell ≡ border r y) d e) from_west))
        | inr new ↦ absurd (beyond (subst (λ p. IsInside (wider r.rect) (step p.dir p.cell)) new.1 in'))
      ];
    }

  -- an input whose way comes from there begins there
  module _ (i : ℕ) (input : IsInput parts i) (behind : step (opposite input.part.dir) input.part.cell ≡ border r y) where
    against_east : opposite input.part.dir ≡ East
    against_east = faces i input.part input.part.cell (opposite input.part.dir) input.is_i (inl refl) (against input.part.dir) behind

    to_west : input.part.dir ≡ West
    to_west = sym (opposite-opposite input.part.dir) ∙ ap opposite against_east

    from_west_in : step East input.part.cell ≡ border r y
    from_west_in = subst (λ d. step d input.part.cell ≡ border r y) against_east behind

    next : step West (border r y) ≡ input.part.cell
    next = sym (near_end East 1 input.part.cell (border r y) (sym from_west_in))

    joins_to : Joins parts (belt_on West) Nothing (IsIt i)
    joins_to = record {
      belt = refl;
      free = border_free;
      seen = λ p half giver is covers above e.
          let d = faces p giver half giver.dir is covers (λ is. is) e in
          let same = one_facing p i giver input.part half input.part.cell is input.is_i covers (inl refl) (subst (λ z. step z half ≡ border r y) d e) from_west_in in
          let there : giver ≡ input.part = same_part parts i giver input.part (subst (λ z. HasPart parts z giver) same is) input.is_i in
          (let h = sym d ∙ ap (λ q. q.dir) there ∙ to_west in cc);
      sees = λ k at. one_there parts stage.shows.clean.well_placed k i input.part.cell (subst (λ c. IsAt parts k c) next at)
          (record { part = input.part; is_i = input.is_i; covers = inl refl });
      before_along = λ p part none. absurd none;
      before_one = λ p k none. absurd none;
      before_link = λ p none. absurd none;
      after_along = λ k part e is. ap (λ q. q.dir) (same_part parts i part input.part (subst (λ z. HasPart parts z part) e is) input.is_i) ∙ to_west;
      after_takes = λ k part e is. subst (λ q. (q.kind ≡ Belt) ⊎ (q.kind ≡ Entrance)) (sym (same_part parts i part input.part (subst (λ z. HasPart parts z part) e is) input.is_i)) input.kind;
      after_unfed = λ k e p feeds. input.unfed p (subst (λ z. Feeds parts p z) e feeds);
      not_both = λ p k none is. none;
    }

    stage_led : y < r.rect.height → IsStage r (suc y) (with_belt parts (belt_on West))
    stage_led lt = record {
      naming = input_moved i (length parts) stage.naming;
      shows = led parts (belt_on West) i joins_to input next r.net stage.naming tier_of (r.tier, tiers_on West) stage.shows;
      tiers = tiers_on West;
      inside = inside_on West lt;
      column = column_on West (inr refl);
      inputs = λ k part now is in'. elim (has_cases parts (belt_on West) k part is) [
        | inl old ↦
            let apart : k ≢ length parts = λ e. let lt = slice_get_within parts k part old in omega arith in
            further (step (opposite part.dir) part.cell) (stage.inputs k part (input_back parts (belt_on West) Nothing (IsIt i) joins_to k apart now) old in')
            (λ e.
            let d = faces k part part.cell (opposite part.dir) old (inl refl) (against part.dir) e in
            input_passed parts (belt_on West) i joins_to input next k now
            (one_facing k i part input.part part.cell input.part.cell old input.is_i (inl refl) (inl refl) (subst (λ z. step z part.cell ≡ border r y) d e) from_west_in))
        | inr new ↦ absurd (beyond (subst (λ p. IsInside (wider r.rect) (step (opposite p.dir) p.cell)) new.1 in'))
      ];
      outputs = λ k part now is in'.
          let apart : k ≢ length parts = belt_no_output parts (belt_on West) i joins_to input next k now in
          let old : HasPart parts k part = elim (has_cases parts (belt_on West) k part is) [ inl h ↦ h | inr new ↦ absurd (apart new.0) ] in
          further (step part.dir part.cell) (stage.outputs k part (output_back parts (belt_on West) Nothing (IsIt i) joins_to k apart now) old in')
          (λ e.
          let d = faces k part part.cell part.dir old (inl refl) (λ is. is) e in
          let same : k ≡ i = one_facing k i part input.part part.cell input.part.cell old input.is_i (inl refl) (inl refl) (subst (λ z. step z part.cell ≡ border r y) d e) from_west_in in
          let there : part ≡ input.part = same_part parts i part input.part (subst (λ z. HasPart parts z part) same old) input.is_i in
          (let h = sym d ∙ ap (λ q. q.dir) there ∙ to_west in cc));
    }

  -- one of these, or none
  abbrev GoesOn : ℕ → Type 0
  GoesOn k = (output : IsOutput parts k) × (step output.part.dir output.part.cell ≡ border r y)

  abbrev ComesIn : ℕ → Type 0
  ComesIn k = (input : IsInput parts k) × (step (opposite input.part.dir) input.part.cell ≡ border r y)

  goes_on : ((k : ℕ) × GoesOn k) ⊎ ((k : ℕ) → Contains stage.naming.outputs k → GoesOn k → ⊥)
  goes_on = search_list GoesOn stage.naming.outputs (λ k c.
      let output = stage.shows.names.outputs.only k c in
      elim (cell_cases (step output.part.dir output.part.cell) (border r y)) [
        | inl is ↦ inl (output, is.0)
        | inr apart ↦ inr (λ other. apart.0 (subst (λ p. step p.dir p.cell ≡ border r y) (same_part parts k other.0.part output.part other.0.is_i output.is_i) other.1))
      ])

  comes_in : ((k : ℕ) × ComesIn k) ⊎ ((k : ℕ) → Contains stage.naming.inputs k → ComesIn k → ⊥)
  comes_in = search_list ComesIn stage.naming.inputs (λ k c.
      let input = stage.shows.names.inputs.only k c in
      elim (cell_cases (step (opposite input.part.dir) input.part.cell) (border r y)) [
        | inl is ↦ inl (input, is.0)
        | inr apart ↦ inr (λ other. apart.0 (subst (λ p. step (opposite p.dir) p.cell ≡ border r y) (same_part parts k other.0.part input.part other.0.is_i input.is_i) other.1))
      ])

  stage_kept : ((k : ℕ) → Contains stage.naming.outputs k → GoesOn k → ⊥) → ((k : ℕ) → Contains stage.naming.inputs k → ComesIn k → ⊥) → IsStage r (suc y) parts
  stage_kept no_output no_input = record {
    naming = stage.naming;
    shows = stage.shows;
    tiers = stage.tiers;
    inside = stage.inside;
    column = λ i part cell is covers x. let h = stage.column i part cell is covers x in ((let lt = h.0 in omega (arith, ints)), h.1);
    inputs = λ k part input is in'. further (step (opposite part.dir) part.cell) (stage.inputs k part input is in')
        (λ e. no_input k (stage.shows.names.inputs.all k input) (input, subst (λ p. step (opposite p.dir) p.cell ≡ border r y) (same_part parts k part input.part is input.is_i) e));
    outputs = λ k part output is in'. further (step part.dir part.cell) (stage.outputs k part output is in')
        (λ e. no_output k (stage.shows.names.outputs.all k output) (output, subst (λ p. step p.dir p.cell ≡ border r y) (same_part parts k part output.part is output.is_i) e));
  }

  next_stage : y < r.rect.height → (more : List Part) × IsStage r (suc y) more
  next_stage lt = elim goes_on [
    | inl is ↦ (with_belt parts (belt_on East), stage_followed is.0 is.1.0 is.1.1 lt)
    | inr no_output ↦ elim comes_in [
      | inl is ↦ (with_belt parts (belt_on West), stage_led is.0 is.1.0 is.1.1 lt)
      | inr no_input ↦ (parts, stage_kept no_output no_input)
    ]
  ]

all_stages : (r : LayoutRequest) (left y : ℕ) (parts : List Part) → left + y ≡ r.rect.height → IsStage r y parts → (more : List Part) × IsStage r r.rect.height more
all_stages r zero y parts e stage = (parts, subst (λ z. IsStage r z parts) (omega arith) stage)
all_stages r (suc left) y parts e stage =
    let on = next_stage r y parts stage (omega arith) in
    all_stages r left (suc y) on.0 (omega arith) on.1

-- where there is a layout there is one in a rectangle with one more column
pub has_wider : (r : LayoutRequest) → AsksNothing r → HasLayout r → HasLayout (in_rect (wider r.rect) r)
has_wider r none laid =
    let last = all_stages r r.rect.height 0 laid.0 (omega arith) (begin r laid.0 laid.1) in
    (last.0, finish r last.0 none last.1)
