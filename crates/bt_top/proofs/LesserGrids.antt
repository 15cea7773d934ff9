-- A request that has a formula has one on each lesser grid, too.
use Rattle.std.proofs.Common.{◌≡◌, ◌⊎◌, inl, inr, ℕ, suc, ◌<◌, ◌≤◌, ◌-◌, Bool, true, false, not, cond, ltb, List, length, map, refl, sym, ◌∙◌, ap, subst, ⊎_elim, arith}
use Rattle.std.specs.Prelude.{unsigned_abs}
use Rattle.std.proofs.lemmas.Bool.{cases_lt, false≢true, le-ltb, lt-ltb}
use Rattle.std.proofs.lemmas.Int.{ints}
use Rattle.std.proofs.lemmas.List.{length-map}
use Rattle.std.proofs.lemmas.Nat.{mul-le}
use Rattle.bt_parts.specs.declared.part.Cell.{Cell}
use Rattle.bt_parts.specs.declared.part.Dir.{Dir}
use Rattle.bt_parts.specs.declared.part.Dir.TheVariants.{North, East, South, West}
use Rattle.bt_parts.specs.declared.part.Rect.{Rect}
use Rattle.bt_parts.specs.Cells.{IsInside, cell_at, step}
use Rattle.bt_model.specs.Requests.{LayoutRequest}
use Rattle.bt_facts.specs.Spots.{border_of, cells_of, dirs, is_border, is_inside}
use Rattle.bt_facts.proofs.Geometry.{distinct_border, distinct_cells, from_cells, in_border, in_cells}
use Rattle.bt_facts.proofs.Keeping.{In, from_any, from_filter, from_map}
use Rattle.bt_demands.specs.Counting.{ends_apart, halves_of, has_room}
use Rattle.bt_demands.proofs.Fitting.{distinct_made, enough_for, from_enough, no_longer}
use Rattle.bt_rules.proofs.kept.Geometry.{across, border_inside, inside_true}
use Rattle.bt_place.specs.PlaceFormula.{HasFormula}
use Rattle.bt_place.proofs.Cells.{cell_of}
use Rattle.bt_grids.specs.Grids.{IsWithin}
use Rattle.bt_grids.specs.Asked.{request_on}

-- a place on a line, on one at least as long: the last is the last there, too
abbrev stretched : ℕ → ℕ → ℕ → ℕ
stretched short long n = cond (ltb (suc n) short) n (long - 1)

module _ (short long : ℕ) (within : short ≤ long) where
  is_stretched : (n : ℕ) → ((suc n < short) × (stretched short long n ≡ n)) ⊎ ((short ≤ suc n) × (stretched short long n ≡ long - 1))
  is_stretched n = ⊎_elim
      (λ lt. inl (lt, ap (λ b. cond b n (long - 1)) (lt-ltb (suc n) short lt)))
      (λ le. inr (le, ap (λ b. cond b n (long - 1)) (le-ltb (suc n) short le)))
      (cases_lt (suc n) short)

  stays_below : (n : ℕ) → n < short → stretched short long n < long
  stays_below n below = ⊎_elim (λ low. let a = low.0 in let e = low.1 in omega (arith, a, e, within)) (λ high. let e = high.1 in omega (arith, e, below, within)) (is_stretched n)

  one_place : (m n : ℕ) → m < short → n < short → stretched short long m ≡ stretched short long n → m ≡ n
  one_place m n m_below n_below same = ⊎_elim
      (λ low. let a = low.0 in let d = low.1 in ⊎_elim
      (λ other. let e = other.1 in omega (arith, d, e, same))
      (λ other. let e = other.1 in absurd (omega (arith, a, d, e, same, within)))
      (is_stretched n))
      (λ high. let a = high.0 in let d = high.1 in ⊎_elim
      (λ other. let b = other.0 in let e = other.1 in absurd (omega (arith, b, d, e, same, within)))
      (λ other. let b = other.0 in omega (arith, a, b, m_below, n_below))
      (is_stretched n))
      (is_stretched m)

  -- the first and the last place stay at an end
  stays_first : (n : ℕ) → n < short → n ≡ 0 → (stretched short long n ≡ 0) ⊎ (suc (stretched short long n) ≡ long)
  stays_first n below first = ⊎_elim
      (λ low. let e = low.1 in inl (omega (arith, e, first)))
      (λ high. let e = high.1 in inr (omega (arith, e, below, within)))
      (is_stretched n)

  stays_last : (n : ℕ) → n < short → suc n ≡ short → suc (stretched short long n) ≡ long
  stays_last n below last = ⊎_elim
      (λ low. let a = low.0 in absurd (omega (arith, a, last)))
      (λ high. let e = high.1 in omega (arith, e, below, within))
      (is_stretched n)

-- the column is the first or the last one, or the row is
abbrev IsOnEdge : Rect → ℕ → ℕ → Type 0
IsOnEdge rect x y = (x ≡ 0) ⊎ (suc x ≡ rect.width) ⊎ (y ≡ 0) ⊎ (suc y ≡ rect.height)

module _ (rect : Rect) (x y : ℕ) (inside : IsInside rect (cell_at x y)) where
  in_edge : IsOnEdge rect x y → In (border_of rect) (cell_at x y)
  in_edge (inl e) = in_border rect West (cell_at x y) inside (λ there. let left = there.0 in omega (arith, ints, left, e))
  in_edge (inr (inl e)) = in_border rect East (cell_at x y) inside (λ there. let right = there.1 in omega (arith, ints, right, e))
  in_edge (inr (inr (inl e))) = in_border rect North (cell_at x y) inside (λ there. let top = there.2 in omega (arith, ints, top, e))
  in_edge (inr (inr (inr e))) = in_border rect South (cell_at x y) inside (λ there. let bottom = there.3 in omega (arith, ints, bottom, e))

  looks_out : (dir : Dir) → (IsInside rect (step dir (cell_at x y)) → ⊥) → IsOnEdge rect x y
  looks_out North out = ⊎_elim
      (λ some. let bottom = inside.3 in absurd (out (inside.0, inside.1, omega (arith, ints, some), omega (arith, ints, bottom))))
      (λ none. inr (inr (inl (omega (arith, none))))) (cases_lt 0 y)
  looks_out East out = ⊎_elim
      (λ more. absurd (out (omega (arith, ints), omega (arith, ints, more), inside.2, inside.3)))
      (λ none. let right = inside.1 in inr (inl (omega (arith, ints, none, right)))) (cases_lt (suc x) rect.width)
  looks_out South out = ⊎_elim
      (λ more. absurd (out (inside.0, inside.1, omega (arith, ints), omega (arith, ints, more))))
      (λ none. let bottom = inside.3 in inr (inr (inr (omega (arith, ints, none, bottom))))) (cases_lt (suc y) rect.height)
  looks_out West out = ⊎_elim
      (λ some. let right = inside.1 in absurd (out (omega (arith, ints, some), omega (arith, ints, right), inside.2, inside.3)))
      (λ none. inl (omega (arith, none))) (cases_lt 0 x)

  from_edge : In (border_of rect) (cell_at x y) → IsOnEdge rect x y
  from_edge there =
      let some = from_any (λ dir. not (is_inside rect (step dir (cell_at x y)))) dirs (from_filter (is_border rect) (cells_of rect) (cell_at x y) there).1 in
      looks_out some.0 (λ beside. false≢true (ap not (sym (inside_true rect (step some.0 (cell_at x y)) beside)) ∙ some.2))

module _ (most grid : Rect) (within : IsWithin most grid) where
  -- the cell of the greater grid for one of the lesser
  spread : Cell → Cell
  spread c = cell_at (stretched grid.width most.width (unsigned_abs c.x)) (stretched grid.height most.height (unsigned_abs c.y))

  spread_inside : (c : Cell) → IsInside grid c → IsInside most (spread c)
  unfolding spread
  spread_inside c inside =
      let at = across grid c inside in
      let x = stays_below grid.width most.width within.few_across (unsigned_abs c.x) at.0 in
      let y = stays_below grid.height most.height within.few_down (unsigned_abs c.y) at.1 in
      (omega (arith, ints), omega (arith, ints, x), omega (arith, ints), omega (arith, ints, y))

  spread_once : (one other : Cell) → IsInside grid one → IsInside grid other → spread one ≡ spread other → one ≡ other
  unfolding spread
  spread_once one other inside in_other same =
      let at = across grid one inside in
      let there = across grid other in_other in
      let x = one_place grid.width most.width within.few_across (unsigned_abs one.x) (unsigned_abs other.x) at.0 there.0 (ap (λ (c : Cell). unsigned_abs c.x) same) in
      let y = one_place grid.height most.height within.few_down (unsigned_abs one.y) (unsigned_abs other.y) at.1 there.1 (ap (λ (c : Cell). unsigned_abs c.y) same) in
      cell_of grid one inside ∙ ap (λ n. cell_at n (unsigned_abs one.y)) x ∙ ap (λ n. cell_at (unsigned_abs other.x) n) y ∙ sym (cell_of grid other in_other)

  spread_border : (c : Cell) → In (border_of grid) c → In (border_of most) (spread c)
  unfolding spread
  spread_border c there =
      let inside = border_inside grid c there in
      let at = across grid c inside in
      let is = cell_of grid c inside in
      let x = unsigned_abs c.x in
      let y = unsigned_abs c.y in
      in_edge most (stretched grid.width most.width x) (stretched grid.height most.height y) (spread_inside c inside)
      (by at (from_edge grid x y (subst (IsInside grid) is inside) (subst (In (border_of grid)) is there)))
    where
      by : (unsigned_abs c.x < grid.width) × (unsigned_abs c.y < grid.height) → IsOnEdge grid (unsigned_abs c.x) (unsigned_abs c.y)
          → IsOnEdge most (stretched grid.width most.width (unsigned_abs c.x)) (stretched grid.height most.height (unsigned_abs c.y))
      by at (inl first) = ⊎_elim (λ e. inl e) (λ e. inr (inl e)) (stays_first grid.width most.width within.few_across (unsigned_abs c.x) at.0 first)
      by at (inr (inl last)) = inr (inl (stays_last grid.width most.width within.few_across (unsigned_abs c.x) at.0 last))
      by at (inr (inr (inl first))) = ⊎_elim (λ e. inr (inr (inl e))) (λ e. inr (inr (inr e))) (stays_first grid.height most.height within.few_down (unsigned_abs c.y) at.1 first)
      by at (inr (inr (inr last))) = inr (inr (inr (stays_last grid.height most.height within.few_down (unsigned_abs c.y) at.1 last)))

  -- so the lesser grid has no more cells, and no more on its border
  cells_fewer : length (cells_of grid) ≤ length (cells_of most)
  cells_fewer = no_longer (cells_of grid) (cells_of most) (distinct_cells grid)
      (λ c there. let inside = from_cells grid c there in in_cells most c (in_greater c inside))
    where
      in_greater : (c : Cell) → IsInside grid c → IsInside most c
      in_greater c inside =
          let right = inside.1 in
          let bottom = inside.3 in
          let wide = within.few_across in
          let high = within.few_down in
          (inside.0, omega (arith, ints, right, wide), inside.2, omega (arith, ints, bottom, high))

  border_fewer : length (border_of grid) ≤ length (border_of most)
  border_fewer =
      let fewer = no_longer (map spread (border_of grid)) (border_of most)
      (distinct_made spread (border_of grid) (λ one other a b same. spread_once one other (border_inside grid one a) (border_inside grid other b) same) (distinct_border grid))
      (λ c there. let from = from_map spread (border_of grid) c there in subst (In (border_of most)) (sym from.2) (spread_border from.0 from.1)) in
      let long = length-map (border_of grid) spread in
      omega (arith, fewer, long)

-- where a lesser grid has room, the greater one has
room_on : (r : LayoutRequest) (grid : Rect) → IsWithin r.rect grid → has_room (request_on r grid) ≡ true → has_room r ≡ true
room_on r grid within room =
    let enough = from_enough (length (cells_of grid)) (length (border_of grid)) (halves_of r) (ends_apart r) room in
    let ends = enough.0 in
    let halves = enough.1 in
    let cells = cells_fewer r.rect grid within in
    let border = border_fewer r.rect grid within in
    enough_for (length (cells_of r.rect)) (length (border_of r.rect)) (halves_of r) (ends_apart r) (omega (arith, ends, border)) (omega (arith, halves, cells))

pub formula_on : (r : LayoutRequest) (grid : Rect) → HasFormula r → IsWithin r.rect grid → HasFormula (request_on r grid)
formula_on r grid (inl small) within =
    let few = small.cells in
    let fewer = mul-le grid.width grid.height r.rect.width r.rect.height within.few_across within.few_down in
    inl (record { cells = omega (arith, few, fewer); edges = small.edges; splitters = small.splitters })
formula_on r grid (inr none) within = by (has_room (request_on r grid)) refl
  where
    by : (room : Bool) → has_room (request_on r grid) ≡ room → HasFormula (request_on r grid)
    by true there = absurd (false≢true (sym none ∙ room_on r grid within there))
    by false none = inr none
