-- Cells in rectangles.
use Rattle.std.proofs.Common.{◌≡◌, ℕ, ◌*◌, ◌+◌, ◌^◌, ◌≤◌, ℤ, pos, ◌+ℤ◌, ◌-ℤ◌, ◌≤ℤ◌, ◌<ℤ◌, List, [], ◌∷◌, ◌++◌, length, get_or, inl, inr, Contains, Option, Some, None, refl, sym, subst, ◌∙◌, arith}
use native.Mathlib.Nat.{mul-le-mul}
use Rattle.std.specs.Prelude.{All, min, slice_get, unsigned_abs, unwrap_or, ◌↔◌}
use Rattle.std.specs.Int.{int_min, int_max}
use Rattle.std.proofs.lemmas.Int.{ints, clamps}
use Rattle.std.proofs.lemmas.List.Elements.{All-contains, All-nil, All-push}
use Rattle.bt_parts.specs.declared.part.TheConstants.{MOST_COORDINATE}
use Rattle.bt_parts.specs.declared.part.Cell.{Cell}
use Rattle.bt_parts.specs.declared.part.Part.{Part}
use Rattle.bt_parts.specs.declared.part.Rect.{Rect}
use Rattle.bt_parts.specs.declared.part.Dir.{Dir}
use Rattle.bt_parts.specs.declared.part.Dir.TheVariants.{North, East, South, West}
use Rattle.bt_parts.specs.Cells.{Covers, IsGreaterHalf, IsInRange, IsInside, beside}
use Rattle.bt_grids.specs.Grids.{area_of}
use Rattle.bt_grids.specs.Spanned.{Holds, IsSpanned}
use Rattle.bt_grids.specs.declared.span.Span.{Span}
use Rattle.bt_grids.specs.inner.Spans.{Encloses, IsBetween, IsNear, IsSpanOf}

-- a cell as it is seen from a corner
abbrev pub from : Cell → Cell → Cell
from corner cell = record { x = cell.x -ℤ corner.x; y = cell.y -ℤ corner.y }

module _ (corner : Cell) (rect : Rect) where
  -- the lesser, and the greater, coordinates of two cells of a rectangle are those of a cell of it
  pub least_inside : (a b m : Cell) → m.x ≡ int_min a.x b.x → m.y ≡ int_min a.y b.y → IsInside rect (from corner a) → IsInside rect (from corner b) → IsInside rect (from corner m)
  least_inside a b m x y (aw, ae, an, az) (bw, be, bn, bz) =
      (omega (arith, ints, clamps, x, aw, bw), omega (arith, ints, clamps, x, ae, be), omega (arith, ints, clamps, y, an, bn), omega (arith, ints, clamps, y, az, bz))

  pub greatest_inside : (a b m : Cell) → m.x ≡ int_max a.x b.x → m.y ≡ int_max a.y b.y → IsInside rect (from corner a) → IsInside rect (from corner b) → IsInside rect (from corner m)
  greatest_inside a b m x y (aw, ae, an, az) (bw, be, bn, bz) =
      (omega (arith, ints, clamps, x, aw, bw), omega (arith, ints, clamps, x, ae, be), omega (arith, ints, clamps, y, an, bn), omega (arith, ints, clamps, y, az, bz))

  module _ (parts : List Part) (part : Part) (holds : Holds corner rect parts) (has : Contains parts part) where
    -- each cell of one of the parts is inside
    covered : (cell : Cell) → Covers part cell → IsInside rect (from corner cell)
    covered cell covers = All-contains (λ part. (cell : Cell) → Covers part cell → IsInside rect (from corner cell)) parts part holds has cell covers

    -- its first cell
    pub first_inside : (first : Cell) → first ≡ part.cell → IsInside rect (from corner first)
    first_inside first is = covered first (inl is)

    -- and its last one
    pub last_inside : (first : Cell) (second : Option Cell) → first ≡ part.cell → ((c : Cell) → (second ≡ Some c) ↔ IsGreaterHalf part c)
        → IsInside rect (from corner (unwrap_or second first))
    last_inside first None is halves = covered first (inl is)
    last_inside first (Some c) is halves = covered c (inr ((halves c).0 refl))

-- two numbers in a range are less than its length apart
apart : (a b c : ℤ) (length across : ℕ) → across ≡ unsigned_abs (a -ℤ b) → pos 0 ≤ℤ (a -ℤ c) → (a -ℤ c) <ℤ pos length → pos 0 ≤ℤ (b -ℤ c) → (b -ℤ c) <ℤ pos length → across + 1 ≤ length
apart a b c length across is al am bl bm = omega (arith, ints, is, al, am, bl, bm)

-- the cells from one to the other of two cells of a rectangle are no more than its cells
pub spans : (corner : Cell) (rect : Rect) (a b : Cell) (across down cells most : ℕ) → across ≡ unsigned_abs (a.x -ℤ b.x) → down ≡ unsigned_abs (a.y -ℤ b.y)
    → cells ≡ min ((across + 1) * (down + 1)) most → IsInside rect (from corner a) → IsInside rect (from corner b) → cells ≤ area_of rect
spans corner rect a b across down cells most x y is (aw, ae, an, az) (bw, be, bn, bz) =
    let wide = apart a.x b.x corner.x rect.width across x aw ae bw be in
    let high = apart a.y b.y corner.y rect.height down y an az bn bz in
    let all : (across + 1) * (down + 1) ≤ rect.width * rect.height = mul-le-mul wide high in
    omega (arith, is, all)

-- ---- the rectangle from the one cell of a span to the other

-- a cell between two of a span lies between those of a wider one
wider : (span wide : Span) (cell : Cell) → wide.least.x ≤ℤ span.least.x → wide.least.y ≤ℤ span.least.y → span.greatest.x ≤ℤ wide.greatest.x → span.greatest.y ≤ℤ wide.greatest.y
    → IsBetween span cell → IsBetween wide cell
wider span wide cell west north east south is = record {
  east_of = omega (arith, ints, west, is.east_of);
  west_of = omega (arith, ints, east, is.west_of);
  south_of = omega (arith, ints, north, is.south_of);
  north_of = omega (arith, ints, south, is.north_of);
}

-- the last cell of a part isn't before the first one, and at most one beyond it
beyond : (dir : Dir) (cell : Cell) → (cell.x ≤ℤ (beside dir cell).x) × ((beside dir cell).x ≤ℤ (cell.x +ℤ pos 1)) × (cell.y ≤ℤ (beside dir cell).y) × ((beside dir cell).y ≤ℤ (cell.y +ℤ pos 1))
beyond North cell = (omega (arith, ints), omega (arith, ints), omega (arith, ints), omega (arith, ints))
beyond East cell = (omega (arith, ints), omega (arith, ints), omega (arith, ints), omega (arith, ints))
beyond South cell = (omega (arith, ints), omega (arith, ints), omega (arith, ints), omega (arith, ints))
beyond West cell = (omega (arith, ints), omega (arith, ints), omega (arith, ints), omega (arith, ints))

abbrev IsNextTo : Cell → Cell → Type 0
IsNextTo first last = (first.x ≤ℤ last.x) × (last.x ≤ℤ (first.x +ℤ pos 1)) × (first.y ≤ℤ last.y) × (last.y ≤ℤ (first.y +ℤ pos 1))

next_to : (part : Part) (first : Cell) (second : Option Cell) → first ≡ part.cell → ((c : Cell) → (second ≡ Some c) ↔ IsGreaterHalf part c) → IsNextTo first (unwrap_or second first)
next_to part first None is halves = (omega (arith, ints), omega (arith, ints), omega (arith, ints), omega (arith, ints))
next_to part first (Some c) is halves =
    subst (IsNextTo first) (sym ((halves c).0 refl).1) (subst (λ cell. IsNextTo cell (beside part.dir part.cell)) (sym is) (beyond part.dir part.cell))

-- so neither is far
pub near_last : (part : Part) (first : Cell) (second : Option Cell) → first ≡ part.cell → ((c : Cell) → (second ≡ Some c) ↔ IsGreaterHalf part c) → IsInRange part.cell
    → IsNear first × IsNear (unwrap_or second first)
near_last part first second is halves range =
    let next = next_to part first second is halves in
    let within : IsInRange first = subst IsInRange (sym is) range in
    ((omega (arith, within.0), omega (arith, within.1)), (omega (arith, ints, within.0, next.0, next.1), omega (arith, ints, within.1, next.2, next.3)))

-- each cell of a part lies between the first one and the last one
part_between : (part : Part) (first : Cell) (second : Option Cell) (wide : Span) → first ≡ part.cell → ((c : Cell) → (second ≡ Some c) ↔ IsGreaterHalf part c)
    → IsBetween wide first → IsBetween wide (unwrap_or second first) → (cell : Cell) → Covers part cell → IsBetween wide cell
part_between part first second wide is halves one other cell (inl own) = subst (IsBetween wide) (is ∙ sym own) one
part_between part first second wide is halves one other cell (inr half) =
    subst (λ last. IsBetween wide (unwrap_or last first)) ((halves cell).1 half) other

all_more : {X : Type 0} (P Q : X → Type 0) (xs : List X) → ((x : X) → P x → Q x) → All P xs → All Q xs
all_more P Q xs more all = λ i d lt. more (get_or xs i d) (all i d lt)

-- a span that is widened to a part encloses it too
pub encloses_more : (span wide : Span) (seen : List Part) (part : Part) (first last : Cell) (second : Option Cell) → first ≡ part.cell → ((c : Cell) → (second ≡ Some c) ↔ IsGreaterHalf part c)
    → last ≡ unwrap_or second first → wide.least.x ≡ int_min span.least.x first.x → wide.least.y ≡ int_min span.least.y first.y → wide.greatest.x ≡ int_max span.greatest.x last.x
    → wide.greatest.y ≡ int_max span.greatest.y last.y → Encloses span seen → Encloses wide (seen ++ part ∷ [])
encloses_more span wide seen part first last second is halves ends lx ly gx gy was =
    let next : IsNextTo first last = subst (IsNextTo first) (sym ends) (next_to part first second is halves) in
    let one : IsBetween wide first = record {
      east_of = omega (arith, ints, clamps, lx);
      west_of = omega (arith, ints, clamps, gx, next.0);
      south_of = omega (arith, ints, clamps, ly);
      north_of = omega (arith, ints, clamps, gy, next.2);
    } in
    let other : IsBetween wide last = record {
      east_of = omega (arith, ints, clamps, lx, next.0);
      west_of = omega (arith, ints, clamps, gx);
      south_of = omega (arith, ints, clamps, ly, next.2);
      north_of = omega (arith, ints, clamps, gy);
    } in
    All-push (λ part. (cell : Cell) → Covers part cell → IsBetween wide cell) seen part
    (all_more (λ part. (cell : Cell) → Covers part cell → IsBetween span cell) (λ part. (cell : Cell) → Covers part cell → IsBetween wide cell) seen
    (λ seen_part is cell covers.
    wider span wide cell (omega (arith, ints, clamps, lx)) (omega (arith, ints, clamps, ly)) (omega (arith, ints, clamps, gx)) (omega (arith, ints, clamps, gy)) (is cell covers)) was)
    (part_between part first second wide is halves one (subst (IsBetween wide) ends other))

-- between two coordinates
inside_from : (least greatest at : ℤ) (across : ℕ) → across ≡ unsigned_abs (least -ℤ greatest) → least ≤ℤ at → at ≤ℤ greatest
    → (pos 0 ≤ℤ (at -ℤ least)) × ((at -ℤ least) <ℤ pos (across + 1))
inside_from least greatest at across is low high = (omega (arith, ints, low), omega (arith, ints, is, low, high))

-- where neither cell is far, the product of both lengths fits
few_cells : (across down cells most : ℕ) → across ≤ 2 * (MOST_COORDINATE + 1) → down ≤ 2 * (MOST_COORDINATE + 1) → cells ≡ min ((across + 1) * (down + 1)) most → 2 ^ 60 ≤ most
    → (across + 1) * (down + 1) ≡ cells
few_cells across down cells most wide high is large =
    let wide_one : across + 1 ≤ 4194304 = omega (arith, wide) in
    let high_one : down + 1 ≤ 4194304 = omega (arith, high) in
    let bound : (across + 1) * (down + 1) ≤ 4194304 * 4194304 = mul-le-mul wide_one high_one in
    omega (arith, is, bound, large)

-- the least rectangle of parts that a span encloses, both cells of which lie in each that holds them
pub least_holding : (parts : List Part) (span : Span) (across down cells most : ℕ) → across ≡ unsigned_abs (span.least.x -ℤ span.greatest.x) → down ≡ unsigned_abs (span.least.y -ℤ span.greatest.y)
    → cells ≡ min ((across + 1) * (down + 1)) most → 2 ^ 60 ≤ most → IsNear span.least → IsNear span.greatest → IsSpanOf parts span → Encloses span parts → IsSpanned cells parts
least_holding parts span across down cells most x y is large near near_too within encloses = record {
  corner = span.least;
  rect = record { width = across + 1; height = down + 1 };
  holds =
      all_more (λ part. (cell : Cell) → Covers part cell → IsBetween span cell) (λ part. (cell : Cell) → Covers part cell → IsInside (record { width = across + 1; height = down + 1 }) (from span.least cell)) parts
      (λ part is cell covers.
      let between = is cell covers in
      let wide = inside_from span.least.x span.greatest.x cell.x across x between.east_of between.west_of in
      let high = inside_from span.least.y span.greatest.y cell.y down y between.south_of between.north_of in
      (wide.0, wide.1, high.0, high.1)) encloses;
  area = few_cells across down cells most (omega (arith, ints, x, near.0, near_too.0)) (omega (arith, ints, y, near.1, near_too.1)) is large;
  least = λ at other holds. let both = within at other holds in spans at other span.least span.greatest across down cells most x y is both.0 both.1;
}

-- where there is no first part, there is none
pub none_first : (parts : List Part) → slice_get parts 0 ≡ None → parts ≡ []
none_first [] is = refl
none_first (part ∷ parts) is = absurd cc

-- no parts lie in a rectangle without cells
pub none_spanned : IsSpanned 0 []
none_spanned = record {
  corner = record { x = pos 0; y = pos 0 };
  rect = record { width = 0; height = 0 };
  holds = All-nil (λ part. (cell : Cell) → Covers part cell → IsInside (record { width = 0; height = 0 }) (from (record { x = pos 0; y = pos 0 }) cell));
  area = refl;
  least = λ at other holds. omega arith;
}
