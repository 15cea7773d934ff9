-- Where the parts of a design lie.
use Rattle.std.specs.Prelude.{◌+◌, ◌≤◌, ◌-ℤ◌, ◌≤ℤ◌, unsigned_abs, List, All}
use Rattle.bt_parts.specs.declared.part.TheConstants.{MOST_COORDINATE}
use Rattle.bt_parts.specs.declared.part.Cell.{Cell}
use Rattle.bt_parts.specs.declared.part.Part.{Part}
use Rattle.bt_parts.specs.declared.part.Rect.{Rect}
use Rattle.bt_parts.specs.Cells.{Covers, IsInside}
use Rattle.bt_grids.specs.declared.span.Span.{Span}
use Rattle.bt_grids.specs.Spanned.{Holds}

-- both cells of a span lie in each rectangle that holds the parts
abbrev pub IsSpanOf : List Part → Span → Type 0
IsSpanOf parts span = (corner : Cell) (rect : Rect) → Holds corner rect parts
    → IsInside rect (record { x = span.least.x -ℤ corner.x; y = span.least.y -ℤ corner.y })
    × IsInside rect (record { x = span.greatest.x -ℤ corner.x; y = span.greatest.y -ℤ corner.y })

-- the cell lies between the cells of a span
pub record IsBetween (span : Span) (cell : Cell) : Type 0 where
  pub east_of : span.least.x ≤ℤ cell.x
  pub west_of : cell.x ≤ℤ span.greatest.x
  pub south_of : span.least.y ≤ℤ cell.y
  pub north_of : cell.y ≤ℤ span.greatest.y

-- and so do all cells of these parts
abbrev pub Encloses : Span → List Part → Type 0
Encloses span parts = All (λ part. (cell : Cell) → Covers part cell → IsBetween span cell) parts

-- each coordinate is at most one beyond the greatest magnitude
abbrev pub IsNear : Cell → Type 0
IsNear cell = (unsigned_abs cell.x ≤ MOST_COORDINATE + 1) × (unsigned_abs cell.y ≤ MOST_COORDINATE + 1)
