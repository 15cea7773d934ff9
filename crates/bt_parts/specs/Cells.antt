-- Cells, directions as steps, and the cells that a part covers.
use Rattle.std.specs.Prelude.{◌≡◌, ℕ, ◌≤◌, pos, ◌+ℤ◌, ◌-ℤ◌, ◌≤ℤ◌, ◌<ℤ◌, unsigned_abs, ◌⊎◌}
use Rattle.std.specs.Int.{w32, int_wrap}
use Rattle.bt_parts.specs.declared.part.TheConstants.{MOST_COORDINATE}
use Rattle.bt_parts.specs.declared.part.Cell.{Cell}
use Rattle.bt_parts.specs.declared.part.Dir.{Dir}
use Rattle.bt_parts.specs.declared.part.Dir.TheVariants.{North, East, South, West}
use Rattle.bt_parts.specs.declared.part.Kind.TheVariants.{Splitter}
use Rattle.bt_parts.specs.declared.part.Part.{Part}
use Rattle.bt_parts.specs.declared.part.Rect.{Rect}

-- the cell so many tiles to the east and to the south of the first one
abbrev pub cell_at : ℕ → ℕ → Cell
cell_at x y = record { x = pos x; y = pos y }

-- the cell so many steps on in a direction; x grows to the east and y to the south
abbrev pub steps : ℕ → Dir → Cell → Cell
steps n North c = record { x = c.x; y = c.y -ℤ pos n }
steps n East c = record { x = c.x +ℤ pos n; y = c.y }
steps n South c = record { x = c.x; y = c.y +ℤ pos n }
steps n West c = record { x = c.x -ℤ pos n; y = c.y }

-- the next cell in a direction
abbrev pub step : Dir → Cell → Cell
step dir c = steps 1 dir c

-- the cell whose coordinates are these in 32 bits: beyond the greatest one comes the least
abbrev pub wrapped : Cell → Cell
wrapped c = record { x = int_wrap w32 c.x; y = int_wrap w32 c.y }

-- the direction against this one
abbrev pub opposite : Dir → Dir
opposite North = South
opposite East = West
opposite South = North
opposite West = East

-- the next cell across a direction, to the east or to the south
abbrev pub beside : Dir → Cell → Cell
beside North c = step East c
beside East c = step South c
beside South c = step East c
beside West c = step South c

-- the cell is the greater half of a splitter, across its direction from the lesser one
abbrev pub IsGreaterHalf : Part → Cell → Type 0
IsGreaterHalf part c = (part.kind ≡ Splitter) × (c ≡ beside part.dir part.cell)

-- the part covers the cell
abbrev pub Covers : Part → Cell → Type 0
Covers part c = (c ≡ part.cell) ⊎ IsGreaterHalf part c

-- each coordinate has at most the greatest magnitude
abbrev pub IsInRange : Cell → Type 0
IsInRange c = (unsigned_abs c.x ≤ MOST_COORDINATE) × (unsigned_abs c.y ≤ MOST_COORDINATE)

-- the cell is one of the rectangle's
abbrev pub IsInside : Rect → Cell → Type 0
IsInside rect c = (pos 0 ≤ℤ c.x) × (c.x <ℤ pos rect.width) × (pos 0 ≤ℤ c.y) × (c.y <ℤ pos rect.height)
