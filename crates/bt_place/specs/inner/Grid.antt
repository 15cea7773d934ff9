-- The cells of a rectangle by their numbers, row by row.
use Rattle.std.specs.Prelude.{◌≡◌, ℕ, ◌<◌, ◌+◌, ◌*◌, ◌/◌, ◌%◌, unsigned_abs, Option, MatchOption}
use Rattle.bt_parts.specs.declared.part.Cell.{Cell}
use Rattle.bt_parts.specs.declared.part.Dir.{Dir}
use Rattle.bt_parts.specs.declared.part.Rect.{Rect}
use Rattle.bt_parts.specs.Cells.{steps, IsInside, cell_at}

-- the number of cells
abbrev pub spots_in : Rect → ℕ
spots_in rect = rect.width * rect.height

-- the number of a cell
abbrev pub spot_in : Rect → Cell → ℕ
spot_in rect c = unsigned_abs c.y * rect.width + unsigned_abs c.x

-- the cell with a number
abbrev pub cell_numbered : Rect → ℕ → Cell
cell_numbered rect i = cell_at (i % rect.width) (i / rect.width)

-- the number is that of the cell
abbrev pub IsNumberOf : Rect → Cell → ℕ → Type 0
IsNumberOf rect c j = (j < spots_in rect) × (cell_numbered rect j ≡ c)

-- the number of the cell so far in front of this one, where that is inside
abbrev pub TellsAhead : Rect → Cell → Dir → ℕ → Option ℕ → Type 0
TellsAhead rect c dir distance found =
    MatchOption found (IsInside rect (steps distance dir c) → ⊥) (IsNumberOf rect (steps distance dir c))
