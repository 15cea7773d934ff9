-- How many cells the least rectangle has that holds parts.
use Rattle.std.specs.Prelude.{◌≡◌, ℕ, ◌≤◌, ◌-ℤ◌, List, All}
use Rattle.bt_parts.specs.declared.part.Cell.{Cell}
use Rattle.bt_parts.specs.declared.part.Part.{Part}
use Rattle.bt_parts.specs.declared.part.Rect.{Rect}
use Rattle.bt_parts.specs.Cells.{Covers, IsInside}
use Rattle.bt_grids.specs.Grids.{area_of}

-- all cells of the parts lie in the rectangle, where its first cell is this corner
abbrev pub Holds : Cell → Rect → List Part → Type 0
Holds corner rect parts = All (λ part. (cell : Cell) → Covers part cell → IsInside rect (record { x = cell.x -ℤ corner.x; y = cell.y -ℤ corner.y })) parts

-- the least rectangle of the parts has so many cells: some rectangle of so many holds them all, and none of fewer does
pub record IsSpanned (cells : ℕ) (parts : List Part) : Type 0 where
  pub corner : Cell
  pub rect : Rect
  pub holds : Holds corner rect parts
  pub area : area_of rect ≡ cells
  pub least : (at : Cell) (other : Rect) → Holds at other parts → cells ≤ area_of other
