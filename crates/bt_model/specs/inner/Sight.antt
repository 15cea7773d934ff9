-- Which parts look at a cell, by direction.
use Rattle.std.specs.Prelude.{◌≡◌, ◌≢◌, ℕ, List, ◌⊎◌}
use Rattle.bt_parts.specs.declared.part.Cell.{Cell}
use Rattle.bt_parts.specs.declared.part.Dir.{Dir}
use Rattle.bt_parts.specs.declared.part.Dir.TheVariants.{North, East, South, West}
use Rattle.bt_parts.specs.declared.part.Kind.TheVariants.{Entrance}
use Rattle.bt_parts.specs.declared.part.Part.{Part}
use Rattle.bt_parts.specs.Cells.{step, opposite}
use Rattle.bt_parts.specs.Layouts.{IsAt}

-- the direction to the left of this one
abbrev pub left : Dir → Dir
left North = West
left East = North
left South = East
left West = South

-- p looks in this direction at the cell
pub record LooksToward (parts : List Part) (cell : Cell) (dir : Dir) (p : ℕ) : Type 0 where
  pub giver : IsAt parts p (step (opposite dir) cell)
  pub no_entrance : giver.part.kind ≢ Entrance
  pub along : giver.part.dir ≡ dir

-- some part looks in this direction at the cell
abbrev pub IsSeen : List Part → Cell → Dir → Type 0
IsSeen parts cell dir = (p : ℕ) × LooksToward parts cell dir p

-- some part looks at the cell across this direction
abbrev pub IsSeenAside : List Part → Cell → Dir → Type 0
IsSeenAside parts cell dir = IsSeen parts cell (left dir) ⊎ IsSeen parts cell (opposite (left dir))

-- parts look at the cell from both sides of this direction
abbrev pub IsSeenOnBoth : List Part → Cell → Dir → Type 0
IsSeenOnBoth parts cell dir = IsSeen parts cell (left dir) × IsSeen parts cell (opposite (left dir))

-- parts look at the cell from two of the three sides that aren't ahead of this direction
abbrev pub IsSeenTwice : List Part → Cell → Dir → Type 0
IsSeenTwice parts cell dir =
    (IsSeen parts cell dir × IsSeenAside parts cell dir) ⊎ IsSeenOnBoth parts cell dir

-- the part looks at the cell of this belt, and not from ahead
abbrev pub IsBeltFeeder : List Part → Part → ℕ → Type 0
IsBeltFeeder parts belt p = (dir : Dir) × (dir ≢ opposite belt.dir) × LooksToward parts belt.cell dir p
