-- Where the centre of a part is, in halves of a tile, on a grid that may be shifted by half a tile.
use Rattle.std.specs.Prelude.{◌≡◌, ℕ, ◌+◌, ℤ, pos, ◌+ℤ◌, ◌*ℤ◌}
use Rattle.bt_parts.specs.declared.part.Dir.{Dir}
use Rattle.bt_parts.specs.declared.part.Dir.TheVariants.{North, East, South, West}
use Rattle.bt_parts.specs.declared.part.Kind.{Kind}
use Rattle.bt_parts.specs.declared.part.Kind.TheVariants.{Splitter}

-- how many tiles a part takes from west to east; a splitter lies across its direction
abbrev pub width_of : Kind → Dir → ℕ
width_of Splitter North = 2
width_of Splitter South = 2
width_of kind dir = 1

-- how many tiles a part takes from north to south
abbrev pub height_of : Kind → Dir → ℕ
height_of Splitter East = 2
height_of Splitter West = 2
height_of kind dir = 1

-- twice the middle of so many tiles, of which the first begins at this coordinate, moved by so many halves of a tile
abbrev pub IsMiddle : ℤ → ℕ → ℕ → ℤ → Type 0
IsMiddle middle size shift first = middle ≡ (pos 2 *ℤ first) +ℤ pos (size + shift)
