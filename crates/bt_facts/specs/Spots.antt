-- The cells of a rectangle, and which cells are beside which.
use Rattle.std.specs.List.{range_with_len, list_any, flat_map, filter}
use Rattle.std.specs.Prelude.{ℕ, pos, int_lt, Bool, not, ◌&&◌, List, [], ◌∷◌, map, if◌then◌else◌}
use Rattle.bt_parts.specs.declared.part.Cell.{Cell}
use Rattle.bt_parts.specs.declared.part.Dir.{Dir}
use Rattle.bt_parts.specs.declared.part.Dir.TheVariants.{North, East, South, West}
use Rattle.bt_parts.specs.declared.part.Rect.{Rect}
use Rattle.bt_parts.specs.Cells.{step, opposite, beside, cell_at}
use Rattle.bt_facts.specs.declared.fact.Half.{Half}
use Rattle.bt_facts.specs.declared.fact.Half.TheVariants.{Lesser, Greater}

-- the four directions
abbrev pub dirs : List Dir
dirs = North ∷ East ∷ South ∷ West ∷ []

-- the two directions across this one
abbrev pub sides_of : Dir → List Dir
sides_of North = East ∷ West ∷ []
sides_of East = North ∷ South ∷ []
sides_of South = East ∷ West ∷ []
sides_of West = North ∷ South ∷ []

-- the three directions but this one
abbrev pub others_than : Dir → List Dir
others_than North = East ∷ South ∷ West ∷ []
others_than East = North ∷ South ∷ West ∷ []
others_than South = North ∷ East ∷ West ∷ []
others_than West = North ∷ East ∷ South ∷ []

-- the two halves of a splitter
abbrev pub halves : List Half
halves = Lesser ∷ Greater ∷ []

-- the half that isn't this one
abbrev pub other_half : Half → Half
other_half Lesser = Greater
other_half Greater = Lesser

-- the next cell against a direction
abbrev pub behind : Dir → Cell → Cell
behind dir c = step (opposite dir) c

-- the next cell against the way from a lesser half to its greater one: to the west or to the north
abbrev pub before : Dir → Cell → Cell
before North c = step West c
before East c = step North c
before South c = step West c
before West c = step North c

-- the cell of the other half, where this half of a splitter so turned stands on the cell
abbrev pub mate : Half → Dir → Cell → Cell
mate Lesser dir c = beside dir c
mate Greater dir c = before dir c

-- the cell of this half of a splitter so turned, whose lesser half stands on the cell
abbrev pub half_at : Half → Dir → Cell → Cell
half_at Lesser dir c = c
half_at Greater dir c = beside dir c

-- the cell is one of the rectangle's
abbrev pub is_inside : Rect → Cell → Bool
is_inside rect c = not (int_lt c.x (pos 0)) && int_lt c.x (pos rect.width) && not (int_lt c.y (pos 0)) && int_lt c.y (pos rect.height)

-- these things, where the cell is inside the rectangle, and none otherwise
abbrev pub where_inside : {X : Type 0} → Rect → Cell → List X → List X
where_inside rect c xs = if is_inside rect c then xs else []

-- these things, where the cell is outside the rectangle, and none otherwise
abbrev pub where_outside : {X : Type 0} → Rect → Cell → List X → List X
where_outside rect c xs = if is_inside rect c then [] else xs

-- the cells of a row, from west to east
abbrev pub row_cells : Rect → ℕ → List Cell
row_cells rect y = map (λ x. cell_at x y) (range_with_len 0 rect.width)

-- the cells of the rectangle, row by row
abbrev pub cells_of : Rect → List Cell
cells_of rect = flat_map (row_cells rect) (range_with_len 0 rect.height)

-- some cell beside this one is outside the rectangle
abbrev pub is_border : Rect → Cell → Bool
is_border rect c = list_any (λ dir. not (is_inside rect (step dir c))) dirs

-- the cells on the border of the rectangle
abbrev pub border_of : Rect → List Cell
border_of rect = filter (is_border rect) (cells_of rect)
