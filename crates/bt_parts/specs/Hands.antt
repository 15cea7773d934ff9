-- The halves of a splitter on the two hands of one who looks in its direction.
use Rattle.std.specs.Prelude.{◌≡◌, ℕ, List, slice_index_or, Option, Some, None}
use Rattle.bt_parts.specs.declared.part.Cell.{Cell}
use Rattle.bt_parts.specs.declared.part.Dir.{Dir}
use Rattle.bt_parts.specs.declared.part.Dir.TheVariants.{North, East, South, West}
use Rattle.bt_parts.specs.declared.part.Part.{Part}
use Rattle.bt_parts.specs.Cells.{beside}
use Rattle.bt_parts.specs.declared.hand.Hand.{Hand}
use Rattle.bt_parts.specs.declared.hand.Priority.{Priority}
use Rattle.bt_parts.specs.declared.hand.Hand.TheVariants.{Left, Right}

-- the direction to the left of this one
abbrev pub left_of : Dir → Dir
left_of North = West
left_of East = North
left_of South = East
left_of West = South

-- the half on this hand of a splitter with this direction and this lesser half: the lesser half is on the left of one
-- who looks north or east, and on the right of one who looks south or west
abbrev pub half_on : Hand → Dir → Cell → Cell
half_on Left North cell = cell
half_on Left East cell = cell
half_on Left South cell = beside South cell
half_on Left West cell = beside West cell
half_on Right North cell = beside North cell
half_on Right East cell = beside East cell
half_on Right South cell = cell
half_on Right West cell = cell

-- a hand is preferred, and the half of the splitter is the one on it
abbrev pub IsPreferred : Option Hand → Part → Cell → Type 0
IsPreferred None splitter half = ⊥
IsPreferred (Some hand) splitter half = half ≡ half_on hand splitter.dir splitter.cell

-- no side is preferred
abbrev pub no_priority : Priority
no_priority = record { give = None; take = None }

-- the priority of the part with this index: none, where there are fewer priorities
abbrev pub priority_of : List Priority → ℕ → Priority
priority_of priorities i = slice_index_or priorities i no_priority
