-- The variables of facts: block by block, and within a block by the cells row by row.
use Rattle.std.specs.List.{remove, position_or_len}
use Rattle.std.specs.Prelude.{ℕ, zero, suc, ◌+◌, ◌-◌, ◌*◌, nat_lt, ◌&&◌, ◌||◌, Bool, false, unsigned_abs, length, List, [], ◌∷◌, ◌++◌, map, count_by, slice_index, if◌then◌else◌}
use Rattle.bt_parts.specs.declared.part.Cell.{Cell}
use Rattle.bt_parts.specs.declared.part.Dir.{Dir}
use Rattle.bt_parts.specs.declared.part.Dir.TheVariants.{North, East, South, West}
use Rattle.bt_net.specs.declared.network.Edge.{Edge}
use Rattle.bt_net.specs.Network.{leaves, enters}
use Rattle.bt_facts.specs.declared.fact.Class.{Class}
use Rattle.bt_facts.specs.declared.fact.Content.{Content}
use Rattle.bt_facts.specs.declared.fact.Content.TheVariants.{Empty, Turned}
use Rattle.bt_facts.specs.declared.fact.Fact.{Fact}
use Rattle.bt_facts.specs.declared.fact.Fact.TheVariants as fact
use Rattle.bt_facts.specs.declared.fact.Half.{Half}
use Rattle.bt_facts.specs.declared.fact.Half.TheVariants.{Lesser, Greater}
use Rattle.bt_facts.specs.declared.fact.Line.{Line}
use Rattle.bt_facts.specs.declared.fact.Line.TheVariants as line
use Rattle.bt_facts.specs.declared.fact.Shape.{Shape}
use Rattle.bt_facts.specs.declared.fact.Shape.TheVariants as shape
use Rattle.bt_demands.specs.Classes.{same_class}

-- the sizes on which the numbers of variables depend: the outputs that may stop on cells, the rows in which ends may
-- stand, the greatest distance of an underground pair, the classes, and for each
-- splitter its rank in the order in which the search places them
pub record Sizes : Type 0 where
  pub width : ℕ
  pub height : ℕ
  pub splitters : ℕ
  pub halves : ℕ
  pub inputs : ℕ
  pub stops : ℕ
  pub lines : ℕ
  pub distances : ℕ
  pub classes : List Class
  pub ranks : List ℕ

-- ---- the order of splitters

-- the edge goes from one of these splitters to this one, or from this one to one of these
abbrev pub joins : List ℕ → ℕ → Edge → Bool
joins [] s edge = false
joins (k ∷ done) s edge = (leaves k edge && enters s edge) || (leaves s edge && enters k edge) || joins done s edge

-- the number of edges between these splitters and this one
abbrev pub joining : List Edge → List ℕ → ℕ → ℕ
joining edges done s = count_by (joins done s) edges

-- the place of the first of the greatest of a number and more numbers, of which the next has this place
abbrev pub place_of_most : ℕ → ℕ → ℕ → List ℕ → ℕ
place_of_most place most next [] = place
place_of_most place most next (n ∷ ns) =
    if nat_lt most n then place_of_most next n (next + 1) ns else place_of_most place most (next + 1) ns

-- the place of the first of the greatest numbers
abbrev pub first_most : List ℕ → ℕ
first_most [] = 0
first_most (n ∷ ns) = place_of_most 0 n 1 ns

-- so many more splitters are placed after those that are: of those that are left always the first of those with the
-- most edges to those before it
abbrev pub ordered : ℕ → List Edge → List ℕ → List ℕ → List ℕ
ordered zero edges done left = done
ordered (suc n) edges done left = let k = first_most (map (joining edges done) left) in
    ordered n edges (done ++ slice_index left k ∷ []) (remove left k)

-- ---- numbers within a block

-- the number of a cell, row by row
abbrev pub spot_of : Sizes → Cell → ℕ
spot_of z c = unsigned_abs c.y * z.width + unsigned_abs c.x

-- the number of a direction
abbrev pub dir_number : Dir → ℕ
dir_number North = 0
dir_number East = 1
dir_number South = 2
dir_number West = 3

-- the number of a half
abbrev pub half_number : Half → ℕ
half_number Lesser = 0
half_number Greater = 1

-- the number of a shape
abbrev pub shape_number : Shape → ℕ
shape_number shape.Belt = 0
shape_number shape.Entrance = 1
shape_number shape.Exit = 2
shape_number (shape.Half half) = 3 + half_number half

-- the number of what a cell may hold
abbrev pub content_number : Content → ℕ
content_number Empty = 0
content_number (Turned of dir) = 1 + (shape_number of * 4 + dir_number dir)

-- the number of a row
abbrev pub line_number : Line → ℕ
line_number line.InputsEast = 0
line_number line.InputsSouth = 1
line_number line.OutputsEast = 2
line_number line.OutputsSouth = 3

-- the number of a class: its place among the classes
abbrev pub class_number : Sizes → Class → ℕ
class_number z k = position_or_len (same_class k) z.classes

-- the number of a cell along the longer side of the rectangle: row by row, or column by column
abbrev pub along : Sizes → Cell → ℕ
along z c = if nat_lt z.height z.width
    then unsigned_abs c.y * z.width + unsigned_abs c.x
    else unsigned_abs c.x * z.height + unsigned_abs c.y

-- ---- the blocks

-- the number of cells
abbrev pub spots : Sizes → ℕ
spots z = z.width * z.height

-- how many numbers of cells may hold no half, from 0 on
abbrev pub spares : Sizes → ℕ
spares z = spots z + 1 - z.halves

-- where each block of variables begins, after that of the classes which cells carry
abbrev pub halves_from : Sizes → ℕ
halves_from z = spots z * length z.classes

abbrev pub belts_from : Sizes → ℕ
belts_from z = halves_from z + spots z

abbrev pub begins_from : Sizes → ℕ
begins_from z = belts_from z + spots z

abbrev pub starts_from : Sizes → ℕ
starts_from z = begins_from z + spots z

abbrev pub stops_from : Sizes → ℕ
stops_from z = starts_from z + spots z * z.inputs

abbrev pub lies_from : Sizes → ℕ
lies_from z = stops_from z + spots z * z.stops

abbrev pub pairs_from : Sizes → ℕ
pairs_from z = lies_from z + spots z * z.lines

abbrev pub tunnels_from : Sizes → ℕ
tunnels_from z = pairs_from z + spots z * 4 * z.distances

abbrev pub goings_from : Sizes → ℕ
goings_from z = tunnels_from z + spots z * 4

abbrev pub columns_from : Sizes → ℕ
columns_from z = goings_from z + spots z * 4

abbrev pub rows_from : Sizes → ℕ
rows_from z = columns_from z + z.splitters * z.width

abbrev pub points_from : Sizes → ℕ
points_from z = rows_from z + z.splitters * z.height

abbrev pub entering_from : Sizes → ℕ
entering_from z = points_from z + z.splitters * 4

abbrev pub leaving_from : Sizes → ℕ
leaving_from z = entering_from z + z.splitters

abbrev pub held_from : Sizes → ℕ
held_from z = leaving_from z + z.splitters

abbrev pub kinds_from : Sizes → ℕ
kinds_from z = held_from z + spares z * z.halves

abbrev pub places_from : Sizes → ℕ
places_from z = kinds_from z + spots z * 21

-- the number of variables
abbrev pub variables : Sizes → ℕ
variables z = places_from z + z.splitters * spots z * 4

-- the variable of a fact. The places of the first splitter come last, and before all places what cells hold. Both are
-- numbered from the last cell along the longer side to the first one, and of what a cell holds nothing comes last: so a
-- search that sets the highest variable to true places the splitters one after another, and keeps cells empty then
abbrev pub variable_of : Sizes → Fact → ℕ
variable_of z (fact.Carries c k) = spot_of z c * length z.classes + class_number z k
variable_of z (fact.HalfOn c) = halves_from z + spot_of z c
variable_of z (fact.BeltOn c) = belts_from z + spot_of z c
variable_of z (fact.Begins c) = begins_from z + spot_of z c
variable_of z (fact.Starts c i) = starts_from z + (spot_of z c * z.inputs + i)
variable_of z (fact.Stops c o) = stops_from z + (spot_of z c * z.stops + o)
variable_of z (fact.Lies c l) = lies_from z + (spot_of z c * z.lines + line_number l)
variable_of z (fact.Pair c dir k) = pairs_from z + ((spot_of z c * 4 + dir_number dir) * z.distances + (k - 1))
variable_of z (fact.Tunnel c dir) = tunnels_from z + (spot_of z c * 4 + dir_number dir)
variable_of z (fact.Goes c dir) = goings_from z + (spot_of z c * 4 + dir_number dir)
variable_of z (fact.Column s x) = columns_from z + (s * z.width + x)
variable_of z (fact.Row s y) = rows_from z + (s * z.height + y)
variable_of z (fact.Points s dir) = points_from z + (s * 4 + dir_number dir)
variable_of z (fact.EntersLesser s) = entering_from z + s
variable_of z (fact.LeavesLesser s) = leaving_from z + s
variable_of z (fact.Held spare half) = held_from z + (spare * z.halves + half)
variable_of z (fact.Kind c content) = kinds_from z + ((spots z - 1 - along z c) * 21 + (20 - content_number content))
variable_of z (fact.At s c dir) = places_from z
    + (((z.splitters - 1 - slice_index z.ranks s) * spots z + (spots z - 1 - along z c)) * 4 + dir_number dir)
