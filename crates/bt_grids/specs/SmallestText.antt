-- The text of what a search for the least grid comes to, and one for small grids.
use Rattle.std.specs.Prelude.{ℕ, List, [], ◌++◌, Option, Some, None, codes, decimal, length}
use Rattle.std.specs.List.{flat_map}
use Rattle.bt_text.specs.Lines.{line}
use Rattle.bt_parts.specs.declared.hand.Priority.{Priority}
use Rattle.bt_parts.specs.declared.part.Rect.{Rect}
use Rattle.bt_log.specs.Logs.{Step}
use Rattle.bt_log.specs.LogText.{log_text}
use Rattle.bt_entities.specs.Written.{blueprint_text}
use Rattle.bt_grids.specs.declared.outcome.RuledOut.{RuledOut}
use Rattle.bt_grids.specs.declared.outcome.Small.{Small}
use Rattle.bt_grids.specs.declared.outcome.Small.TheVariants as small
use Rattle.bt_grids.specs.declared.outcome.Smallest.{Smallest}
use Rattle.bt_grids.specs.declared.outcome.Smallest.TheVariants.{Found, Nowhere, Spent}

-- the word of a certificate that no layout lays a request
abbrev pub none_word : List ℕ
none_word = codes "none"

-- the none certificate: `none`, and the steps of the log
abbrev pub nowhere_text : List Step → List ℕ
nowhere_text steps = line none_word ++ log_text steps

-- the line of a word and the numbers of a grid: its width, `x` and its height
abbrev pub rect_line : List ℕ → Rect → List ℕ
rect_line word grid = line (word ++ decimal grid.width ++ codes "x" ++ decimal grid.height)

-- the line of a grid
abbrev pub grid_line : Rect → List ℕ
grid_line grid = rect_line (codes "grid ") grid

-- the line of the grid with which a search begins; none where none is named
abbrev pub from_line : Option Rect → List ℕ
from_line (Some first) = rect_line (codes "from ") first
from_line None = []

-- of a grid that is ruled out: its line, and the none certificate
abbrev pub ruled_out_text : RuledOut → List ℕ
ruled_out_text one = grid_line one.grid ++ nowhere_text one.log.steps

-- of all grids that are ruled out, in their order
abbrev pub earlier_text : List RuledOut → List ℕ
earlier_text earlier = flat_map ruled_out_text earlier

-- the blueprint of the parts that are found, with these priorities; else nothing
abbrev pub blueprint_of : Smallest → List Priority → List ℕ
blueprint_of (Found earlier grid parts) priorities = blueprint_text parts.items priorities
blueprint_of (Nowhere earlier) priorities = []
blueprint_of (Spent earlier grid log) priorities = []

-- of a log that is used up: `spent` and the number of its steps, the line of its grid, and the steps
abbrev pub spent_on_text : Rect → List Step → List ℕ
spent_on_text grid steps = line (codes "spent " ++ decimal (length steps)) ++ grid_line grid ++ log_text steps

-- the text, behind the grid with which the search begins: the grids that are ruled out, and then the line of the grid
-- of the parts and their blueprint; or those grids alone; or the log that is used up
abbrev pub least_text : Smallest → List Priority → List ℕ
least_text (Found earlier grid parts) priorities = earlier_text earlier.items ++ grid_line grid ++ blueprint_text parts.items priorities
least_text (Nowhere earlier) priorities = earlier_text earlier.items
least_text (Spent earlier grid log) priorities = spent_on_text grid log.steps

-- the whole text: the line of the grid with which the search begins, where one is named, and what it comes to
abbrev pub smallest_text : Option Rect → Smallest → List Priority → List ℕ
smallest_text first answer priorities = from_line first ++ least_text answer priorities

-- the blueprint of the parts that are found on a small grid, with these priorities; else nothing
abbrev pub blueprint_of_small : Small → List Priority → List ℕ
blueprint_of_small (small.Found grid parts) priorities = blueprint_text parts.items priorities
blueprint_of_small (small.Spent steps) priorities = []

-- that none is found in so many steps: `spent` and their number, and `end`
abbrev pub found_none_text : ℕ → List ℕ
found_none_text steps = line (codes "spent " ++ decimal steps) ++ line (codes "end")

-- the text of a search for small grids: the line of the grid of the parts, and their blueprint; or that none is found
abbrev pub small_text : Small → List Priority → List ℕ
small_text (small.Found grid parts) priorities = grid_line grid ++ blueprint_text parts.items priorities
small_text (small.Spent steps) priorities = found_none_text steps
