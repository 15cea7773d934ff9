-- Facts that have variables: those of cells, splitters, inputs and classes which the sizes have.
use Rattle.std.specs.Prelude.{◌<◌, ◌≤◌, ◌+◌, Contains}
use Rattle.std.specs.List.{AllByRecursion}
use Rattle.bt_parts.specs.declared.part.Cell.{Cell}
use Rattle.bt_parts.specs.Cells.{IsInside}
use Rattle.bt_facts.specs.declared.fact.Fact.{Fact}
use Rattle.bt_facts.specs.declared.fact.Fact.TheVariants as fact
use Rattle.bt_facts.specs.Rules.{Rule}
use Rattle.bt_place.specs.Numbering.{Sizes, spots, line_number}

-- the cell is one of the rectangle of these sizes
abbrev pub IsSpot : Sizes → Cell → Type 0
IsSpot z c = IsInside (record { width = z.width; height = z.height }) c

-- what the fact speaks of is there. The facts within a request are those within its sizes
abbrev pub IsNumbered : Sizes → Fact → Type 0
IsNumbered z (fact.Kind c content) = IsSpot z c
IsNumbered z (fact.Carries c k) = IsSpot z c × Contains z.classes k
IsNumbered z (fact.HalfOn c) = IsSpot z c
IsNumbered z (fact.BeltOn c) = IsSpot z c
IsNumbered z (fact.Begins c) = IsSpot z c
IsNumbered z (fact.Starts c i) = IsSpot z c × (i < z.inputs)
IsNumbered z (fact.Stops c o) = IsSpot z c × (o < z.stops)
IsNumbered z (fact.Lies c l) = IsSpot z c × (line_number l < z.lines)
IsNumbered z (fact.Pair c dir k) = IsSpot z c × ((1 ≤ k) × (k ≤ z.distances))
IsNumbered z (fact.Tunnel c dir) = IsSpot z c
IsNumbered z (fact.Goes c dir) = IsSpot z c
IsNumbered z (fact.At s c dir) = (s < z.splitters) × IsSpot z c
IsNumbered z (fact.Column s x) = (s < z.splitters) × (x < z.width)
IsNumbered z (fact.Row s y) = (s < z.splitters) × (y < z.height)
IsNumbered z (fact.Points s dir) = s < z.splitters
IsNumbered z (fact.EntersLesser s) = s < z.splitters
IsNumbered z (fact.LeavesLesser s) = s < z.splitters
IsNumbered z (fact.Held spare half) = (spare + z.halves ≤ spots z) × (half < z.halves)

-- so are all facts of a rule
pub record HasNumbered (z : Sizes) (r : Rule) : Type 0 where
  pub given : AllByRecursion (IsNumbered z) r.given
  pub one_of : AllByRecursion (IsNumbered z) r.one_of
