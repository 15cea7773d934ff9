-- Rules of ends that stand in a row.
use Rattle.std.specs.List.{range_with_len, list_any, flat_map, filter}
use Rattle.std.specs.Prelude.{ℕ, ◌-◌, Bool, List, [], ◌∷◌, map, if◌then◌else◌}
use Rattle.bt_parts.specs.declared.part.Cell.{Cell}
use Rattle.bt_parts.specs.declared.part.Dir.{Dir}
use Rattle.bt_parts.specs.declared.part.Dir.TheVariants.{East, South}
use Rattle.bt_parts.specs.declared.part.Rect.{Rect}
use Rattle.bt_parts.specs.Cells.{steps}
use Rattle.bt_net.specs.declared.network.EndKind.{EndKind}
use Rattle.bt_net.specs.declared.network.EndKind.TheVariants.{Inputs, Outputs}
use Rattle.bt_net.specs.declared.network.Row.{Row}
use Rattle.bt_model.specs.Requests.{LayoutRequest, is_row}
use Rattle.bt_model.specs.Laying.{end_count}
use Rattle.bt_facts.specs.declared.fact.Fact.{Fact}
use Rattle.bt_facts.specs.declared.fact.Fact.TheVariants.{Begins, Lies}
use Rattle.bt_facts.specs.declared.fact.Line.{Line}
use Rattle.bt_facts.specs.declared.fact.Line.TheVariants as line
use Rattle.bt_facts.specs.Rules.{Rule, rule, some_of}
use Rattle.bt_facts.specs.Spots.{is_inside, cells_of}
use Rattle.bt_demands.specs.Enders.{enders}

-- the rows in which ends of this kind may stand: one to the east, and one to the south
abbrev pub lines_of : EndKind → List Line
lines_of Inputs = line.InputsEast ∷ line.InputsSouth ∷ []
lines_of Outputs = line.OutputsEast ∷ line.OutputsSouth ∷ []

-- the way that a row runs
abbrev pub way_of : Line → Dir
way_of line.InputsEast = East
way_of line.InputsSouth = South
way_of line.OutputsEast = East
way_of line.OutputsSouth = South

-- an end of this kind stands on the cell
abbrev pub kind_facts : Rect → Cell → EndKind → List Fact
kind_facts rect c Inputs = Begins c ∷ []
kind_facts rect c Outputs = enders rect c

-- the last one of so many cells from this one on lies in the rectangle
abbrev pub has_place : Rect → ℕ → Line → Cell → Bool
has_place rect count l c = is_inside rect (steps (count - 1) (way_of l) c)

-- the places that hold so many consecutive cells, by the first of them
abbrev pub row_places : Rect → ℕ → Line → List Cell
row_places rect count l = filter (has_place rect count l) (cells_of rect)

-- that the ends stand at each of these places
abbrev pub place_facts : Rect → ℕ → Line → List Fact
place_facts rect count l = map (λ c. Lies c l) (row_places rect count l)

-- where the ends stand at this place, one of them stands on each of its cells
abbrev pub placed_rules : Rect → EndKind → ℕ → Line → Cell → List Rule
placed_rules rect kind count l c = map (λ k. rule (Lies c l ∷ []) (kind_facts rect (steps k (way_of l) c) kind)) (range_with_len 0 count)

-- the same of all places of a row
abbrev pub line_rules : Rect → EndKind → ℕ → Line → List Rule
line_rules rect kind count l = flat_map (placed_rules rect kind count l) (row_places rect count l)

-- one place is chosen of all places that hold as many consecutive cells as there are ends, and on each of its cells
-- such an end stands
abbrev pub row_rules : LayoutRequest → Row → List Rule
row_rules r row = let count = end_count r.net row.kind in
    some_of (flat_map (place_facts r.rect count) (lines_of row.kind)) ∷ flat_map (line_rules r.rect row.kind count) (lines_of row.kind)

-- the number of rows in which ends may stand, of both kinds, where some are to stand in one
abbrev pub lining : LayoutRequest → ℕ
lining r = if list_any is_row r.demands then 4 else 0
