-- Rules of what one cell hands to the next: nothing looks at what doesn't take from there, nothing is fed twice, and
-- what isn't fed begins an input on the border.
use Rattle.std.specs.List.{flat_map}
use Rattle.std.specs.Prelude.{List, [], ◌∷◌, ◌++◌, map, if◌then◌else◌}
use Rattle.bt_parts.specs.declared.part.Cell.{Cell}
use Rattle.bt_parts.specs.declared.part.Dir.{Dir}
use Rattle.bt_parts.specs.declared.part.Rect.{Rect}
use Rattle.bt_parts.specs.Cells.{step, opposite}
use Rattle.bt_model.specs.Requests.{LayoutRequest}
use Rattle.bt_facts.specs.declared.fact.Content.TheVariants.{Empty}
use Rattle.bt_facts.specs.declared.fact.Fact.{Fact}
use Rattle.bt_facts.specs.declared.fact.Fact.TheVariants.{Kind, Carries, BeltOn, Begins, Goes}
use Rattle.bt_facts.specs.declared.fact.Half.TheVariants.{Lesser, Greater}
use Rattle.bt_facts.specs.declared.fact.Shape.{Shape}
use Rattle.bt_facts.specs.declared.fact.Shape.TheVariants as shape
use Rattle.bt_demands.specs.Classes.{input_classes}
use Rattle.bt_facts.specs.Facts.{holds, goes_into}
use Rattle.bt_facts.specs.Rules.{Rule, rule, not_all, at_most_one}
use Rattle.bt_facts.specs.Spots.{dirs, halves, sides_of, behind, is_inside, where_outside}

-- the shapes that must hand on, or end an output
abbrev pub runners : List Shape
runners = shape.Belt ∷ shape.Exit ∷ []

-- the shapes that hand to the cell in front
abbrev pub givers : List Shape
givers = shape.Belt ∷ shape.Exit ∷ shape.Half Lesser ∷ shape.Half Greater ∷ []

-- what may take on a cell from a part behind it that is turned this way
abbrev pub takers : Cell → Dir → List Fact
takers c dir = BeltOn c ∷ holds c shape.Entrance dir ∷ map (λ half. holds c (shape.Half half) dir) halves

-- to a cell inside the rectangle: only a belt, an exit or a half hands on, what is there takes, a belt and an exit do
-- hand on, and a half does so unless nothing is there
abbrev pub inner_rules : Cell → Dir → List Rule
inner_rules c dir = rule (Goes c dir ∷ []) (map (λ of. holds c of dir) givers)
    ∷ rule (Goes c dir ∷ []) (takers (step dir c) dir)
    ∷ not_all (Goes c dir ∷ holds (step dir c) shape.Belt (opposite dir) ∷ [])
    ∷ map (λ of. rule (holds c of dir ∷ []) (Goes c dir ∷ [])) runners
    ++ map (λ half. rule (holds c (shape.Half half) dir ∷ []) (Goes c dir ∷ Kind (step dir c) Empty ∷ [])) halves

-- what the cell hands on in a direction: to the outside nothing
abbrev pub going_rules : Rect → Cell → Dir → List Rule
going_rules rect c dir = if is_inside rect (step dir c) then inner_rules c dir else not_all (Goes c dir ∷ []) ∷ []

-- an input begins on the cell, where what is behind it in this direction is outside
abbrev pub begins_there : Rect → Cell → Dir → List Fact
begins_there rect c dir = where_outside rect (behind dir c) (Begins c ∷ [])

-- a belt is fed from behind or from a side, or begins an input, which it does only where what is behind it is outside
abbrev pub fed_belt : Rect → Cell → Dir → Rule
fed_belt rect c dir = rule (holds c shape.Belt dir ∷ [])
    (goes_into rect c dir ++ flat_map (goes_into rect c) (sides_of dir) ++ begins_there rect c dir)

-- an entrance is fed from behind, or begins an input, which it does only where what is behind it is outside
abbrev pub fed_entrance : Rect → Cell → Dir → Rule
fed_entrance rect c dir = rule (holds c shape.Entrance dir ∷ []) (goes_into rect c dir ++ begins_there rect c dir)

-- the belts and entrances on the cell behind which the rectangle ends
abbrev pub starters : Rect → Cell → List Fact
starters rect c = flat_map
    (λ dir. where_outside rect (behind dir c) (holds c shape.Belt dir ∷ holds c shape.Entrance dir ∷ [])) dirs

-- only a belt or an entrance behind which the rectangle ends begins an input, and it has the class of an edge from one
abbrev pub begin_rules : LayoutRequest → Cell → List Rule
begin_rules r c = rule (Begins c ∷ []) (starters r.rect c)
    ∷ rule (Begins c ∷ []) (map (Carries c) (input_classes r)) ∷ []

-- what is handed goes out of the cell in at most one direction, and comes in from at most one, where no input begins
abbrev pub once_rules : Rect → Cell → List Rule
once_rules rect c = at_most_one (map (Goes c) dirs) ++ at_most_one (Begins c ∷ flat_map (goes_into rect c) dirs)

-- the rules of what is handed on, at a cell
abbrev pub handing_rules : LayoutRequest → Cell → List Rule
handing_rules r c = flat_map (going_rules r.rect c) dirs
    ++ map (fed_belt r.rect c) dirs ++ map (fed_entrance r.rect c) dirs
    ++ begin_rules r c ++ once_rules r.rect c
