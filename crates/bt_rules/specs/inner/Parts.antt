-- Parts of lists of rules that are added together.
use Rattle.std.specs.List.{flat_map}
use Rattle.std.specs.Prelude.{ℕ, List, [], ◌∷◌, ◌++◌, map}
use Rattle.bt_parts.specs.declared.part.Cell.{Cell}
use Rattle.bt_parts.specs.declared.part.Dir.{Dir}
use Rattle.bt_parts.specs.declared.part.Rect.{Rect}
use Rattle.bt_parts.specs.Cells.{step, steps, opposite}
use Rattle.bt_model.specs.Requests.{LayoutRequest}
use Rattle.bt_facts.specs.declared.fact.Content.TheVariants.{Empty}
use Rattle.bt_facts.specs.declared.fact.Fact.{Fact}
use Rattle.bt_facts.specs.declared.fact.Fact.TheVariants.{Kind, Carries, HalfOn, Pair, Tunnel, Goes}
use Rattle.bt_facts.specs.declared.fact.Shape.TheVariants as shape
use Rattle.bt_rules.specs.Carrying.{carried_rules, taken_rule, carrying_rules}
use Rattle.bt_demands.specs.Classes.{classes_of, input_classes, splitters_of}
use Rattle.bt_facts.specs.Facts.{holds}
use Rattle.bt_rules.specs.Contents.{content_rules, shape_rules, mate_rules, class_rules}
use Rattle.bt_rules.specs.Going.{givers, takers, runners, handing_rules}
use Rattle.bt_facts.specs.Rules.{Rule, rule, some_of, not_all, at_most_one}
use Rattle.bt_facts.specs.Spots.{halves, behind, where_inside, where_outside}
use Rattle.bt_rules.specs.Standing.{standing_rules}
use Rattle.bt_rules.specs.Underground.{tunnel_into, back, underground_rules}

-- a cell that isn't empty has a class, and no more than one
abbrev pub one_class_rules : LayoutRequest → Cell → List Rule
one_class_rules r c = some_of (Kind c Empty ∷ map (Carries c) (classes_of r))
    ∷ at_most_one (map (Carries c) (classes_of r))
    ++ map (λ k. not_all (Kind c Empty ∷ Carries c k ∷ [])) (classes_of r)

-- a half has no class of edges from inputs
abbrev pub half_class_rules : LayoutRequest → Cell → List Rule
half_class_rules r c = map (λ k. not_all (HalfOn c ∷ Carries c k ∷ [])) (input_classes r)

-- only a belt, an exit or a half hands on, and what is there takes
abbrev pub handed_rules : Cell → Dir → List Rule
handed_rules c dir = rule (Goes c dir ∷ []) (map (λ of. holds c of dir) givers)
    ∷ rule (Goes c dir ∷ []) (takers (step dir c) dir)
    ∷ not_all (Goes c dir ∷ holds (step dir c) shape.Belt (opposite dir) ∷ []) ∷ []

-- a belt and an exit hand on, and a half does so unless nothing is there
abbrev pub running_rules : Cell → Dir → List Rule
running_rules c dir = map (λ of. rule (holds c of dir ∷ []) (Goes c dir ∷ [])) runners
    ++ map (λ half. rule (holds c (shape.Half half) dir ∷ []) (Goes c dir ∷ Kind (step dir c) Empty ∷ [])) halves

-- a belt and an entrance so turned, where what is behind them is outside
abbrev pub starters_towards : Rect → Cell → Dir → List Fact
starters_towards rect c dir = where_outside rect (behind dir c) (holds c shape.Belt dir ∷ holds c shape.Entrance dir ∷ [])

-- how classes go on from a cell to one inside the rectangle
abbrev pub onward_inside_rules : LayoutRequest → Cell → Dir → List Rule
onward_inside_rules r c dir = flat_map (carried_rules r c dir) (classes_of r) ++ map (taken_rule r c dir) (splitters_of r)

-- an entrance begins a tunnel and an exit has one behind it
abbrev pub end_tunnel_rules : Rect → Cell → Dir → List Rule
end_tunnel_rules rect c dir = rule (holds c shape.Entrance dir ∷ []) (Tunnel c dir ∷ []) ∷ rule (holds c shape.Exit dir ∷ []) (tunnel_into rect c dir) ∷ []

-- a tunnel comes from an entrance or from a tunnel behind, and ends at an exit
abbrev pub source_rules : Rect → Cell → Dir → List Rule
source_rules rect c dir = rule (Tunnel c dir ∷ []) (holds c shape.Entrance dir ∷ tunnel_into rect c dir) ∷ not_all (Tunnel c dir ∷ holds c shape.Exit dir ∷ []) ∷ []

-- a tunnel doesn't leave the rectangle, and passes no entrance and no piece that points back
abbrev pub passing_rules : Rect → Cell → Dir → List Rule
passing_rules rect c dir = where_outside rect (step dir c) (not_all (Tunnel c dir ∷ []) ∷ [])
    ++ where_inside rect (step dir c) (map (λ fact. not_all (Tunnel c dir ∷ fact ∷ []))
    (holds (step dir c) shape.Entrance dir ∷ holds (step dir c) shape.Entrance (opposite dir)
    ∷ holds (step dir c) shape.Exit (opposite dir) ∷ []))

-- the pair of this distance that an entrance on the cell may begin
abbrev pub pair_from : Rect → Cell → Dir → ℕ → List Fact
pair_from rect c dir k = where_inside rect (steps k dir c) (Pair c dir k ∷ [])

-- the pair of this distance that an exit on the cell may end
abbrev pub pair_into : Rect → Cell → Dir → ℕ → List Fact
pair_into rect c dir k = where_inside rect (back k dir c) (Pair (back k dir c) dir k ∷ [])

-- the rules of what stands on a cell
abbrev pub standing_part_rules : LayoutRequest → Cell → List Rule
standing_part_rules r c = content_rules c ++ shape_rules c ++ mate_rules r.rect c ++ class_rules r c ++ standing_rules r c

-- the rules of what is handed on from a cell
abbrev pub handing_part_rules : LayoutRequest → Cell → List Rule
handing_part_rules r c = handing_rules r c ++ underground_rules r c ++ carrying_rules r c
