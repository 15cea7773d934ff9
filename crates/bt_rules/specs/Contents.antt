-- Rules of what a cell holds: one thing, the halves of splitters side by side, and one class.
use Rattle.std.specs.List.{flat_map}
use Rattle.std.specs.Prelude.{List, [], ◌∷◌, ◌++◌, map}
use Rattle.bt_parts.specs.declared.part.Cell.{Cell}
use Rattle.bt_parts.specs.declared.part.Dir.{Dir}
use Rattle.bt_parts.specs.declared.part.Rect.{Rect}
use Rattle.bt_model.specs.Requests.{LayoutRequest}
use Rattle.bt_facts.specs.declared.fact.Content.{Content}
use Rattle.bt_facts.specs.declared.fact.Content.TheVariants.{Empty, Turned}
use Rattle.bt_facts.specs.declared.fact.Fact.{Fact}
use Rattle.bt_facts.specs.declared.fact.Fact.TheVariants.{Kind, Carries, HalfOn, BeltOn}
use Rattle.bt_facts.specs.declared.fact.Half.{Half}
use Rattle.bt_facts.specs.declared.fact.Half.TheVariants.{Lesser, Greater}
use Rattle.bt_facts.specs.declared.fact.Shape.{Shape}
use Rattle.bt_facts.specs.declared.fact.Shape.TheVariants as shape
use Rattle.bt_demands.specs.Classes.{classes_of, input_classes}
use Rattle.bt_facts.specs.Rules.{Rule, rule, some_of, not_all, at_most_one, exactly_one, equals_one}
use Rattle.bt_facts.specs.Spots.{dirs, halves, other_half, mate, where_inside}
use Rattle.bt_facts.specs.Facts.{holds}

-- the five shapes in their order
abbrev pub shapes : List Shape
shapes = shape.Belt ∷ shape.Entrance ∷ shape.Exit ∷ shape.Half Lesser ∷ shape.Half Greater ∷ []

-- what a cell may hold
abbrev pub contents : List Content
contents = Empty ∷ flat_map (λ of. map (Turned of) dirs) shapes

-- each cell holds exactly one thing
abbrev pub content_rules : Cell → List Rule
content_rules c = exactly_one (map (Kind c) contents)

-- a half of some direction stands on the cell
abbrev pub half_kinds : Cell → List Fact
half_kinds c = flat_map (λ half. map (holds c (shape.Half half)) dirs) halves

-- a belt of some direction stands on the cell
abbrev pub belt_kinds : Cell → List Fact
belt_kinds c = map (holds c shape.Belt) dirs

-- `HalfOn` says of a cell that it holds a half, and `BeltOn` that it holds a belt
abbrev pub shape_rules : Cell → List Rule
shape_rules c = equals_one (HalfOn c) (half_kinds c) ++ equals_one (BeltOn c) (belt_kinds c)

-- beside a half stands the other half of that direction
abbrev pub mate_rule : Rect → Cell → Half → Dir → Rule
mate_rule rect c half dir =
    rule (holds c (shape.Half half) dir ∷ [])
    (where_inside rect (mate half dir c) (holds (mate half dir c) (shape.Half (other_half half)) dir ∷ []))

-- halves stand side by side
abbrev pub mate_rules : Rect → Cell → List Rule
mate_rules rect c = flat_map (λ half. map (mate_rule rect c half) dirs) halves

-- exactly parts have a class, no more than one, and a half has that of a splitter
abbrev pub class_rules : LayoutRequest → Cell → List Rule
class_rules r c = some_of (Kind c Empty ∷ map (Carries c) (classes_of r))
    ∷ at_most_one (map (Carries c) (classes_of r))
    ++ map (λ k. not_all (Kind c Empty ∷ Carries c k ∷ [])) (classes_of r)
    ++ map (λ k. not_all (HalfOn c ∷ Carries c k ∷ [])) (input_classes r)
