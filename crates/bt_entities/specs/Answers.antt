-- The right answer to the JSON value of a text.
use Rattle.std.specs.Prelude.{List, Vec, Result, Ok, Err}
use Rattle.std.specs.declared.alloc.Global.{Global}
use Rattle.bt_json.specs.Json.{Json}
use Rattle.bt_parts.specs.declared.hand.Priority.{Priority}
use Rattle.bt_parts.specs.declared.part.Part.{Part}
use Rattle.bt_parts.specs.Layouts.{AreInRange}
use Rattle.bt_entities.specs.declared.fault.EntityFault.{EntityFault}
use Rattle.bt_entities.specs.declared.fault.Member.{Member}
use Rattle.bt_entities.specs.declared.blueprint.Prioritised.{Prioritised}
use Rattle.bt_entities.specs.Entities.{special_in_designs, special_in_layouts}
use Rattle.bt_entities.specs.Blueprints.{IsBlueprintOf, HavePriorities}
use Rattle.bt_entities.specs.Refusals.{IsRefused}

-- the parts in a vector
abbrev pub parts_in : Vec Part Global → List Part
parts_in v = v.items

-- the parts and the priorities of the entities
abbrev pub parts_and_priorities_in : Prioritised → List Part × List Priority
parts_and_priorities_in read = (read.parts.items, read.priorities.items)

-- the root is a blueprint of these parts, whose coordinates are in range, and of which no splitter prefers a side; or
-- it is refused with this fault
abbrev pub IsPartsOf : Json → Result (List Part) EntityFault → Type 0
IsPartsOf root (Ok parts) = IsBlueprintOf special_in_layouts root parts × AreInRange parts
IsPartsOf root (Err fault) = IsRefused special_in_layouts root fault

-- the root is a blueprint of these parts, whose coordinates are in range, its entities have these priorities, and none
-- of these members of them is special; or it is refused with this fault
abbrev pub IsReadOf : List Member → Json → Result (List Part × List Priority) EntityFault → Type 0
IsReadOf members root (Ok read) = IsBlueprintOf members root read.0 × HavePriorities root read.1 × AreInRange read.0
IsReadOf members root (Err fault) = IsRefused members root fault

-- the root is a blueprint of these parts with these priorities, or it is refused with this fault
abbrev pub IsPrioritisedOf : Json → Result (List Part × List Priority) EntityFault → Type 0
IsPrioritisedOf root = IsReadOf special_in_designs root
