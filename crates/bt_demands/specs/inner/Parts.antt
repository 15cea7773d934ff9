-- Parts of lists of rules of ends that are added together.
use Rattle.std.specs.List.{flat_map}
use Rattle.std.specs.Prelude.{ℕ, List, [], ◌∷◌, map, if◌then◌else◌}
use Rattle.bt_parts.specs.declared.part.Cell.{Cell}
use Rattle.bt_parts.specs.declared.part.Dir.{Dir}
use Rattle.bt_parts.specs.declared.part.Rect.{Rect}
use Rattle.bt_parts.specs.Cells.{step, opposite}
use Rattle.bt_net.specs.declared.network.Edge.{Edge}
use Rattle.bt_net.specs.declared.network.End.{End}
use Rattle.bt_model.specs.Requests.{LayoutRequest}
use Rattle.bt_facts.specs.declared.fact.Class.{Class}
use Rattle.bt_facts.specs.declared.fact.Fact.{Fact}
use Rattle.bt_facts.specs.declared.fact.Fact.TheVariants.{Carries, Stops}
use Rattle.bt_facts.specs.declared.fact.Shape.TheVariants as shape
use Rattle.bt_demands.specs.Classes.{class_of}
use Rattle.bt_facts.specs.Facts.{holds}
use Rattle.bt_demands.specs.Pinning.{is_edge_of, not_begun}
use Rattle.bt_facts.specs.Rules.{Rule, rule}
use Rattle.bt_facts.specs.Spots.{others_than, where_outside}

-- a belt and an exit so turned, where what is in front of them is outside
abbrev pub enders_towards : Rect → Cell → Dir → List Fact
enders_towards rect c dir = where_outside rect (step dir c) (holds c shape.Belt dir ∷ holds c shape.Exit dir ∷ [])

-- the class of the edge, where it is that of this end
abbrev pub end_class : LayoutRequest → End → Edge → List Class
end_class r e edge = if is_edge_of e edge then class_of r.demands edge ∷ [] else []

-- inputs of this class begin on these cells turned away from this side alone
abbrev pub begun_on : Dir → Class → List Cell → List Rule
begun_on dir k cells = flat_map (λ c. flat_map (not_begun k c) (others_than (opposite dir))) cells

-- what stands on the cell where the output, whose edge has these classes, stops there
abbrev pub stop_part_rules : Rect → Dir → ℕ → List Class → Cell → List Rule
stop_part_rules rect dir o classes c = rule (Stops c o ∷ []) (enders_towards rect c dir) ∷ map (λ k. rule (Stops c o ∷ []) (Carries c k ∷ [])) classes
