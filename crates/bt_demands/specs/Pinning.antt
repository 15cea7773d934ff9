-- Rules of pins, sides and rows, and of blocks.
use Rattle.std.specs.List.{range_with_len, flat_map, filter}
use Rattle.std.specs.Prelude.{ℕ, ◌==◌, Bool, true, false, not, ◌&&◌, List, [], ◌∷◌, ◌++◌, map, Option, Some, None, if◌then◌else◌}
use Rattle.bt_parts.specs.declared.part.Cell.{Cell}
use Rattle.bt_parts.specs.declared.part.Dir.{Dir}
use Rattle.bt_parts.specs.declared.part.Rect.{Rect}
use Rattle.bt_parts.specs.Cells.{step, opposite}
use Rattle.bt_net.specs.declared.network.Block.{Block}
use Rattle.bt_net.specs.declared.network.Demand.{Demand}
use Rattle.bt_net.specs.declared.network.Demand.TheVariants as demand
use Rattle.bt_net.specs.declared.network.Edge.{Edge}
use Rattle.bt_net.specs.declared.network.End.{End}
use Rattle.bt_net.specs.declared.network.End.TheVariants.{Input, Output}
use Rattle.bt_net.specs.declared.network.Ends.{Ends}
use Rattle.bt_net.specs.declared.network.Ends.TheVariants.{One, Inputs, Outputs}
use Rattle.bt_net.specs.declared.network.Pin.{Pin}
use Rattle.bt_net.specs.declared.network.Side.{Side}
use Rattle.bt_net.specs.Network.{is_input, is_output}
use Rattle.bt_model.specs.Requests.{LayoutRequest, pinned, blocked}
use Rattle.bt_facts.specs.declared.fact.Content.TheVariants.{Empty}
use Rattle.bt_facts.specs.declared.fact.Fact.{Fact}
use Rattle.bt_facts.specs.declared.fact.Class.{Class}
use Rattle.bt_facts.specs.declared.fact.Fact.TheVariants.{Kind, Carries, Begins, Stops}
use Rattle.bt_facts.specs.declared.fact.Shape.{Shape}
use Rattle.bt_facts.specs.declared.fact.Shape.TheVariants as shape
use Rattle.bt_demands.specs.Classes.{class_of}
use Rattle.bt_demands.specs.Rows.{row_rules}
use Rattle.bt_demands.specs.Enders.{enders}
use Rattle.bt_facts.specs.Facts.{holds}
use Rattle.bt_facts.specs.Rules.{Rule, rule, some_of, not_all}
use Rattle.bt_facts.specs.Spots.{others_than, border_of, where_outside}

-- the edge is that of this end
abbrev pub is_edge_of : End → Edge → Bool
is_edge_of (Input i) edge = is_input i edge
is_edge_of (Output o) edge = is_output o edge

-- the cell of a pin has the class of the edge of its end
abbrev pub pin_class_rules : LayoutRequest → Pin → List Rule
pin_class_rules r pin = map (λ edge. some_of (Carries (pinned pin) (class_of r.demands edge) ∷ [])) (filter (is_edge_of pin.end) r.net.edges)

-- an input begins on the cell, or an output ends there
abbrev pub end_facts : Rect → Cell → End → List Fact
end_facts rect c (Input i) = Begins c ∷ []
end_facts rect c (Output o) = enders rect c

-- the shapes of which the part of an end may be
abbrev pub end_shapes : End → List Shape
end_shapes (Input i) = shape.Belt ∷ shape.Entrance ∷ []
end_shapes (Output o) = shape.Belt ∷ shape.Exit ∷ []

-- the part of an end is turned no other way than this one, where there is one
abbrev pub turned_rules : Cell → End → Option Dir → List Rule
turned_rules c end None = []
turned_rules c end (Some dir) =
    flat_map (λ of. map (λ other. not_all (holds c of other ∷ [])) (others_than dir)) (end_shapes end)

-- a pinned end stands on its cell, turned as the pin says
abbrev pub pin_rules : LayoutRequest → Pin → List Rule
pin_rules r pin = pin_class_rules r pin ++ some_of (end_facts r.rect (pinned pin) pin.end) ∷ turned_rules (pinned pin) pin.end pin.dir

-- both are inputs, or both are outputs
abbrev pub same_kind : End → End → Bool
same_kind (Input i) (Input j) = true
same_kind (Output o) (Output p) = true
same_kind one other = false

-- the two pins put two inputs, or two outputs, on one cell
abbrev pub pins_clash : Pin → Pin → Bool
pins_clash one other = same_kind one.end other.end && (one.x == other.x) && (one.y == other.y)

-- the two lines do
abbrev pub clashes : Demand → Demand → Bool
clashes (demand.Pin one) (demand.Pin other) = pins_clash one other
clashes one other = false

-- no two lines clash: where two do, no layout is
abbrev pub clash_rules : List Demand → List Rule
clash_rules [] = []
clash_rules (d ∷ demands) = map (λ other. some_of []) (filter (clashes d) demands) ++ clash_rules demands

-- the classes of the edge of an end
abbrev pub end_classes : LayoutRequest → End → List Class
end_classes r e = map (class_of r.demands) (filter (is_edge_of e) r.net.edges)

-- no input of this class that begins on the cell is turned this way
abbrev pub not_begun : Class → Cell → Dir → List Rule
not_begun k c other =
    not_all (Begins c ∷ Carries c k ∷ holds c shape.Belt other ∷ []) ∷ not_all (Begins c ∷ Carries c k ∷ holds c shape.Entrance other ∷ []) ∷ []

-- inputs of this class begin on the border turned away from this side alone
abbrev pub begun_rules : Rect → Dir → Class → List Rule
begun_rules rect dir k = flat_map (λ c. flat_map (not_begun k c) (others_than (opposite dir))) (border_of rect)

-- where this output stops, a belt or an exit looks out across this side, with the class of the output's edge
abbrev pub stop_rules : LayoutRequest → Dir → ℕ → Cell → List Rule
stop_rules r dir o c =
    rule (Stops c o ∷ []) (where_outside r.rect (step dir c) (holds c shape.Belt dir ∷ holds c shape.Exit dir ∷ []))
    ∷ map (λ k. rule (Stops c o ∷ []) (Carries c k ∷ [])) (end_classes r (Output o))

-- no two outputs stop on one cell of the border
abbrev pub apart_rules : Rect → ℕ → ℕ → List Rule
apart_rules rect o other = map (λ c. not_all (Stops c o ∷ Stops c other ∷ [])) (border_of rect)

-- the end is another output than this one
abbrev pub pins_other : ℕ → End → Bool
pins_other o (Input i) = false
pins_other o (Output u) = not (u == o)

-- an output doesn't stop on the cell to which another one is pinned
abbrev pub unpinned_rules : ℕ → Demand → List Rule
unpinned_rules o (demand.Pin pin) = if pins_other o pin.end then not_all (Stops (pinned pin) o ∷ []) ∷ [] else []
unpinned_rules o (demand.Side side) = []
unpinned_rules o (demand.Row row) = []

-- an output stops on some cell of the border, across this side, where no other output does
abbrev pub output_rules : LayoutRequest → Dir → ℕ → List Rule
output_rules r dir o = some_of (map (λ c. Stops c o) (border_of r.rect)) ∷ flat_map (stop_rules r dir o) (border_of r.rect)
    ++ flat_map (apart_rules r.rect o) (range_with_len 0 o) ++ flat_map (unpinned_rules o) r.demands

-- an end stands at this side
abbrev pub side_end_rules : LayoutRequest → Dir → End → List Rule
side_end_rules r dir (Input i) = flat_map (begun_rules r.rect dir) (end_classes r (Input i))
side_end_rules r dir (Output o) = output_rules r dir o

-- the ends that are named
abbrev pub ends_named : LayoutRequest → Ends → List End
ends_named r (One e) = e ∷ []
ends_named r Inputs = map Input (range_with_len 0 r.net.inputs)
ends_named r Outputs = map Output (range_with_len 0 r.net.outputs)

-- the ends that are named stand at their side
abbrev pub side_rules : LayoutRequest → Side → List Rule
side_rules r side = flat_map (side_end_rules r side.dir) (ends_named r side.ends)

-- the ends stand where the line says
abbrev pub demand_rules : LayoutRequest → Demand → List Rule
demand_rules r (demand.Pin pin) = pin_rules r pin
demand_rules r (demand.Side side) = side_rules r side
demand_rules r (demand.Row row) = row_rules r row

-- a blocked cell holds nothing
abbrev pub block_rule : Block → Rule
block_rule block = some_of (Kind (blocked block) Empty ∷ [])
