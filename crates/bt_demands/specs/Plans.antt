-- What the rules of a request need to know of its network, worked out once.
use Rattle.std.specs.List.{AllByRecursion, filter}
use Rattle.std.specs.Prelude.{◌≡◌, not, map}
use Rattle.bt_net.specs.Network.{leaves}
use Rattle.bt_model.specs.Requests.{LayoutRequest, IsRequest}
use Rattle.bt_demands.specs.declared.plan.Gate.{Gate}
use Rattle.bt_demands.specs.declared.plan.Plan.{Plan}
use Rattle.bt_demands.specs.declared.plan.Way.{Way}
use Rattle.bt_demands.specs.Classes.{classes_of, input_classes, splitters_of, goals, sources, onward, classes_into, ends_out}

-- the way of a class
abbrev pub IsWay : LayoutRequest → Way → Type 0
IsWay r way = way.goals.items ≡ goals r way.class

-- the gate of a splitter
pub record IsGate (r : LayoutRequest) (gate : Gate) : Type 0 where
  pub sources : gate.sources.items ≡ sources r gate.splitter
  pub onward : gate.onward.items ≡ onward r gate.splitter
  pub into : gate.into.items ≡ classes_into r gate.splitter
  pub leaving : gate.leaving.items ≡ filter (leaves gate.splitter) r.net.edges

-- the plan of a request: its classes, those of inputs and those that must stay within the rectangle, the way of each
-- class and the gate of each splitter
pub record IsPlan (r : LayoutRequest) (plan : Plan) : Type 0 where
  pub is_request : IsRequest r
  pub classes : plan.classes.items ≡ classes_of r
  pub inputs : plan.inputs.items ≡ input_classes r
  pub kept : plan.kept.items ≡ filter (λ k. not (ends_out r k)) (classes_of r)
  pub ways_of : map (λ w. w.class) plan.ways.items ≡ classes_of r
  pub ways : AllByRecursion (IsWay r) plan.ways.items
  pub gates_of : map (λ g. g.splitter) plan.gates.items ≡ splitters_of r
  pub gates : AllByRecursion (IsGate r) plan.gates.items
