-- The classes of a request's edges: from where they come.
use Rattle.std.specs.List.{range_with_len, list_any, flat_map, filter}
use Rattle.std.specs.Prelude.{ℕ, ◌==◌, Bool, true, false, ◌&&◌, ◌||◌, List, [], ◌∷◌, ◌++◌, map, Option, Some, None, if◌then◌else◌}
use Rattle.bt_parts.specs.declared.part.Dir.{Dir}
use Rattle.bt_parts.specs.declared.part.Dir.TheVariants.{North, East, South, West}
use Rattle.bt_net.specs.declared.network.Demand.{Demand}
use Rattle.bt_net.specs.declared.network.Demand.TheVariants as demand
use Rattle.bt_net.specs.declared.network.Edge.{Edge}
use Rattle.bt_net.specs.declared.network.End.{End}
use Rattle.bt_net.specs.declared.network.End.TheVariants as end
use Rattle.bt_net.specs.declared.network.Ends.{Ends}
use Rattle.bt_net.specs.declared.network.Ends.TheVariants.{One, Inputs, Outputs}
use Rattle.bt_net.specs.declared.network.Start.{Start}
use Rattle.bt_net.specs.declared.network.Start.TheVariants as from
use Rattle.bt_net.specs.declared.network.Target.{Target}
use Rattle.bt_net.specs.declared.network.Target.TheVariants as to
use Rattle.bt_net.specs.Network.{enters, is_input}
use Rattle.bt_model.specs.Requests.{LayoutRequest}
use Rattle.bt_facts.specs.declared.fact.Class.{Class}
use Rattle.bt_facts.specs.declared.fact.Class.TheVariants.{Split, Shared, Input}

-- the end is this input
abbrev pub is_end_input : ℕ → End → Bool
is_end_input i (end.Input k) = k == i
is_end_input i (end.Output o) = false

-- this input is pinned by the line
abbrev pub pins_input : ℕ → Demand → Bool
pins_input i (demand.Pin pin) = is_end_input i pin.end
pins_input i (demand.Side side) = false
pins_input i (demand.Row row) = false

-- this input is pinned
abbrev pub is_pinned : List Demand → ℕ → Bool
is_pinned demands i = list_any (pins_input i) demands

-- the two ends are one
abbrev pub same_end : End → End → Bool
same_end (end.Input i) (end.Input j) = i == j
same_end (end.Output o) (end.Output u) = o == u
same_end one other = false

-- the end is one of those that are named
abbrev pub names : Ends → End → Bool
names (One one) e = same_end e one
names Inputs (end.Input i) = true
names Inputs (end.Output o) = false
names Outputs (end.Input i) = false
names Outputs (end.Output o) = true

-- the side at which the end is to stand by this line, or else the one that others say
abbrev pub side_by : Demand → End → Option Dir → Option Dir
side_by (demand.Pin pin) e others = others
side_by (demand.Side side) e others = if names side.ends e then Some side.dir else others
side_by (demand.Row row) e others = others

-- the side at which the end is to stand
abbrev pub side_of : List Demand → End → Option Dir
side_of [] e = None
side_of (d ∷ demands) e = side_by d e (side_of demands e)

-- the class of an edge from the one to the other: that of the splitter which it leaves; where its input isn't pinned,
-- that of the splitter into which it goes and of the side at which its input is to stand; and else one of its own
abbrev pub class_between : List Demand → Start → Target → Class
class_between demands (from.Split s) target = Split s
class_between demands (from.Input i) (to.Split t) = if is_pinned demands i then Input i else Shared t (side_of demands (end.Input i))
class_between demands (from.Input i) (to.Output o) = Input i

-- the class of an edge
abbrev pub class_of : List Demand → Edge → Class
class_of demands edge = class_between demands edge.start edge.target

-- the two directions are one
abbrev pub same_dir : Dir → Dir → Bool
same_dir North North = true
same_dir East East = true
same_dir South South = true
same_dir West West = true
same_dir one other = false

-- both are the same side, or none
abbrev pub same_way : Option Dir → Option Dir → Bool
same_way None None = true
same_way (Some one) (Some other) = same_dir one other
same_way one other = false

-- the two classes are one
abbrev pub same_class : Class → Class → Bool
same_class (Split s) (Split t) = s == t
same_class (Shared s v) (Shared t w) = (s == t) && same_way v w
same_class (Input i) (Input j) = i == j
same_class k l = false

-- the edge is of this class
abbrev pub is_of : List Demand → Class → Edge → Bool
is_of demands k edge = same_class k (class_of demands edge)

-- the edge ends at an output
abbrev pub leads_out : Edge → Bool
leads_out edge = at_target edge.target
  where
    at_target : Target → Bool
    at_target (to.Split t) = false
    at_target (to.Output o) = true

-- some edge is of this class
abbrev pub occurs : LayoutRequest → Class → Bool
occurs r k = list_any (is_of r.demands k) r.net.edges

-- some edge of this class goes into this splitter
abbrev pub goes_to : LayoutRequest → Class → ℕ → Bool
goes_to r k t = list_any (λ edge. is_of r.demands k edge && enters t edge) r.net.edges

-- some edge of this class ends at an output
abbrev pub ends_out : LayoutRequest → Class → Bool
ends_out r k = list_any (λ edge. is_of r.demands k edge && leads_out edge) r.net.edges

-- the edge of this input ends at an output
abbrev pub is_through : LayoutRequest → ℕ → Bool
is_through r i = list_any (λ edge. is_input i edge && leads_out edge) r.net.edges

-- the numbers of the splitters
abbrev pub splitters_of : LayoutRequest → List ℕ
splitters_of r = range_with_len 0 r.net.splitters

-- no side, and each of the four
abbrev pub ways : List (Option Dir)
ways = None ∷ Some North ∷ Some East ∷ Some South ∷ Some West ∷ []

-- the classes that edges from inputs into one splitter may have, but for those of single inputs
abbrev pub shared_into : ℕ → List Class
shared_into t = map (Shared t) ways

-- the classes that edges from inputs may have
abbrev pub from_inputs : LayoutRequest → List Class
from_inputs r = flat_map shared_into (splitters_of r) ++ map Input (range_with_len 0 r.net.inputs)

-- the classes of edges from inputs
abbrev pub input_classes : LayoutRequest → List Class
input_classes r = filter (occurs r) (from_inputs r)

-- the classes: those of the splitters, and those of edges from inputs
abbrev pub classes_of : LayoutRequest → List Class
classes_of r = map Split (splitters_of r) ++ input_classes r

-- the splitters into which edges of this class go
abbrev pub goals : LayoutRequest → Class → List ℕ
goals r k = filter (goes_to r k) (splitters_of r)

-- the classes of which edges go into this splitter
abbrev pub sources : LayoutRequest → ℕ → List Class
sources r t = filter (λ k. goes_to r k t) (classes_of r)

-- the splitter itself, and those into which its edges go
abbrev pub onward : LayoutRequest → ℕ → List ℕ
onward r s = filter (λ t. (t == s) || goes_to r (Split s) t) (splitters_of r)

-- the classes of the edges into this splitter, one for each edge in their order
abbrev pub classes_into : LayoutRequest → ℕ → List Class
classes_into r t = map (class_of r.demands) (filter (enters t) r.net.edges)
