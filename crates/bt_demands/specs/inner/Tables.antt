-- Tests of edges that are made of two.
use Rattle.std.specs.Prelude.{ℕ, Bool, ◌&&◌, ◌||◌, ◌==◌, List}
use Rattle.bt_net.specs.declared.network.Demand.{Demand}
use Rattle.bt_net.specs.declared.network.Edge.{Edge}
use Rattle.bt_net.specs.Network.{enters, is_input}
use Rattle.bt_model.specs.Requests.{LayoutRequest}
use Rattle.bt_facts.specs.declared.fact.Class.{Class}
use Rattle.bt_facts.specs.declared.fact.Class.TheVariants.{Split}
use Rattle.bt_demands.specs.Classes.{is_of, leads_out, goes_to}

-- the edge is of this class and goes to the splitter
abbrev pub goes_along : List Demand → Class → ℕ → Edge → Bool
goes_along demands k t edge = is_of demands k edge && enters t edge

-- the edge is of this class and ends at an output
abbrev pub goes_out : List Demand → Class → Edge → Bool
goes_out demands k edge = is_of demands k edge && leads_out edge

-- the edge is that of the input and ends at an output
abbrev pub passes : ℕ → Edge → Bool
passes i edge = is_input i edge && leads_out edge

-- the splitter is the other one, or some edge goes from the other one into it
abbrev pub goes_on : LayoutRequest → ℕ → ℕ → Bool
goes_on r s t = (t == s) || goes_to r (Split s) t
