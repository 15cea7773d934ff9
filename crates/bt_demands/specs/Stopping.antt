-- Outputs of which it is said where they stop.
use Rattle.std.specs.Prelude.{ℕ, Bool, true, false, if◌then◌else◌}
use Rattle.std.specs.List.{list_any}
use Rattle.bt_net.specs.declared.network.Demand.{Demand}
use Rattle.bt_net.specs.declared.network.Demand.TheVariants as demand
use Rattle.bt_net.specs.declared.network.End.TheVariants as end
use Rattle.bt_net.specs.declared.network.Ends.{Ends}
use Rattle.bt_net.specs.declared.network.Ends.TheVariants.{One, Inputs, Outputs}
use Rattle.bt_model.specs.Requests.{LayoutRequest}

-- outputs are named
abbrev pub has_outputs : Ends → Bool
has_outputs (One (end.Input i)) = false
has_outputs (One (end.Output o)) = true
has_outputs Inputs = false
has_outputs Outputs = true

-- the line says of outputs at which side they are to stand
abbrev pub sides_outputs : Demand → Bool
sides_outputs (demand.Pin pin) = false
sides_outputs (demand.Side side) = has_outputs side.ends
sides_outputs (demand.Row row) = false

-- the number of outputs, where some are to stand at a side
abbrev pub stopping : LayoutRequest → ℕ
stopping r = if list_any sides_outputs r.demands then r.net.outputs else 0
