use Rattle.std.proofs.Common.{◌≡◌, take, false}
use Rattle.std.specs.List.{list_any}
use Rattle.bt_demands.specs.Stopping as stops
use Rattle.bt_demands.proofs.siding.some_sides_outputs.Given as goal

abbrev pub invariant-loop-demand : goal.invariant-loop-demand
invariant-loop-demand l = list_any stops.sides_outputs (take l.demand-index l.demands) ≡ false
