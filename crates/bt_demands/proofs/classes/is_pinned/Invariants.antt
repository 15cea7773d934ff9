use Rattle.std.proofs.Common.{◌≡◌, take, false}
use Rattle.std.specs.List.{list_any}
use Rattle.bt_demands.specs.Classes as classing
use Rattle.bt_demands.proofs.classes.is_pinned.Given as goal

abbrev pub invariant-loop-demand : goal.invariant-loop-demand
invariant-loop-demand l = list_any (classing.pins_input l.input) (take l.demand-index l.demands) ≡ false
