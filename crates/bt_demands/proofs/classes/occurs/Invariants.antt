use Rattle.std.proofs.Common.{◌≡◌, take, false}
use Rattle.std.specs.List.{list_any}
use Rattle.bt_demands.specs.Classes as classing
use Rattle.bt_demands.proofs.classes.occurs.Given as goal

abbrev pub invariant-loop-edge : goal.invariant-loop-edge
invariant-loop-edge l = list_any (classing.is_of l.demands l.class) (take l.edge-index l.edges) ≡ false
