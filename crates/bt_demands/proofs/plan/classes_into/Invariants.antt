use Rattle.std.proofs.Common.{◌≡◌, ◌∷◌, [], cond, take}
use Rattle.std.specs.List.{flat_map}
use Rattle.bt_demands.specs.Classes as classing
use Rattle.bt_net.specs.Network as network
use Rattle.bt_demands.proofs.plan.classes_into.Given as goal

abbrev pub invariant-loop-edge : goal.invariant-loop-edge
invariant-loop-edge l = l.found.items ≡ flat_map (λ e. cond (network.enters l.splitter e) (classing.class_of l.demands e ∷ []) []) (take l.edge-index l.edges)
