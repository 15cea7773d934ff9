use Rattle.std.proofs.Common.{◌≡◌, ◌∷◌, [], cond, take}
use Rattle.std.specs.List.{flat_map}
use Rattle.bt_net.specs.Network as network
use Rattle.bt_demands.proofs.plan.edges_from.Given as goal

abbrev pub invariant-loop-edge : goal.invariant-loop-edge
invariant-loop-edge l = l.found.items ≡ flat_map (λ e. cond (network.leaves l.splitter e) (e ∷ []) []) (take l.edge-index l.edges)
