use Rattle.std.proofs.Common.{◌≡◌}
use Rattle.bt_net.specs.Network.{none_each}
use Rattle.bt_net.proofs.priority.none_each.Given as goal

-- so many have none so far
abbrev pub invariant-loop : goal.invariant-loop
invariant-loop l = l.edges.items ≡ none_each l.counter
