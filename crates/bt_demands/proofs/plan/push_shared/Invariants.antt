use Rattle.std.proofs.Common.{◌≡◌, ◌++◌}
use Rattle.std.specs.List.{filter, flat_map, range_with_len}
use Rattle.bt_demands.specs.Classes as classing
use Rattle.bt_demands.proofs.plan.push_shared.Given as goal

abbrev pub invariant-loop-splitter : goal.invariant-loop-splitter
invariant-loop-splitter l = l.found.items ≡ l.initial.found.items ++ filter (classing.occurs l.request) (flat_map classing.shared_into (range_with_len 0 l.splitter))
