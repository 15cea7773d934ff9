use Rattle.std.proofs.Common.{◌≡◌}
use Rattle.std.specs.List.{filter, range_with_len}
use Rattle.bt_demands.specs.Classes as classing
use Rattle.bt_demands.proofs.plan.goals.Given as goal

abbrev pub invariant-loop-splitter : goal.invariant-loop-splitter
invariant-loop-splitter l = l.found.items ≡ filter (classing.goes_to l.request l.class) (range_with_len 0 l.splitter)
