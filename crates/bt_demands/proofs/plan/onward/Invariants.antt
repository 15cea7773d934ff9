use Rattle.std.proofs.Common.{◌≡◌}
use Rattle.std.specs.List.{filter, range_with_len}
use Rattle.bt_demands.specs.inner.Tables as tables
use Rattle.bt_demands.proofs.plan.onward.Given as goal

abbrev pub invariant-loop-splitter : goal.invariant-loop-splitter
invariant-loop-splitter l = l.found.items ≡ filter (tables.goes_on l.request l.from) (range_with_len 0 l.splitter)
