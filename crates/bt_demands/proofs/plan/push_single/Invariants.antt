use Rattle.std.proofs.Common.{◌≡◌, ◌++◌, map}
use Rattle.std.specs.List.{filter, range_with_len}
use Rattle.bt_demands.specs.Classes as classing
use Rattle.bt_facts.specs.declared.fact.Class.TheVariants as class
use Rattle.bt_demands.proofs.plan.push_single.Given as goal

abbrev pub invariant-loop-input : goal.invariant-loop-input
invariant-loop-input l = l.found.items ≡ l.initial.found.items ++ filter (classing.occurs l.request) (map class.Input (range_with_len 0 l.input))
