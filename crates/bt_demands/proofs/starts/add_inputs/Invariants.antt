use Rattle.std.proofs.Common.{◌≡◌, ◌++◌}
use Rattle.std.specs.List.{flat_map, range_with_len}
use Rattle.bt_demands.specs.Starts as starts
use Rattle.bt_demands.proofs.starts.add_inputs.Given as goal

abbrev pub invariant-loop-input : goal.invariant-loop-input
invariant-loop-input l = l.draft ≡ l.initial.draft ++ flat_map (starts.input_rules l.request) (range_with_len 0 l.input)
