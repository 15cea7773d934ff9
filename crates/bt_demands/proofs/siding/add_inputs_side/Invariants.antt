use Rattle.std.proofs.Common.{◌≡◌, ◌++◌}
use Rattle.std.specs.List.{flat_map, range_with_len}
use Rattle.bt_net.specs.declared.network.End.TheVariants as end
use Rattle.bt_demands.specs.Pinning as pinning
use Rattle.bt_demands.proofs.siding.add_inputs_side.Given as goal

abbrev pub invariant-loop-input : goal.invariant-loop-input
invariant-loop-input l = l.draft ≡ l.initial.draft ++ flat_map (λ i. pinning.side_end_rules l.request l.dir (end.Input i)) (range_with_len 0 l.input)
