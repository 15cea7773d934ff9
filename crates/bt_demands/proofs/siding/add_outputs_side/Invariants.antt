use Rattle.std.proofs.Common.{◌≡◌, ◌++◌}
use Rattle.std.specs.List.{flat_map, range_with_len}
use Rattle.bt_net.specs.declared.network.End.TheVariants as end
use Rattle.bt_demands.specs.Pinning as pinning
use Rattle.bt_demands.proofs.siding.add_outputs_side.Given as goal

abbrev pub invariant-loop-output : goal.invariant-loop-output
invariant-loop-output l = l.draft ≡ l.initial.draft ++ flat_map (λ o. pinning.side_end_rules l.request l.dir (end.Output o)) (range_with_len 0 l.output)
