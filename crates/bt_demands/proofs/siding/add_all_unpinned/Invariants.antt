use Rattle.std.proofs.Common.{◌≡◌, ◌++◌, take}
use Rattle.std.specs.List.{flat_map}
use Rattle.bt_demands.specs.Pinning as pinning
use Rattle.bt_demands.proofs.siding.add_all_unpinned.Given as goal

abbrev pub invariant-loop-demand : goal.invariant-loop-demand
invariant-loop-demand l = l.draft ≡ l.initial.draft ++ flat_map (pinning.unpinned_rules l.output) (take l.demand-index l.demands)
