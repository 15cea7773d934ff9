use Rattle.std.proofs.Common.{◌≡◌, ◌++◌, take}
use Rattle.std.specs.List.{flat_map}
use Rattle.bt_demands.specs.Pinning as pinning
use Rattle.bt_demands.proofs.siding.add_none_begun.Given as goal

abbrev pub invariant-loop-other : goal.invariant-loop-other
invariant-loop-other l = l.draft ≡ l.initial.draft ++ flat_map (pinning.not_begun l.class l.cell) (take l.other-index l.others)
