use Rattle.std.proofs.Common.{◌≡◌, ◌++◌, take}
use Rattle.std.specs.List.{flat_map}
use Rattle.bt_demands.specs.Pinning as pinning
use Rattle.bt_demands.proofs.siding.add_begun.Given as goal

abbrev pub invariant-loop-cell : goal.invariant-loop-cell
invariant-loop-cell l = l.draft ≡ l.initial.draft ++ flat_map (λ x. flat_map (pinning.not_begun l.class x) l.others) (take l.cell-index l.border)
