use Rattle.std.proofs.Common.{◌≡◌, ◌++◌, length}
use Rattle.bt_demands.specs.Pinning.{clash_rules}
use Rattle.bt_demands.proofs.pinning.add_clashes.Given as goal

abbrev pub invariant-loop-demand : goal.invariant-loop-demand
invariant-loop-demand l = l.draft ++ clash_rules l.rest ≡ l.initial.draft ++ clash_rules l.demands

abbrev pub decreases-loop-demand : goal.decreases-loop-demand
decreases-loop-demand l = length l.rest
