use Rattle.std.proofs.Common.{◌≡◌, length}
use Rattle.bt_demands.specs.Classes as classing
use Rattle.bt_demands.proofs.classes.side_of.Given as goal

abbrev pub invariant-loop-demand : goal.invariant-loop-demand
invariant-loop-demand l = classing.side_of l.rest l.end ≡ classing.side_of l.demands l.end

abbrev pub decreases-loop-demand : goal.decreases-loop-demand
decreases-loop-demand l = length l.rest
