use Rattle.std.proofs.Common.{◌≤◌, length}
use Rattle.bt_log.specs.inner.Marking.{AreMarked}
use Rattle.bt_log.proofs.marking.mark_all.Given as goal

abbrev pub invariant-loop-place : goal.invariant-loop-place
invariant-loop-place l = record { within : l.place ≤ length l.log.steps; are : AreMarked l.log l.place l.marks }

abbrev pub decreases-loop-place : goal.decreases-loop-place
decreases-loop-place l = l.place
