use Rattle.std.proofs.Common.{◌≡◌, ◌≤◌, length, min}
use Rattle.std.specs.Prelude.{take}
use Rattle.bt_watch.specs.Keeping.{AreTrue}
use Rattle.bt_watch.proofs.levels.unassign.Given as goal

abbrev pub invariant-loop-assignment : goal.invariant-loop-assignment
invariant-loop-assignment l = record {
  trail : l.assignment.trail.items ≡ take (length l.assignment.trail.items) l.fn.assignment.trail.items;
  enough : min l.size (length l.fn.assignment.trail.items) ≤ length l.assignment.trail.items;
  reasons : l.assignment.reasons ≡ l.fn.assignment.reasons;
  places : l.assignment.places ≡ l.fn.assignment.places;
  variables : length l.assignment.values ≡ length l.fn.assignment.values;
  truths : AreTrue l.assignment.values l.assignment.trail.items;
}

abbrev pub decreases-loop-assignment : goal.decreases-loop-assignment
decreases-loop-assignment l = length l.assignment.trail.items
