use Rattle.std.proofs.Common.{◌≤◌, ◌-◌, length}
use Rattle.bt_pivot.specs.Tableaus.{with_slots}
use Rattle.bt_pivot.specs.Sums.{AreKept}
use Rattle.bt_simplex.specs.inner.Runs.{IsAt}
use Rattle.bt_simplex.proofs.running.pivoted_from.Given as goal

abbrev pub invariant-steps : goal.invariant-steps
invariant-steps l = record {
  is_at : IsAt (with_slots l.tableau l.fn.work.basis) l.steps.items l.work.basis;
  kept : AreKept l.tableau l.work.basis l.work.kept.sums.items;
  few : length l.steps.items ≤ l.pivots;
}

abbrev pub decreases-steps : goal.decreases-steps
decreases-steps l = l.pivots - length l.steps.items
