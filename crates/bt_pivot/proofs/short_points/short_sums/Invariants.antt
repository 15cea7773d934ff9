use Rattle.bt_pivot.proofs.ShortPoints.{AreSums}
use Rattle.bt_pivot.proofs.short_points.short_sums.Given as goal

abbrev pub invariant-loop-entry : goal.invariant-loop-entry
invariant-loop-entry l = AreSums l.tableau l.under l.line l.entry-index l.sums
