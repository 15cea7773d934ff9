use Rattle.bt_pivot.specs.inner.SumCache.{LinesStay}
use Rattle.bt_pivot.proofs.Substitutions.{ArePartlySubstituted}
use Rattle.bt_pivot.proofs.pivoting.substitute.Given as goal

abbrev pub invariant-loop-i : goal.invariant-loop-i
invariant-loop-i l = record {
  partly : ArePartlySubstituted l.enters l.zero l.initial.slots l.slots l.i;
  stay : LinesStay l.tableau l.initial.slots l.slots l.initial.kept.sums.items l.kept.sums.items;
}
