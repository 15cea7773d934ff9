use Rattle.bt_recover.specs.inner.Marks.{AreMarks}
use Rattle.bt_recover.proofs.MarkLemmas.{HasStarts}
use Rattle.bt_recover.proofs.marks.first_on_ring.Given as goal

abbrev pub invariant-loop-i : goal.invariant-loop-i
invariant-loop-i l = record {
  are : AreMarks l.grid l.marks.items;
  starts : HasStarts l.grid l.marks.items l.i;
}
