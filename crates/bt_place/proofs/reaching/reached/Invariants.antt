use Rattle.bt_place.specs.inner.Reaching.{AreMarks, HasStarts}
use Rattle.bt_place.proofs.reaching.reached.Given as goal

abbrev pub invariant-loop-i : goal.invariant-loop-i
invariant-loop-i l = record {
  are : AreMarks l.reading l.marks.items;
  starts : HasStarts l.reading l.marks.items l.i;
}
