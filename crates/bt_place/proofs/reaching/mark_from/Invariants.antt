use Rattle.std.proofs.Common.{count_by, not}
use Rattle.bt_place.proofs.Marking.{IsMarking}
use Rattle.bt_place.proofs.reaching.mark_from.Given as goal

abbrev pub invariant-loop-marks : goal.invariant-loop-marks
invariant-loop-marks l = IsMarking l.reading l.initial.marks.items l.marks.items l.start l.i

abbrev pub decreases-loop-marks : goal.decreases-loop-marks
decreases-loop-marks l = count_by not l.marks.items
