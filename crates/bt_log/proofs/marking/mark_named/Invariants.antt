use Rattle.std.proofs.Common.{take}
use Rattle.bt_log.specs.inner.Marking.{MarksNamed}
use Rattle.bt_log.proofs.marking.mark_named.Given as goal

abbrev pub invariant-loop-hint : goal.invariant-loop-hint
invariant-loop-hint l = MarksNamed l.first (take l.hint-index l.hints) l.place l.fn.marks l.marks
