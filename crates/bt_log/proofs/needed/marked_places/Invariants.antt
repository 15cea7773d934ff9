use Rattle.std.proofs.Common.{take}
use Rattle.bt_log.specs.inner.Needed.{AreThose}
use Rattle.bt_log.proofs.needed.marked_places.Given as goal

abbrev pub invariant-loop-place : goal.invariant-loop-place
invariant-loop-place l = AreThose (take l.place l.marks) l.places.items
