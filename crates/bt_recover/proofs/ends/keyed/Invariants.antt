use Rattle.std.proofs.Common.{take}
use Rattle.bt_recover.specs.inner.Ends.{AreKeyed}
use Rattle.bt_recover.proofs.ends.keyed.Given as goal

abbrev pub invariant-loop-i : goal.invariant-loop-i
invariant-loop-i l = AreKeyed l.parts (take l.i-index l.indices) l.list.items
