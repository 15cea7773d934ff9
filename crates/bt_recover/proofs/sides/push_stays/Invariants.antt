use Rattle.std.specs.Prelude.{take}
use Rattle.bt_recover.specs.inner.Staying.{AddsStays}
use Rattle.bt_recover.proofs.sides.push_stays.Given as goal

-- what there is of the ends so far was put behind the rest
abbrev pub invariant-loop-number : goal.invariant-loop-number
invariant-loop-number l = AddsStays l.grid l.kind (take l.number l.indices) l.initial.stays.items l.stays.items
