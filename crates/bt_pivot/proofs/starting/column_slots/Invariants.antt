use Rattle.std.proofs.Common.{◌≡◌, replicate, None}
use Rattle.bt_pivot.proofs.starting.column_slots.Given as goal

abbrev pub invariant-loop : goal.invariant-loop
invariant-loop l = l.basis ≡ replicate l.counter None
