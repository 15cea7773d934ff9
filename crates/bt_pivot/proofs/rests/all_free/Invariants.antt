use Rattle.std.proofs.Common.{◌≡◌, replicate, Some}
use Rattle.bt_pivot.specs.inner.Rests.{nowhere}
use Rattle.bt_pivot.proofs.rests.all_free.Given as goal

abbrev pub invariant-loop : goal.invariant-loop
invariant-loop l = l.rests.items ≡ replicate l.counter (Some nowhere)
