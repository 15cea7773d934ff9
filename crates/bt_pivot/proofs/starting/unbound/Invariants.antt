use Rattle.std.proofs.Common.{◌≡◌, replicate, false}
use Rattle.bt_pivot.proofs.starting.unbound.Given as goal

abbrev pub invariant-loop : goal.invariant-loop
invariant-loop l = l.bound.items ≡ replicate l.counter false
