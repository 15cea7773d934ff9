use Rattle.std.proofs.Common.{◌≡◌, replicate, None}
use Rattle.bt_pivot.proofs.sum_cache.SumCache.restart.Given as goal

abbrev pub invariant-loop : goal.invariant-loop
invariant-loop l = l.self.sums.items ≡ replicate l.counter None
