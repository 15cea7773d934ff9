use Rattle.bt_pivot.proofs.KeptSums.{OwnsBefore}
use Rattle.bt_pivot.proofs.sum_cache.SumCache.own.Given as goal

abbrev pub invariant-loop-class : goal.invariant-loop-class
invariant-loop-class l = OwnsBefore l.members l.class l.initial.self.sums.items l.self.sums.items
