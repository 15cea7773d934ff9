use Rattle.std.proofs.Common.{length}
use Rattle.bt_gen.specs.inner.WishReading.{LeadsTo}
use Rattle.bt_gen.proofs.wish.Wish.named.Given as goal

abbrev pub invariant-loop-name : goal.invariant-loop-name
invariant-loop-name l = LeadsTo l.fn.word l.wish l.rest

abbrev pub decreases-loop-name : goal.decreases-loop-name
decreases-loop-name l = length l.rest
