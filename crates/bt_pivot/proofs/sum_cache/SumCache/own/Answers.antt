use Rattle.std.proofs.Common.{arith}
use Rattle.bt_pivot.proofs.KeptSums.{owns_start, owns_more, owns_all}
use Rattle.bt_pivot.proofs.sum_cache.SumCache.own.Goals as goal

pub loop-class-init : goal.loop-class-init
loop-class-init c = owns_start c.args.members.now c.args.self.now.sums.items

pub loop-class-preserved : goal.loop-class-preserved
loop-class-preserved c =
    owns_more c.args.members.now c.loop-class.class c.args.self.now.sums.items c.loop-class.self.sums.items c.own_at.new.self.sums.items c.loop-class.invariant c.own_at.ensures

pub returns : goal.returns
returns c = owns_all c.args.members.now c.loop-class.class c.args.self.now.sums.items c.loop-class.self.sums.items (omega arith) c.loop-class.invariant
