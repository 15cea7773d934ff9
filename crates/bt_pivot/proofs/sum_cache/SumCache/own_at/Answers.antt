use Rattle.bt_pivot.proofs.KeptSums.{own_none, own_forgets}
use Rattle.bt_pivot.proofs.sum_cache.SumCache.own_at.Goals as goal

pub returns-then-is_own : goal.returns-then-is_own
returns-then-is_own c = own_none c.args.members.now c.args.self.now.sums.items c.args.class c.at.result c.at.ensures (c.is_own.ensures c.if-is_own.true)

pub returns : goal.returns
returns c = own_forgets c.args.members.now c.args.self.now.sums.items c.forget.new.self.sums.items c.args.class c.forget.ensures
