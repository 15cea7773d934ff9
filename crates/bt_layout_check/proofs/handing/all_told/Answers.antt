use Rattle.bt_layout_check.proofs.Halves.{told_more}
use Rattle.bt_layout_check.proofs.handing.all_told.Goals as goal

pub loop-index-preserved : goal.loop-index-preserved
loop-index-preserved c =
    told_more c.args.parts.now c.args.halves.now c.args.wishes.now c.loop-index.priorities.items c.push.new.self.items c.loop-index.index _ c.priority_at.result
    c.loop-index.invariant.0 c.loop-index.invariant.1 c.loop-index-test.true c.priority_at.ensures c.in_ok-push.ensures.items
