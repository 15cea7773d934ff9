use Rattle.std.proofs.Common.{arith}
use Rattle.bt_layout_check.specs.inner.Rows.{IsNextTo}
use Rattle.bt_layout_check.proofs.InRows.{line_more}
use Rattle.bt_layout_check.proofs.rows.are_in_line.Goals as goal

pub loop-k-preserved : goal.loop-k-preserved
loop-k-preserved c =
    let some = c.loop-k.auto.k in
    line_more (IsNextTo c.args.parts.now c.args.dir) c.args.indices.now c.loop-k.k _ _ c.loop-k.invariant (omega (arith, some)) c.loop-k-test.true
    (c.is_next.ensures.0 c.if-not-is_next.false)
