use Rattle.std.proofs.Common.{arith}
use Rattle.bt_layout_check.proofs.Gone.{none_further}
use Rattle.bt_layout_check.proofs.finding.+gone_on.Goals as goal

pub returns : goal.returns
returns t c =
    let some = c.if-left-eq0.false in
    let ended = c.loop-part-test.false in
    none_further c.args.parts.now c.args.request.now c.args.bearers.now c.args.left (omega (arith, some)) (λ p lt. c.loop-part.invariant p (omega (arith, lt, ended)))
