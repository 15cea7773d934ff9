use Rattle.std.proofs.Common.{arith}
use Rattle.bt_layout.proofs.Ascending.{above_more}
use Rattle.bt_layout.proofs.tested.are_in_order.Goals as goal

pub loop-k-init : goal.loop-k-init
loop-k-init c = λ i j d lt below. absurd (omega (arith, lt, below))

pub loop-k-preserved : goal.loop-k-preserved
loop-k-preserved c =
    let some = c.loop-k.auto.k in
    above_more c.args.parts.now c.loop-k.k _ _ c.loop-k.invariant (omega (arith, some)) c.loop-k-test.true (c.comes_above.ensures.0 c.if-not-comes_above.false)

pub returns : goal.returns
returns c = λ t i j d lt within. let ended = c.loop-k-test.false in c.loop-k.invariant i j d lt (omega (arith, within, ended))
