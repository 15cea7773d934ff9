use Rattle.std.proofs.Common.{refl, arith}
use Rattle.bt_frac.specs.Values.{nothing}
use Rattle.bt_same.proofs.Lists.{same_items}
use Rattle.bt_same.proofs.comparing.are_same.Goals as goal

pub returns : goal.returns
returns c =
    let ended = c.loop-place-test.false in
    let long = c.if-left-right.false in (
      λ t. same_items nothing c.args.left.now c.args.right.now (omega (arith, long)) (λ i l. c.loop-place.invariant i (omega (arith, l, ended))),
      λ e. refl,
    )
