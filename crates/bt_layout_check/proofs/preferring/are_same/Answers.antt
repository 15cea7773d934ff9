use Rattle.std.proofs.Common.{refl, arith}
use Rattle.std.proofs.lemmas.List.{ext_get_or}
use Rattle.bt_layout_check.specs.inner.Marks.{no_mark}
use Rattle.bt_layout_check.proofs.preferring.are_same.Goals as goal

pub returns : goal.returns
returns c =
    let ended = c.loop-k-test.false in
    let long = c.if-one-other.false in (
      λ t. ext_get_or no_mark c.args.one.now c.args.other.now (omega (arith, long)) (λ i l. c.loop-k.invariant i (omega (arith, l, ended))),
      λ e. refl,
    )
