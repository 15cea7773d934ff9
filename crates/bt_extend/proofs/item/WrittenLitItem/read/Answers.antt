use Rattle.bt_extend.proofs.Numbers.{lit_read, no_lit_read}
use Rattle.bt_extend.proofs.item.WrittenLitItem.read.Goals as goal

pub returns-in-Some-clause-some : goal.returns-in-Some-clause-some
returns-in-Some-clause-some c =
    (c.in-Some.ensures.some.0, lit_read c.args.bytes.now c.split_sign-negative.result.1.now c.split_sign-negative.result.0 c.in-Some.number c.split_sign-negative.ensures.signed c.in-Some.ensures.some.1)

pub returns-in-None-clause-none : goal.returns-in-None-clause-none
returns-in-None-clause-none c =
    no_lit_read c.args.bytes.now c.split_sign-negative.result.1.now c.split_sign-negative.result.0 c.split_sign-negative.ensures.signed c.split_sign-negative.ensures.minus c.in-None.ensures.none
