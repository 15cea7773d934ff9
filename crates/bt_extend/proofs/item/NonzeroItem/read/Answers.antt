use Rattle.bt_extend.proofs.FormTexts.{no_nonzero, zero_read}
use Rattle.bt_extend.proofs.item.NonzeroItem.read.Goals as goal

pub returns-in_default-clause-none : goal.returns-in_default-clause-none
returns-in_default-clause-none c = no_nonzero c.args.bytes.now c.in_default.ensures.none

pub returns-then-numerator-eq0-clause-none : goal.returns-then-numerator-eq0-clause-none
returns-then-numerator-eq0-clause-none c =
    zero_read c.args.bytes.now c.in-Some.fraction c.numerator.result c.in-Some.ensures.lowest c.in-Some.ensures.some c.numerator.ensures.value c.if-numerator-eq0.true
