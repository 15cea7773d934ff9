use Rattle.bt_frac.proofs.Words.{some_is, none_is, no_word}
use Rattle.bt_frac.proofs.frac.Frac.read.Goals as goal

pub returns-in_default-clause-none : goal.returns-in_default-clause-none
returns-in_default-clause-none c = no_word _ _ _ c.split_sign-negative.ensures.signed c.split_sign-negative.ensures.minus c.in_default.ensures.none

pub returns-clause-some : goal.returns-clause-some
returns-clause-some c = some_is _ _ _ _ _ c.from_parts.result c.split_sign-negative.ensures.signed c.in-Some.ensures.some c.from_parts.ensures.some c.from_parts.ensures.lowest

pub returns-clause-none : goal.returns-clause-none
returns-clause-none c = none_is _ _ _ _ _ c.from_parts.result c.split_sign-negative.ensures.signed c.split_sign-negative.ensures.minus c.in-Some.ensures.some c.from_parts.ensures.none
