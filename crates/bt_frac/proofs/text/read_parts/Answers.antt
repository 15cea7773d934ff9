use Rattle.std.proofs.Common.{inl, refl}
use Rattle.bt_frac.proofs.Words.{no_word_whole, none_around}
use Rattle.bt_frac.proofs.text.read_parts.Goals as goal

pub returns-in_err-read_whole-in-None-clause-none : goal.returns-in_err-read_whole-in-None-clause-none
returns-in_err-read_whole-in-None-clause-none c = rw c.from_residual.ensures (no_word_whole _ c.in-None.ensures.none c.in_err-read_whole-in-None.ensures.none)

pub returns-in-Some-clause-none : goal.returns-in-Some-clause-none
returns-in-Some-clause-none c = none_around _ _ _ c.read_both.result c.in-Some.ensures.some c.read_both.ensures.none

pub returns-in_ok-read_whole-in-None-clause-some : goal.returns-in_ok-read_whole-in-None-clause-some
returns-in_ok-read_whole-in-None-clause-some c =
    let read = c.in_ok-read_whole-in-None.ensures.some in
    (read.0, (1, inl (read.1, refl), read.2, refl))
