use Rattle.std.proofs.Common.{◌∙◌, arith}
use Rattle.bt_frac.proofs.Numerals.{Spells-decimal}
use Rattle.bt_net.proofs.Spelling.{small_number, large_number}
use Rattle.bt_net.proofs.words.read_number.Goals as goal

pub returns-in_err-read_whole-clause-none : goal.returns-in_err-read_whole-clause-none
returns-in_err-read_whole-clause-none c =
    rw c.from_residual.ensures (λ n small is. c.in_err-read_whole.ensures.none n (rw (← is) at (Spells-decimal n (omega arith))))

pub returns-in-Err-clause-none : goal.returns-in-Err-clause-none
returns-in-Err-clause-none c = λ n small is.
    let spelled = c.in_ok-read_whole.ensures.some in
    large_number c.args.word.now c.in_ok-read_whole.field-0 spelled.0 n spelled.1 spelled.2 (omega (arith, c.in-Err.ensures)) small is

pub returns-in-Ok-clause-some : goal.returns-in-Ok-clause-some
returns-in-Ok-clause-some c =
    let spelled = c.in_ok-read_whole.ensures.some in
    small_number c.args.word.now c.in-Ok.number spelled.0 spelled.1 (c.in-Ok.ensures.1 ∙ spelled.2) (omega (arith, c.in-Ok.ensures.0, c.in-Ok.ensures.1))
