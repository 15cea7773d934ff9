use Rattle.std.proofs.Common.{arith}
use Rattle.std.proofs.lemmas.Grind.{common_steps}
use Rattle.bt_extend.proofs.Numbers.{number_word, some_number, none_number}
use Rattle.bt_extend.proofs.item.read_number.Goals as goal

pub returns-then-is_empty-clause-none : goal.returns-then-is_empty-clause-none
returns-then-is_empty-clause-none c = λ n is e.
    let w = number_word c.args.word.now n is e in
    let some = w.some in grind (arith, common_steps)

pub returns-then-word-eq48-clause-none : goal.returns-then-word-eq48-clause-none
returns-then-word-eq48-clause-none c = λ n is e. (number_word c.args.word.now n is e).no_zero c.if-word-eq48.true

pub returns-then-word-gt-MOST_DIGITS-clause-none : goal.returns-then-word-gt-MOST_DIGITS-clause-none
returns-then-word-gt-MOST_DIGITS-clause-none c = λ n is e.
    let w = number_word c.args.word.now n is e in
    let short = w.short in omega arith

pub returns-clause-some : goal.returns-clause-some
returns-clause-some c =
    some_number c.args.word.now c.read_digits.result (grind (arith, common_steps)) c.if-word-eq48.false (omega arith) c.read_digits.ensures.some

pub returns-clause-none : goal.returns-clause-none
returns-clause-none c = none_number c.args.word.now c.read_digits.result c.read_digits.ensures.none
