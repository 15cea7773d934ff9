use Rattle.std.proofs.Common.{arith, ◌+◌}
use Rattle.std.proofs.lemmas.Int.Digits.{number_more}
use Rattle.bt_json.proofs.Digits.{number_grows}
use Rattle.bt_json.proofs.decimal.number_of_digits.Goals as goal

pub returns-in_default : goal.returns-in_default
returns-in_default c =
    let ds = c.args.digits.now in
    let i = c.loop-digit.digit-index in
    omega (arith, number_more 10 ds i (omega arith), number_grows ds (i + 1), c.in_default.ensures)

pub returns-in_default-checked_add : goal.returns-in_default-checked_add
returns-in_default-checked_add c =
    let ds = c.args.digits.now in
    let i = c.loop-digit.digit-index in
    omega (arith, number_more 10 ds i (omega arith), number_grows ds (i + 1), c.in-Some.ensures, c.in_default-checked_add.ensures)

pub loop-digit-preserved : goal.loop-digit-preserved
loop-digit-preserved c =
    let ds = c.args.digits.now in
    let i = c.loop-digit.digit-index in
    omega (arith, number_more 10 ds i (omega arith), c.in-Some.ensures, c.in-Some-checked_add.ensures)
