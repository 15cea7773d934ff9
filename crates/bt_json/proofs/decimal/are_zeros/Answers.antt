use Rattle.std.proofs.Common.{arith, ◌+◌, rules}
use Rattle.std.proofs.lemmas.Int.Digits.{number_more}
use Rattle.bt_json.proofs.Digits.{number_grows}
use Rattle.bt_json.proofs.decimal.are_zeros.Goals as goal

pub returns-then-digit-ne0 : goal.returns-then-digit-ne0
returns-then-digit-ne0 c =
    let ds = c.args.digits.now in
    let i = c.loop-digit.digit-index in
    (λ h. absurd (search rules), λ e. absurd (omega (arith, number_more 10 ds i (omega arith), number_grows ds (i + 1), e)))

pub loop-digit-preserved : goal.loop-digit-preserved
loop-digit-preserved c = omega (arith, number_more 10 c.args.digits.now c.loop-digit.digit-index (omega arith))
