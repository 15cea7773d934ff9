use Rattle.std.proofs.Common.{arith, ◌+◌}
use Rattle.std.proofs.Math.Nat.{mul-le-mul_left}
use Rattle.bt_json.proofs.Digits.{pow_grows, one_more_zero}
use Rattle.bt_json.proofs.decimal.with_zeros.Goals as goal

pub returns-in_default : goal.returns-in_default
returns-in_default c =
    let k = c.loop.counter in
    omega (arith, one_more_zero c.args.number k, mul-le-mul_left c.args.number (pow_grows (k + 1) c.args.zeros (omega arith)), c.in_default.ensures, c.loop.invariant)

pub loop-preserved : goal.loop-preserved
loop-preserved c = omega (arith, one_more_zero c.args.number c.loop.counter, c.in-Some.ensures, c.loop.invariant)
