use Rattle.std.proofs.lemmas.Result.{err_from_is_err_and}
use Rattle.bt_flow.proofs.Adding.{runs_on, wide_on}
use Rattle.bt_flow.proofs.sums.sum_of.Goals as goal

pub returns-in_err-sum-clause-wide : goal.returns-in_err-sum-clause-wide
returns-in_err-sum-clause-wide c =
    let p = err_from_is_err_and c.from_residual.result c.from_residual.ensures.1 in
    rw (p.1, p.2) (wide_on c.args.numbers.now c.loop-number.number-index c.loop-number.sum c.number-item.result c.in_err-sum.field-0.0.left c.in_err-sum.field-0.0.right
    c.loop-number-test.true c.number-item.is c.loop-number.invariant c.in_err-sum.ensures.wide)

pub loop-number-preserved : goal.loop-number-preserved
loop-number-preserved c =
    runs_on c.args.numbers.now c.loop-number.number-index c.loop-number.sum c.in_ok-sum.sum c.number-item.result c.loop-number-test.true c.number-item.is
    c.loop-number.invariant c.in_ok-sum.ensures.sum
