use Rattle.std.proofs.Common.{◌+ℤ◌}
use Rattle.bt_frac.proofs.Passing.{sum_passed, tried_fits, tried_least, tried_wide}
use Rattle.bt_frac.proofs.parts.plus.Goals as goal

pub returns-in-Some-clause-some : goal.returns-in-Some-clause-some
returns-in-Some-clause-some c = tried_fits _ (c.args.left +ℤ c.args.right) (sum_passed c.args.left c.args.right c.ranges.left c.ranges.right) c.in-Some.sum c.in-Some.ensures.0 c.in-Some.ensures.1 c.if-sum.true

pub returns-in_default-clause-none : goal.returns-in_default-clause-none
returns-in_default-clause-none c fits = tried_least _ (c.args.left +ℤ c.args.right) (sum_passed c.args.left c.args.right c.ranges.left c.ranges.right) c.in-Some.sum c.in-Some.ensures.1 c.if-sum.false fits

pub returns-in_default-2-clause-none : goal.returns-in_default-2-clause-none
returns-in_default-2-clause-none c fits = tried_wide _ (c.args.left +ℤ c.args.right) (sum_passed c.args.left c.args.right c.ranges.left c.ranges.right) c.in_default.ensures fits
