use Rattle.std.proofs.Common.{sym, subst}
use Rattle.bt_frac.specs.Ratio.{FitsPart}
use Rattle.bt_frac.proofs.Passing.{whole_product_fits, whole_product_done, whole_product_is}
use Rattle.bt_frac.proofs.parts.whole_times.Goals as goal

pub overflow_mul-result : goal.overflow_mul-result
overflow_mul-result c = whole_product_done c.args.left c.args.right c.ranges.left c.ranges.right c.requires.left_short c.requires.right_short

pub returns-clause-product : goal.returns-clause-product
returns-clause-product c = whole_product_is c.args.left c.args.right c.ranges.left c.ranges.right c.requires.left_short c.requires.right_short

pub returns-clause-size : goal.returns-clause-size
returns-clause-size c =
    subst FitsPart (sym (whole_product_is c.args.left c.args.right c.ranges.left c.ranges.right c.requires.left_short c.requires.right_short))
    (whole_product_fits c.args.left c.args.right c.ranges.left c.ranges.right c.requires.left_short c.requires.right_short)
