use Rattle.bt_linear_forms.proofs.Shorts.{common_positive, multiple_positive, multiple_second}
use Rattle.bt_linear_forms.proofs.short.common_multiple.Goals as goal

pub nonzero_div-second : goal.nonzero_div-second
nonzero_div-second c = common_positive _ _ _ c.requires.second c.common_divisor-common.ensures

pub returns-then-multiple-lt-SMALL_LIMIT-clause-some : goal.returns-then-multiple-lt-SMALL_LIMIT-clause-some
returns-then-multiple-lt-SMALL_LIMIT-clause-some c =
    rw (c.from.ensures, c.from-2.ensures) (multiple_positive c.args.first c.args.second c.common_divisor-common.result c.requires.first c.requires.second c.common_divisor-common.ensures)

pub returns-then-multiple-lt-SMALL_LIMIT-clause-second : goal.returns-then-multiple-lt-SMALL_LIMIT-clause-second
returns-then-multiple-lt-SMALL_LIMIT-clause-second c =
    simp (c.from.ensures, c.from-2.ensures) (multiple_second c.args.first c.args.second c.common_divisor-common.result c.common_divisor-common.ensures)
