use Rattle.std.proofs.Common.{FitsSigned, rules, arith, ◌≡◌, ◌*◌, ◌/◌, ap, ◌∙◌}
use Rattle.std.specs.Int.{w64}
use Rattle.std.proofs.lemmas.Int.{to_z-of_z}
use Rattle.bt_linear_forms.proofs.Shorts.{common_positive}
use Rattle.bt_linear_forms.proofs.ShortWalks.{scales_are}
use Rattle.bt_linear_forms.proofs.short.merging.scales_of.Goals as goal

pub nonzero_div-by : goal.nonzero_div-by
nonzero_div-by c = common_positive _ _ _ c.requires.right_some c.common_divisor-common.ensures

pub quotient-requires-clause-some : goal.quotient-requires-clause-some
quotient-requires-clause-some c = common_positive _ _ _ c.requires.right_some c.common_divisor-common.ensures

pub quotient-requires-clause-divides : goal.quotient-requires-clause-divides
quotient-requires-clause-divides c =
    let factor_fits = c.ranges.factor in
    let value = simp to_z-of_z at c.unsigned_abs.ensures.value in
    let common = rw value at c.common_divisor-common.ensures in
    simp to_z-of_z common.0

pub returns-clause-scales : goal.returns-clause-scales
returns-clause-scales c =
    let factor_fits = c.ranges.factor in
    let by_fits : FitsSigned w64 c.from-3.result = search rules in
    let quotient_fits : FitsSigned w64 c.quotient.result = search rules in
    let product = simp to_z-of_z at c.quotient.ensures.product in
    let under : c.from.result * c.from-2.result ≡ c.args.right_under / c.common_divisor-common.result * c.args.left_under = ap (λ n. n * c.from-2.result) c.from.ensures
    ∙ ap (λ n. c.args.right_under / c.common_divisor-common.result * n) c.from-2.ensures in
    simp to_z-of_z (scales_are c.args.left_under c.args.factor c.args.right_under c.common_divisor-common.result c.from-3.result c.quotient.result (c.from.result * c.from-2.result) c.requires.left_some
    c.requires.left_fits c.requires.right_some c.requires.right_fits c.requires.factor_some c.requires.factor_small c.common_divisor-common.ensures.1 (omega arith) c.from-3.ensures under product c.quotient.ensures.small)
