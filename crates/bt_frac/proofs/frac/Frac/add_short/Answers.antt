use Rattle.std.proofs.Common.{◌/◌, ◌∙◌, FitsSigned}
use Rattle.std.specs.Int.{w128}
use Rattle.std.proofs.lemmas.Int.{to_z-of_z, fits_signed_from_abs}
use Rattle.std.proofs.Math.Nat.{div-mul_cancel, dvd-mul_right_of_dvd}
use Rattle.bt_frac.proofs.Gcds.{sum_is, quotient_positive, gcd_positive}
use Rattle.bt_frac.proofs.Over.{under_positive}
use Rattle.bt_frac.proofs.Passing.{short_fits_signed}
use Rattle.bt_frac.proofs.Sums.{shares, short_fits, same_is, sum_seen}
use Rattle.bt_frac.proofs.frac.Frac.add_short.Goals as goal

pub returns-then-self-other-clause-fits : goal.returns-then-self-other-clause-fits
returns-then-self-other-clause-fits c = short_fits _ _ c.requires.self_short c.requires.other_short

pub returns-clause-fits : goal.returns-clause-fits
returns-clause-fits c = short_fits _ _ c.requires.self_short c.requires.other_short

pub returns-then-self-other-clause-sum : goal.returns-then-self-other-clause-sum
returns-then-self-other-clause-sum c =
    let fits : FitsSigned w128 c.self.inside.over = fits_signed_from_abs w128 c.self.inside.over c.self.invariant.over_fits in
    let fits' : FitsSigned w128 c.other.inside.over = fits_signed_from_abs w128 c.other.inside.over c.other.invariant.over_fits in
    let sum_fits : FitsSigned w128 c.short_plus.result = fits_signed_from_abs w128 c.short_plus.result c.short_plus.ensures.size in
    let sum = simp to_z-of_z at c.short_plus.ensures.sum in
    let over = simp to_z-of_z at c.lowest.ensures.reduces.1 in
    sum_seen c.lowest.result c.self.view_is c.other.view_is
    (same_is c.self.inside.over c.other.inside.over c.lowest.result.over c.self.inside.under c.other.inside.under c.lowest.result.under c.lowest.ensures.reduces.0
    c.if-self-other.true (over ∙ sum) c.lowest.ensures.reduces.2)

pub quotient-left_factor-requires : goal.quotient-left_factor-requires
quotient-left_factor-requires c = gcd_positive _ _ _ c.gcd-common.ensures c.other.invariant.positive

pub quotient-right_factor-requires : goal.quotient-right_factor-requires
quotient-right_factor-requires c = gcd_positive _ _ _ c.gcd-common.ensures c.other.invariant.positive

pub lowest-requires-2-clause-positive : goal.lowest-requires-2-clause-positive
lowest-requires-2-clause-positive c =
    rw c.quotient-left_factor.ensures (under_positive _ _ c.self.invariant.positive (quotient_positive _ _ c.other.invariant.positive c.gcd-common.ensures.1))

pub lowest-requires-2-clause-divides : goal.lowest-requires-2-clause-divides
lowest-requires-2-clause-divides c = dvd-mul_right_of_dvd _ c.gcd-common.ensures.0 _

pub lowest-requires-2-clause-holds : goal.lowest-requires-2-clause-holds
lowest-requires-2-clause-holds c =
    let fits : FitsSigned w128 c.self.inside.over = fits_signed_from_abs w128 c.self.inside.over c.self.invariant.over_fits in
    let fits' : FitsSigned w128 c.other.inside.over = fits_signed_from_abs w128 c.other.inside.over c.other.invariant.over_fits in
    let left_fits : FitsSigned w128 c.short_times-left.result = short_fits_signed c.short_times-left.result c.short_times-left.ensures.size in
    let right_fits : FitsSigned w128 c.short_times-right.result = short_fits_signed c.short_times-right.result c.short_times-right.ensures.size in
    let sum_fits : FitsSigned w128 c.short_plus-2.result = fits_signed_from_abs w128 c.short_plus-2.result c.short_plus-2.ensures.size in
    let left = simp (to_z-of_z, c.quotient-left_factor.ensures) at c.short_times-left.ensures.product in
    let right = simp (to_z-of_z, c.quotient-right_factor.ensures) at c.short_times-right.ensures.product in
    let sum = simp to_z-of_z at c.short_plus-2.ensures.sum in
    let sum' = simp (left, right) at sum in
    simp to_z-of_z (simp (sum', c.quotient-left_factor.ensures) (shares _ _ c.gcd-common.result c.self.invariant c.other.invariant c.gcd-common.ensures))

pub returns-clause-sum : goal.returns-clause-sum
returns-clause-sum c =
    let fits : FitsSigned w128 c.self.inside.over = fits_signed_from_abs w128 c.self.inside.over c.self.invariant.over_fits in
    let fits' : FitsSigned w128 c.other.inside.over = fits_signed_from_abs w128 c.other.inside.over c.other.invariant.over_fits in
    let left_fits : FitsSigned w128 c.short_times-left.result = short_fits_signed c.short_times-left.result c.short_times-left.ensures.size in
    let right_fits : FitsSigned w128 c.short_times-right.result = short_fits_signed c.short_times-right.result c.short_times-right.ensures.size in
    let sum_fits : FitsSigned w128 c.short_plus-2.result = fits_signed_from_abs w128 c.short_plus-2.result c.short_plus-2.ensures.size in
    let left = simp (to_z-of_z, c.quotient-left_factor.ensures) at c.short_times-left.ensures.product in
    let right = simp (to_z-of_z, c.quotient-right_factor.ensures) at c.short_times-right.ensures.product in
    let sum = simp to_z-of_z at c.short_plus-2.ensures.sum in
    let sum' = simp (left, right) at sum in
    let over = simp to_z-of_z at c.lowest-2.ensures.reduces.1 in
    let under = simp c.quotient-left_factor.ensures at c.lowest-2.ensures.reduces.2 in
    let common = c.gcd-common.ensures in
    let by = c.gcd-common.result in
    sum_seen c.lowest-2.result c.self.view_is c.other.view_is
    (sum_is c.self.inside.over c.other.inside.over c.lowest-2.result.over c.self.inside.under c.other.inside.under c.lowest-2.result.under
    (c.self.inside.under / by) (c.other.inside.under / by) by c.lowest-2.ensures.reduces.0
    (div-mul_cancel by common.0) (div-mul_cancel by common.1) (over ∙ sum') under)
