use Rattle.std.proofs.Common.{◌/◌, ◌∙◌, FitsSigned}
use Rattle.std.specs.Int.{w128}
use Rattle.std.proofs.lemmas.Int.{to_z-of_z, fits_signed_from_abs}
use Rattle.std.proofs.Math.Nat.{div-mul_cancel, dvd-mul_right_of_dvd}
use Rattle.bt_frac.proofs.Gcds.{wrong_left, wrong_right, wrong_sum, wrong_under, all_fit, sum_is, quotient_positive, gcd_positive}
use Rattle.bt_frac.proofs.Over.{under_positive}
use Rattle.bt_frac.proofs.Sums.{shares, sum_seen, wide_seen, can_add_seen}
use Rattle.bt_frac.proofs.frac.Frac.add_wide.Goals as goal

pub returns-in_default-clause-none : goal.returns-in_default-clause-none
returns-in_default-clause-none c =
    let fits : FitsSigned w128 c.self.inside.over = fits_signed_from_abs w128 c.self.inside.over c.self.invariant.over_fits in
    let refused = simp (to_z-of_z, c.quotient-left_factor.ensures) at c.in_default.ensures.none in
    wide_seen c.self.view_is c.other.view_is (wrong_left _ _ c.gcd-common.result c.gcd-common.ensures refused)

pub returns-in_default-times-clause-none : goal.returns-in_default-times-clause-none
returns-in_default-times-clause-none c =
    let fits : FitsSigned w128 c.other.inside.over = fits_signed_from_abs w128 c.other.inside.over c.other.invariant.over_fits in
    let refused = simp (to_z-of_z, c.quotient-right_factor.ensures) at c.in_default-times.ensures.none in
    wide_seen c.self.view_is c.other.view_is (wrong_right _ _ c.gcd-common.result c.gcd-common.ensures refused)

pub returns-in_default-plus-clause-none : goal.returns-in_default-plus-clause-none
returns-in_default-plus-clause-none c =
    let fits : FitsSigned w128 c.self.inside.over = fits_signed_from_abs w128 c.self.inside.over c.self.invariant.over_fits in
    let fits' : FitsSigned w128 c.other.inside.over = fits_signed_from_abs w128 c.other.inside.over c.other.invariant.over_fits in
    let left = simp (to_z-of_z, c.quotient-left_factor.ensures) at c.in-Some.ensures.some.0 in
    let right = simp (to_z-of_z, c.quotient-right_factor.ensures) at c.in-Some-times.ensures.some.0 in
    let left_fits : FitsSigned w128 c.in-Some.left = fits_signed_from_abs w128 c.in-Some.left c.in-Some.ensures.some.1 in
    let right_fits : FitsSigned w128 c.in-Some-times.right = fits_signed_from_abs w128 c.in-Some-times.right c.in-Some-times.ensures.some.1 in
    let refused = simp to_z-of_z at c.in_default-plus.ensures.none in
    let refused' = simp (left, right) at refused in
    wide_seen c.self.view_is c.other.view_is (wrong_sum _ _ c.gcd-common.result c.gcd-common.ensures refused')

pub returns-in_default-times_unsigned-clause-none : goal.returns-in_default-times_unsigned-clause-none
returns-in_default-times_unsigned-clause-none c =
    let refused = simp c.quotient-left_factor.ensures at c.in_default-times_unsigned.ensures.none in
    wide_seen c.self.view_is c.other.view_is (wrong_under _ _ c.gcd-common.result c.gcd-common.ensures refused)

pub quotient-left_factor-requires : goal.quotient-left_factor-requires
quotient-left_factor-requires c = gcd_positive _ _ _ c.gcd-common.ensures c.other.invariant.positive

pub quotient-right_factor-requires : goal.quotient-right_factor-requires
quotient-right_factor-requires c = gcd_positive _ _ _ c.gcd-common.ensures c.other.invariant.positive

pub lowest-requires-clause-positive : goal.lowest-requires-clause-positive
lowest-requires-clause-positive c =
    let under = simp c.quotient-left_factor.ensures at c.in-Some-times_unsigned.ensures.some.0 in
    rw under (under_positive _ _ c.self.invariant.positive (quotient_positive _ _ c.other.invariant.positive c.gcd-common.ensures.1))

pub lowest-requires-clause-divides : goal.lowest-requires-clause-divides
lowest-requires-clause-divides c =
    let under = c.in-Some-times_unsigned.ensures.some.0 in
    rw under (dvd-mul_right_of_dvd _ c.gcd-common.ensures.0 _)

pub lowest-requires-clause-holds : goal.lowest-requires-clause-holds
lowest-requires-clause-holds c =
    let fits : FitsSigned w128 c.self.inside.over = fits_signed_from_abs w128 c.self.inside.over c.self.invariant.over_fits in
    let fits' : FitsSigned w128 c.other.inside.over = fits_signed_from_abs w128 c.other.inside.over c.other.invariant.over_fits in
    let left = simp (to_z-of_z, c.quotient-left_factor.ensures) at c.in-Some.ensures.some.0 in
    let right = simp (to_z-of_z, c.quotient-right_factor.ensures) at c.in-Some-times.ensures.some.0 in
    let left_fits : FitsSigned w128 c.in-Some.left = fits_signed_from_abs w128 c.in-Some.left c.in-Some.ensures.some.1 in
    let right_fits : FitsSigned w128 c.in-Some-times.right = fits_signed_from_abs w128 c.in-Some-times.right c.in-Some-times.ensures.some.1 in
    let sum_fits : FitsSigned w128 c.in-Some-plus.sum = fits_signed_from_abs w128 c.in-Some-plus.sum c.in-Some-plus.ensures.some.1 in
    let sum = simp to_z-of_z at c.in-Some-plus.ensures.some.0 in
    let sum' = simp (left, right) at sum in
    let under = simp c.quotient-left_factor.ensures at c.in-Some-times_unsigned.ensures.some.0 in
    simp to_z-of_z (simp (sum', under) (shares _ _ c.gcd-common.result c.self.invariant c.other.invariant c.gcd-common.ensures))

pub returns-clause-fits : goal.returns-clause-fits
returns-clause-fits c =
    let fits : FitsSigned w128 c.self.inside.over = fits_signed_from_abs w128 c.self.inside.over c.self.invariant.over_fits in
    let fits' : FitsSigned w128 c.other.inside.over = fits_signed_from_abs w128 c.other.inside.over c.other.invariant.over_fits in
    let left = simp (to_z-of_z, c.quotient-left_factor.ensures) at c.in-Some.ensures.some.0 in
    let right = simp (to_z-of_z, c.quotient-right_factor.ensures) at c.in-Some-times.ensures.some.0 in
    let left_fits : FitsSigned w128 c.in-Some.left = fits_signed_from_abs w128 c.in-Some.left c.in-Some.ensures.some.1 in
    let right_fits : FitsSigned w128 c.in-Some-times.right = fits_signed_from_abs w128 c.in-Some-times.right c.in-Some-times.ensures.some.1 in
    let sum = simp to_z-of_z at c.in-Some-plus.ensures.some.0 in
    let sum' = simp (left, right) at sum in
    let under = simp c.quotient-left_factor.ensures at c.in-Some-times_unsigned.ensures.some.0 in
    let p = simp left at c.in-Some.ensures.some.1 in
    let q = simp right at c.in-Some-times.ensures.some.1 in
    let r = simp sum' at c.in-Some-plus.ensures.some.1 in
    let s = simp under at c.in-Some-times_unsigned.ensures.some.1 in
    can_add_seen c.self.view_is c.other.view_is (all_fit _ _ c.gcd-common.result c.gcd-common.ensures p q r s)

pub returns-clause-sum : goal.returns-clause-sum
returns-clause-sum c =
    let fits : FitsSigned w128 c.self.inside.over = fits_signed_from_abs w128 c.self.inside.over c.self.invariant.over_fits in
    let fits' : FitsSigned w128 c.other.inside.over = fits_signed_from_abs w128 c.other.inside.over c.other.invariant.over_fits in
    let left = simp (to_z-of_z, c.quotient-left_factor.ensures) at c.in-Some.ensures.some.0 in
    let right = simp (to_z-of_z, c.quotient-right_factor.ensures) at c.in-Some-times.ensures.some.0 in
    let left_fits : FitsSigned w128 c.in-Some.left = fits_signed_from_abs w128 c.in-Some.left c.in-Some.ensures.some.1 in
    let right_fits : FitsSigned w128 c.in-Some-times.right = fits_signed_from_abs w128 c.in-Some-times.right c.in-Some-times.ensures.some.1 in
    let sum_fits : FitsSigned w128 c.in-Some-plus.sum = fits_signed_from_abs w128 c.in-Some-plus.sum c.in-Some-plus.ensures.some.1 in
    let sum = simp to_z-of_z at c.in-Some-plus.ensures.some.0 in
    let sum' = simp (left, right) at sum in
    let over = simp to_z-of_z at c.lowest.ensures.reduces.1 in
    let common = c.gcd-common.ensures in
    let by = c.gcd-common.result in
    sum_seen c.lowest.result c.self.view_is c.other.view_is
    (sum_is c.self.inside.over c.other.inside.over c.lowest.result.over c.self.inside.under c.other.inside.under c.lowest.result.under
    (c.self.inside.under / by) (c.other.inside.under / by) by c.lowest.ensures.reduces.0
    (div-mul_cancel by common.0) (div-mul_cancel by common.1) (over ∙ sum') (c.lowest.ensures.reduces.2 ∙ simp c.quotient-left_factor.ensures at c.in-Some-times_unsigned.ensures.some.0))
