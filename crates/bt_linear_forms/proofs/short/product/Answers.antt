use Rattle.std.proofs.Common.{FitsSigned, ◌*ℤ◌, ◌^◌, arith, lit<}
use Rattle.std.specs.Int.{w64}
use Rattle.std.proofs.lemmas.Int.{to_z-of_z, fits_signed_mul}
use Rattle.bt_linear_forms.proofs.short.product.Goals as goal

pub overflow_mul-result : goal.overflow_mul-result
overflow_mul-result c =
    let first = c.ranges.first in
    let second = c.ranges.second in
    simp to_z-of_z (fits_signed_mul w64 c.args.first c.args.second (2 ^ 31) (2 ^ 31) (omega arith) (omega arith) (lit< tt))

pub returns : goal.returns
returns c =
    let first = c.ranges.first in
    let second = c.ranges.second in
    let whole : FitsSigned w64 (c.args.first *ℤ c.args.second) = fits_signed_mul w64 c.args.first c.args.second (2 ^ 31) (2 ^ 31) (omega arith) (omega arith) (lit< tt) in
    simp to_z-of_z
