use Rattle.std.proofs.Common.{FitsSigned, ◌*ℤ◌, ◌≤◌, ◌^◌, unsigned_abs, arith, rules, ap, subst, sym, lit<}
use Rattle.std.specs.Int.{w64}
use Rattle.std.proofs.lemmas.Int.{ints, to_z-of_z, fits_signed_mul}
use Rattle.bt_pivot.proofs.short_points.multiple.Goals as goal

pub overflow_mul-result : goal.overflow_mul-result
overflow_mul-result c =
    let over_fits = c.ranges.over in
    let by_fits = c.ranges.by in
    let from_fits : FitsSigned w64 c.from.result = search rules in
    let from = simp to_z-of_z at c.from.ensures in
    let by_small : unsigned_abs c.args.by ≤ 2 ^ 31 = omega (arith, ints, by_fits) in
    let whole : FitsSigned w64 (c.args.over *ℤ c.args.by) = fits_signed_mul w64 c.args.over c.args.by (2 ^ 31) (2 ^ 31) (omega arith) by_small (lit< tt) in
    simp to_z-of_z (subst (λ z. FitsSigned w64 (c.args.over *ℤ z)) (sym from) whole)

pub returns : goal.returns
returns c =
    let over_fits = c.ranges.over in
    let by_fits = c.ranges.by in
    let from_fits : FitsSigned w64 c.from.result = search rules in
    let from = simp to_z-of_z at c.from.ensures in
    let by_small : unsigned_abs c.args.by ≤ 2 ^ 31 = omega (arith, ints, by_fits) in
    let whole : FitsSigned w64 (c.args.over *ℤ c.args.by) = fits_signed_mul w64 c.args.over c.args.by (2 ^ 31) (2 ^ 31) (omega arith) by_small (lit< tt) in
    let whole' : FitsSigned w64 (c.args.over *ℤ c.from.result) = subst (λ z. FitsSigned w64 (c.args.over *ℤ z)) (sym from) whole in
    simp to_z-of_z (ap (λ z. c.args.over *ℤ z) from)
