use Rattle.std.proofs.Common.{arith, FitsSigned, w64, rules}
use Rattle.std.proofs.lemmas.Int.{ints, to_z-of_z}
use Rattle.bt_frac.specs.Ratio.{FitsPart}
use Rattle.bt_pivot.proofs.ShortPoints.{short_point}
use Rattle.bt_pivot.proofs.short_points.short_point.Goals as goal

pub returns : goal.returns
returns c =
    let fits : FitsSigned w64 c.in_ok-sums.sums.value = search rules in
    let fits' : FitsSigned w64 c.in_ok-sums.sums.tiny = search rules in
    let value = simp to_z-of_z at c.number.ensures in
    let tiny = simp to_z-of_z at c.number-2.ensures in
    let first : FitsPart c.in_ok-sums.sums.value = omega (arith, ints, fits) in
    let second : FitsPart c.in_ok-sums.sums.tiny = omega (arith, ints, fits') in
    let same = c.in_ok-sums.ensures.same in
    short_point (record { value = c.number.result; tiny = c.number-2.result }) _ c.in_ok-sums.sums.under c.in_ok-sums.sums same.left_value c.in_ok-sums.ensures.fits first second value tiny same
