use Rattle.std.proofs.Common.{FitsSigned, rules, arith, ◌≡◌, ◌<◌, ◌^◌, ◌/◌, ◌<ℤ◌, ◌≤ℤ◌, pos, ap, ◌∙◌, unsigned_abs}
use Rattle.std.specs.Int.{w64}
use Rattle.std.proofs.lemmas.Int.{to_z-of_z, ints}
use Rattle.bt_linear_forms.proofs.ShortWalks.{quotient_below, quotient_above, opposite_fits}
use Rattle.bt_linear_forms.proofs.short.merging.quotient.Goals as goal

pub returns-then-number-lt0-clause-product : goal.returns-then-number-lt0-clause-product
returns-then-number-lt0-clause-product c =
    let number_fits = c.ranges.number in
    let value = simp to_z-of_z at c.unsigned_abs.ensures.value in
    let test = simp to_z-of_z at c.if-number-lt0.true in
    let less : c.args.number <ℤ pos 0 = grind (arith, ints) in
    let size_fits : FitsSigned w64 c.from-size.result = search rules in
    let is : c.from-size.result ≡ pos (unsigned_abs c.args.number / c.args.by) = c.from-size.ensures ∙ ap (λ n. pos (n / c.args.by)) value in
    let small : unsigned_abs c.args.number / c.args.by < 2 ^ 63 = omega arith in
    let opposite = opposite_fits c.from-size.result (unsigned_abs c.args.number / c.args.by) is small in
    simp to_z-of_z (quotient_below c.args.number c.from-size.result c.args.by c.requires.divides less is)

pub returns-else-number-lt0-clause-product : goal.returns-else-number-lt0-clause-product
returns-else-number-lt0-clause-product c =
    let number_fits = c.ranges.number in
    let value = simp to_z-of_z at c.unsigned_abs.ensures.value in
    let test = simp to_z-of_z at c.if-number-lt0.false in
    let least : pos 0 ≤ℤ c.args.number = grind (arith, ints) in
    let size_fits : FitsSigned w64 c.from-size.result = search rules in
    let is : c.from-size.result ≡ pos (unsigned_abs c.args.number / c.args.by) = c.from-size.ensures ∙ ap (λ n. pos (n / c.args.by)) value in
    simp to_z-of_z (quotient_above c.args.number c.from-size.result c.args.by c.requires.divides least is)
