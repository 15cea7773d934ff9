use Rattle.std.proofs.Common.{FitsSigned, rules, unsigned_abs, ◌<◌, ◌+ℤ◌, ◌*ℤ◌, ◌^◌, ℤ, arith, ap, ◌∙◌}
use Rattle.std.specs.Int.{w64}
use Rattle.std.proofs.lemmas.Int.{to_z-of_z, ints, fits_signed_from_abs}
use Rattle.bt_linear_forms.proofs.ShortWalks.{product_below}
use Rattle.bt_linear_forms.proofs.short.merging.sum_of_products.Goals as goal

sum_fits : (x y : ℤ) → unsigned_abs x < 2 ^ 62 → unsigned_abs y < 2 ^ 62 → FitsSigned w64 (x +ℤ y)
sum_fits x y p q = fits_signed_from_abs w64 (x +ℤ y) (omega (arith, ints))

pub overflow_add-result : goal.overflow_add-result
overflow_add-result c =
    let first_fits = c.ranges.first in
    let by_fits = c.ranges.by in
    let second_fits = c.ranges.second in
    let times_fits = c.ranges.times in
    let product_fits : FitsSigned w64 c.product.result = search rules in
    let product_2_fits : FitsSigned w64 c.product-2.result = search rules in
    let first = simp to_z-of_z at c.product.ensures in
    let second = simp to_z-of_z at c.product-2.ensures in
    simp to_z-of_z (rw (first, second) (sum_fits (c.args.first *ℤ c.args.by) (c.args.second *ℤ c.args.times)
    (product_below c.args.first c.args.by c.requires.first c.requires.by) (product_below c.args.second c.args.times c.requires.second c.requires.times)))

pub returns : goal.returns
returns c =
    let first_fits = c.ranges.first in
    let by_fits = c.ranges.by in
    let second_fits = c.ranges.second in
    let times_fits = c.ranges.times in
    let product_fits : FitsSigned w64 c.product.result = search rules in
    let product_2_fits : FitsSigned w64 c.product-2.result = search rules in
    let first = simp to_z-of_z at c.product.ensures in
    let second = simp to_z-of_z at c.product-2.ensures in
    let fits : FitsSigned w64 (c.product.result +ℤ c.product-2.result) =
    rw (first, second) (sum_fits (c.args.first *ℤ c.args.by) (c.args.second *ℤ c.args.times)
    (product_below c.args.first c.args.by c.requires.first c.requires.by) (product_below c.args.second c.args.times c.requires.second c.requires.times)) in
    simp to_z-of_z (ap (λ z. z +ℤ c.product-2.result) first ∙ ap (λ z. c.args.first *ℤ c.args.by +ℤ z) second)
