use Rattle.std.proofs.Common.{FitsSigned, rules, ◌≡◌, ◌*ℤ◌, ◌/◌, pos, ap, ◌∙◌, subst}
use Rattle.std.specs.Int.{w64, w128}
use Rattle.std.proofs.lemmas.Int.{to_z-of_z}
use Rattle.bt_linear_forms.specs.Shorts.{reduced, IsSmall}
use Rattle.bt_linear_forms.proofs.Shorts.{scaled_is, found_scaled}
use Rattle.bt_linear_forms.proofs.short.number_over.Goals as goal

pub returns-clause-number : goal.returns-clause-number
returns-clause-number c =
    let number = c.args.number.now in
    let numerator_fits : FitsSigned w128 c.numerator.result = search rules in
    let over_fits : FitsSigned w64 c.in_ok-over.over = search rules in
    let from_fits : FitsSigned w64 c.from.result = search rules in
    let product_fits : FitsSigned w64 c.product.result = search rules in
    let over_is : c.in_ok-over.over ≡ number.over = (simp to_z-of_z at c.in_ok-over.ensures.part) ∙ c.numerator.ensures.value in
    let by_is : c.from.result ≡ pos (c.args.under / number.under) = c.from.ensures ∙ ap (λ n. pos (c.args.under / n)) c.in_ok-part.ensures.same in
    let product_is = simp to_z-of_z at c.product.ensures in
    let is : c.product.result ≡ number.over *ℤ pos (c.args.under / number.under) = product_is ∙ ap (λ z. z *ℤ c.from.result) over_is ∙ ap (λ z. number.over *ℤ z) by_is in
    found_scaled c.small_number.result c.product.result c.args.under number (simp to_z-of_z at c.small_number.ensures.number)
    (ap (λ z. reduced z c.args.under) is
    ∙ scaled_is number c.args.under c.numerator.ensures.known c.requires.divides c.requires.some c.requires.fits (subst (λ z. IsSmall z) over_is c.in_ok-over.ensures.small))
