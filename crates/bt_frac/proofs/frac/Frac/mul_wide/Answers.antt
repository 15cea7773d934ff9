use Rattle.std.proofs.Common.{FitsSigned, rules, ◌≡◌, subst}
use Rattle.std.specs.Int.{w128}
use Rattle.std.proofs.lemmas.Int.{to_z-of_z, fits_signed_from_abs}
use Rattle.bt_frac.specs.Ratio.{Ratio}
use Rattle.bt_frac.proofs.Products.{HaveNoProduct, no_product, parts_are_lowest}
use Rattle.bt_frac.proofs.frac.Frac.mul_wide.Goals as goal

seen : {a a' b b' : Ratio} (P : Ratio → Ratio → Type 0) → a ≡ a' → b ≡ b' → P a b → P a' b'
seen {a} {a'} {b} {b'} P ea eb p = subst (λ y. P a' y) eb (subst (λ x. P x b) ea p)

pub product_parts-requires-clause-left_lowest : goal.product_parts-requires-clause-left_lowest
product_parts-requires-clause-left_lowest c =
    let fits : FitsSigned w128 c.self.inside.over = fits_signed_from_abs w128 c.self.inside.over c.self.invariant.over_fits in
    let size = simp to_z-of_z at c.magnitude-size.ensures in
    rw size c.self.invariant.coprime

pub product_parts-requires-clause-right_lowest : goal.product_parts-requires-clause-right_lowest
product_parts-requires-clause-right_lowest c =
    let fits : FitsSigned w128 c.other.inside.over = fits_signed_from_abs w128 c.other.inside.over c.other.invariant.over_fits in
    let size = simp to_z-of_z at c.magnitude-other_size.ensures in
    rw size c.other.invariant.coprime

pub returns-in_default-clause-none : goal.returns-in_default-clause-none
returns-in_default-clause-none c =
    let fits : FitsSigned w128 c.self.inside.over = fits_signed_from_abs w128 c.self.inside.over c.self.invariant.over_fits in
    let fits' : FitsSigned w128 c.other.inside.over = fits_signed_from_abs w128 c.other.inside.over c.other.invariant.over_fits in
    let size = simp to_z-of_z at c.magnitude-size.ensures in
    let other_size = simp to_z-of_z at c.magnitude-other_size.ensures in
    seen HaveNoProduct c.self.view_is c.other.view_is (no_product
    (record { over = c.self.inside.over; under = c.self.inside.under }) (record { over = c.other.inside.over; under = c.other.inside.under }) _ _ size other_size c.in_default.ensures.none)

pub invariant_of-result : goal.invariant_of-result
invariant_of-result c =
    let fits : FitsSigned w128 c.signed.result = search rules in
    simp to_z-of_z (simp c.signed.ensures (parts_are_lowest c.is_product_negative-negative.result _ _ _ _ _ _ c.in-Some.ensures.some))

pub returns-clause-lowest : goal.returns-clause-lowest
returns-clause-lowest c =
    let fits : FitsSigned w128 c.signed.result = search rules in
    simp to_z-of_z (simp c.signed.ensures (parts_are_lowest c.is_product_negative-negative.result _ _ _ _ _ _ c.in-Some.ensures.some))
