use Rattle.std.proofs.Common.{FitsSigned, rules}
use Rattle.std.specs.Int.{w128}
use Rattle.std.proofs.lemmas.Int.{to_z-of_z}
use Rattle.bt_frac.specs.Ratio.{parts_ratio}
use Rattle.bt_frac.proofs.Products.{product_is, parts_are_lowest, product_seen}
use Rattle.bt_frac.proofs.frac.Frac.mul_short.Goals as goal

pub short_product_parts-size-requires-clause-left_lowest : goal.short_product_parts-size-requires-clause-left_lowest
short_product_parts-size-requires-clause-left_lowest c =
    let small = c.self.invariant.over_fits in
    let fits : FitsSigned w128 c.self.inside.over = search rules in
    let size = simp to_z-of_z at c.magnitude-size.ensures in
    rw size c.self.invariant.coprime

pub short_product_parts-size-requires-clause-right_lowest : goal.short_product_parts-size-requires-clause-right_lowest
short_product_parts-size-requires-clause-right_lowest c =
    let small = c.other.invariant.over_fits in
    let fits : FitsSigned w128 c.other.inside.over = search rules in
    let size = simp to_z-of_z at c.magnitude-other_size.ensures in
    rw size c.other.invariant.coprime

pub returns-clause-product : goal.returns-clause-product
returns-clause-product c =
    let small = c.self.invariant.over_fits in
    let small' = c.other.invariant.over_fits in
    let fits : FitsSigned w128 c.self.inside.over = search rules in
    let fits' : FitsSigned w128 c.other.inside.over = search rules in
    let result_fits : FitsSigned w128 c.signed.result = search rules in
    let size = simp to_z-of_z at c.magnitude-size.ensures in
    let other_size = simp to_z-of_z at c.magnitude-other_size.ensures in
    let negative = c.is_product_negative-negative.result in
    let sign = simp to_z-of_z at c.is_product_negative-negative.ensures in
    let parts = c.short_product_parts-size.result in
    let same = rw (size, other_size) at c.short_product_parts-size.ensures.same in
    let is = product_is negative c.self.inside.over c.other.inside.over c.self.inside.under c.other.inside.under parts.0 parts.1 sign same in
    simp to_z-of_z (simp c.signed.ensures (product_seen (parts_ratio negative parts.0 parts.1) c.self.view_is c.other.view_is is))

pub invariant_of-result : goal.invariant_of-result
invariant_of-result c =
    let fits : FitsSigned w128 c.signed.result = search rules in
    simp to_z-of_z (simp c.signed.ensures (parts_are_lowest c.is_product_negative-negative.result _ _ _ _ _ _ c.short_product_parts-size.ensures))

pub returns-clause-lowest : goal.returns-clause-lowest
returns-clause-lowest c =
    let fits : FitsSigned w128 c.signed.result = search rules in
    simp to_z-of_z (simp c.signed.ensures (parts_are_lowest c.is_product_negative-negative.result _ _ _ _ _ _ c.short_product_parts-size.ensures))
