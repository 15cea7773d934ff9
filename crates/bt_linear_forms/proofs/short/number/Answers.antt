use Rattle.std.proofs.Common.{FitsSigned, rules, arith}
use Rattle.std.specs.Int.{w128}
use Rattle.std.proofs.lemmas.Int.{to_z-of_z, ints}
use Rattle.bt_linear_forms.proofs.Shorts.{found_is, is_found}
use Rattle.bt_linear_forms.proofs.short.number.Goals as goal

pub unreachable-requires : goal.unreachable-requires
unreachable-requires c =
    let over_fits = c.ranges.over in
    let from_fits : FitsSigned w128 c.from.result = search rules in
    let from_2_fits : FitsSigned w128 c.from-2.result = search rules in
    let over = simp to_z-of_z at c.from.ensures in
    let none = simp to_z-of_z at c.in-None.ensures.none in
    is_found _ _ c.args.over c.args.under over c.from-2.ensures c.requires (omega arith) (omega (arith, ints)) none

pub returns : goal.returns
returns c =
    let over_fits = c.ranges.over in
    let from_fits : FitsSigned w128 c.from.result = search rules in
    let from_2_fits : FitsSigned w128 c.from-2.result = search rules in
    let over = simp to_z-of_z at c.from.ensures in
    let some = simp to_z-of_z at c.in-Some.ensures.some in
    found_is c.in-Some.number _ _ c.args.over c.args.under over c.from-2.ensures c.requires (omega arith) (omega (arith, ints)) c.in-Some.ensures.lowest some
