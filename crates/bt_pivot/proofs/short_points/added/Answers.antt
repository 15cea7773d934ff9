use Rattle.std.proofs.Common.{◌≡◌, ◌+ℤ◌, ◌*ℤ◌, arith, refl}
use Rattle.std.proofs.lemmas.Int.{to_z-of_z}
use Rattle.bt_pivot.specs.inner.Rests.{rest_point}
use Rattle.bt_pivot.specs.inner.ShortPoints.{AddsWhole}
use Rattle.bt_pivot.proofs.short_points.added.Goals as goal

pub returns : goal.returns
returns c =
    let first = c.in_ok-value.ensures in
    let second = c.in_ok-tiny.ensures in
    let product = c.multiple.ensures in
    let product' = c.multiple-2.ensures in
    let value : c.in_ok-value.value ≡ c.args.sums.value +ℤ c.args.over *ℤ c.args.rest.value = grind (arith, to_z-of_z) in
    let tiny : c.in_ok-tiny.tiny ≡ c.args.sums.tiny +ℤ c.args.over *ℤ c.args.rest.tiny = grind (arith, to_z-of_z) in
    let here : AddsWhole (rest_point c.args.rest) c.args.sums c.args.over (record { value = c.in_ok-value.value; tiny = c.in_ok-tiny.tiny; under = c.args.sums.under }) =
    record { whole = c.args.rest.value; value_rests = refl; value_is = value; often = c.args.rest.tiny; tiny_rests = refl; tiny_is = tiny; under_is = refl } in
    grind (arith, to_z-of_z)
