use Rattle.std.proofs.Common.{FitsSigned, rules, arith, ◌≡◌, ◌<◌, ◌+◌, drop}
use Rattle.std.specs.Int.{w64}
use Rattle.std.proofs.lemmas.Int.{to_z-of_z}
use Rattle.bt_linear_forms.proofs.ShortWalks.{left_step, right_step, both_step, begins_at}
use Rattle.bt_linear_forms.proofs.short.merging.first_step.Goals as goal

pub returns-then-position-other_position-clause-step : goal.returns-then-position-other_position-clause-step
returns-then-position-other_position-clause-step c =
    let t = c.term_at-position.result in
    let other = c.term_at-other_position.result in
    let t_fits : FitsSigned w64 t.1 = search rules in
    let left_fits : FitsSigned w64 c.args.scales.now.left = search rules in
    let product_fits : FitsSigned w64 c.product.result = search rules in
    let less : t.0 < other.0 = grind arith in
    let product = simp to_z-of_z at c.product.ensures in
    simp to_z-of_z (left_step (drop c.args.first c.args.left.now) (drop c.args.second c.args.right.now) c.args.scales.now.left c.args.scales.now.right c.args.scales.now.under t (drop (c.args.first + 1) c.args.left.now)
    other.0 c.product.result c.term_at-position.ensures.rest c.term_at-position.ensures.small
    (begins_at c.args.right.now c.args.second other (λ h. c.term_at-other_position.ensures.rest)) less product)

pub returns-then-position-other_position-clause-moved : goal.returns-then-position-other_position-clause-moved
returns-then-position-other_position-clause-moved c =
    let t = c.term_at-position.result in
    let other = c.term_at-other_position.result in
    let less : t.0 < other.0 = grind arith in
    record { left_from = omega arith; left_to = omega arith; right_from = omega arith; right_to = omega arith; moved = omega arith }

pub returns-then-other_position-position-clause-step : goal.returns-then-other_position-position-clause-step
returns-then-other_position-position-clause-step c =
    let t = c.term_at-position.result in
    let other = c.term_at-other_position.result in
    let other_fits : FitsSigned w64 other.1 = search rules in
    let right_fits : FitsSigned w64 c.args.scales.now.right = search rules in
    let product_fits : FitsSigned w64 c.product-then-other_position-position.result = search rules in
    let less : other.0 < t.0 = grind arith in
    let product = simp to_z-of_z at c.product-then-other_position-position.ensures in
    simp to_z-of_z (right_step (drop c.args.first c.args.left.now) (drop c.args.second c.args.right.now) c.args.scales.now.left c.args.scales.now.right c.args.scales.now.under other
    (drop (c.args.second + 1) c.args.right.now) t.0 c.product-then-other_position-position.result c.term_at-other_position.ensures.rest c.term_at-other_position.ensures.small
    (begins_at c.args.left.now c.args.first t (λ h. c.term_at-position.ensures.rest)) less product)

pub returns-then-other_position-position-clause-moved : goal.returns-then-other_position-position-clause-moved
returns-then-other_position-position-clause-moved c =
    let t = c.term_at-position.result in
    let other = c.term_at-other_position.result in
    let less : other.0 < t.0 = grind arith in
    record { left_from = omega arith; left_to = omega arith; right_from = omega arith; right_to = omega arith; moved = omega arith }

pub returns-else-other_position-position-clause-step : goal.returns-else-other_position-position-clause-step
returns-else-other_position-position-clause-step c =
    let t = c.term_at-position.result in
    let other = c.term_at-other_position.result in
    let t_fits : FitsSigned w64 t.1 = search rules in
    let other_fits : FitsSigned w64 other.1 = search rules in
    let left_fits : FitsSigned w64 c.args.scales.now.left = search rules in
    let right_fits : FitsSigned w64 c.args.scales.now.right = search rules in
    let sum_fits : FitsSigned w64 c.sum_of_products.result = search rules in
    let same : t.0 ≡ other.0 = grind arith in
    let sum = simp to_z-of_z at c.sum_of_products.ensures in
    simp to_z-of_z (both_step (drop c.args.first c.args.left.now) (drop c.args.second c.args.right.now) c.args.scales.now.left c.args.scales.now.right c.args.scales.now.under t
    (drop (c.args.first + 1) c.args.left.now) other (drop (c.args.second + 1) c.args.right.now) c.sum_of_products.result c.term_at-position.ensures.rest
    c.term_at-other_position.ensures.rest c.term_at-position.ensures.small c.term_at-other_position.ensures.small same sum)
