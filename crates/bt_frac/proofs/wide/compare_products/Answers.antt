use Rattle.std.proofs.Common.{◌∙◌, ap, ◌*◌, ◌<◌, ◌^◌, subst, sym}
use Rattle.bt_frac.proofs.Passing.{size_got, is_negative_got, not_negative_got}
use Rattle.bt_frac.proofs.Signs.{both_positive, both_negative, negative_less}
use Rattle.bt_frac.proofs.wide.compare_products.Goals as goal

pub product-left_size-requires-clause-first_fits : goal.product-left_size-requires-clause-first_fits
product-left_size-requires-clause-first_fits c =
    subst (λ n. n < 2 ^ 127) (sym (size_got c.args.left c.magnitude.result c.ranges.left c.magnitude.ensures)) c.requires.left_fits

pub product-right_size-requires-clause-first_fits : goal.product-right_size-requires-clause-first_fits
product-right_size-requires-clause-first_fits c =
    subst (λ n. n < 2 ^ 127) (sym (size_got c.args.right c.magnitude-2.result c.ranges.right c.magnitude-2.ensures)) c.requires.right_fits

pub returns-in-true-true : goal.returns-in-true-true
returns-in-true-true c =
    both_negative c.compare_wide.result c.args.left c.args.right c.args.left_by c.args.right_by _ _
    (c.product-left_size.ensures ∙ ap (λ n. n * c.args.left_by) (size_got c.args.left c.magnitude.result c.ranges.left c.magnitude.ensures))
    (c.product-right_size.ensures ∙ ap (λ n. n * c.args.right_by) (size_got c.args.right c.magnitude-2.result c.ranges.right c.magnitude-2.ensures))
    (is_negative_got c.args.left c.ranges.left c.in-true-true.ensures) (is_negative_got c.args.right c.ranges.right c.in-true-true.ensures') c.compare_wide.ensures

pub returns-in-true-false : goal.returns-in-true-false
returns-in-true-false c =
    negative_less c.args.left c.args.right c.args.left_by c.args.right_by c.requires.left_by_some
    (is_negative_got c.args.left c.ranges.left c.in-true-false.ensures) (not_negative_got c.args.right c.ranges.right c.in-true-false.ensures')

pub returns-in-false-true : goal.returns-in-false-true
returns-in-false-true c =
    negative_less c.args.right c.args.left c.args.right_by c.args.left_by c.requires.right_by_some
    (is_negative_got c.args.right c.ranges.right c.in-false-true.ensures') (not_negative_got c.args.left c.ranges.left c.in-false-true.ensures)

pub returns-in-false-false : goal.returns-in-false-false
returns-in-false-false c =
    both_positive c.compare_wide-in-false-false.result c.args.left c.args.right c.args.left_by c.args.right_by _ _
    (c.product-left_size.ensures ∙ ap (λ n. n * c.args.left_by) (size_got c.args.left c.magnitude.result c.ranges.left c.magnitude.ensures))
    (c.product-right_size.ensures ∙ ap (λ n. n * c.args.right_by) (size_got c.args.right c.magnitude-2.result c.ranges.right c.magnitude-2.ensures))
    (not_negative_got c.args.left c.ranges.left c.in-false-false.ensures) (not_negative_got c.args.right c.ranges.right c.in-false-false.ensures') c.compare_wide-in-false-false.ensures
