use Rattle.bt_frac.proofs.Gcds.{gcd_positive}
use Rattle.bt_frac.proofs.Products.{are_parts, no_over, no_under}
use Rattle.bt_frac.proofs.frac.product.product_parts.Goals as goal

pub quotient-left-requires : goal.quotient-left-requires
quotient-left-requires c = gcd_positive _ _ _ c.gcd-left_common.ensures c.requires.right_some

pub quotient-right-requires : goal.quotient-right-requires
quotient-right-requires c = gcd_positive _ _ _ c.gcd-right_common.ensures c.requires.left_some

pub quotient-left_under-requires : goal.quotient-left_under-requires
quotient-left_under-requires c = gcd_positive _ _ _ c.gcd-right_common.ensures c.requires.left_some

pub quotient-right_under-requires : goal.quotient-right_under-requires
quotient-right_under-requires c = gcd_positive _ _ _ c.gcd-left_common.ensures c.requires.right_some

pub returns-in_default-clause-none : goal.returns-in_default-clause-none
returns-in_default-clause-none c =
    no_over _ _ _ _ _ _ c.requires.left_lowest c.requires.left_some c.requires.right_lowest c.requires.right_some c.gcd-left_common.ensures c.gcd-right_common.ensures
    (rw (c.quotient-left.ensures, c.quotient-right.ensures) at c.in_default.ensures.none)

pub returns-in_default-times_unsigned-clause-none : goal.returns-in_default-times_unsigned-clause-none
returns-in_default-times_unsigned-clause-none c =
    no_under _ _ _ _ _ _ c.requires.left_lowest c.requires.left_some c.requires.right_lowest c.requires.right_some c.gcd-left_common.ensures c.gcd-right_common.ensures
    (rw (c.quotient-left_under.ensures, c.quotient-right_under.ensures) at c.in_default-times_unsigned.ensures.none)

pub returns-clause-some : goal.returns-clause-some
returns-clause-some c =
    let over = c.in-Some.ensures.some in
    let under = c.in-Some-times_unsigned.ensures.some in
    are_parts _ _ _ _ _ _ c.requires.left_lowest c.requires.left_some c.requires.right_lowest c.requires.right_some c.gcd-left_common.ensures c.gcd-right_common.ensures
    c.in-Some.size c.in-Some-times_unsigned.under
    (rw (c.quotient-left.ensures, c.quotient-right.ensures) at over.0) over.1
    (rw (c.quotient-left_under.ensures, c.quotient-right_under.ensures) at under.0) under.1
