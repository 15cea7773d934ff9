use Rattle.bt_frac.proofs.Gcds.{gcd_positive}
use Rattle.bt_frac.proofs.Products.{short_are_parts, no_size_parts}
use Rattle.bt_frac.proofs.frac.product.short_product_parts.Goals as goal

pub short_quotient-requires : goal.short_quotient-requires
short_quotient-requires c = gcd_positive _ _ _ c.short_gcd-left_common.ensures c.requires.right_some

pub short_quotient-requires-2 : goal.short_quotient-requires-2
short_quotient-requires-2 c = gcd_positive _ _ _ c.short_gcd-right_common.ensures c.requires.left_some

pub short_quotient-requires-3 : goal.short_quotient-requires-3
short_quotient-requires-3 c = gcd_positive _ _ _ c.short_gcd-right_common.ensures c.requires.left_some

pub short_quotient-requires-4 : goal.short_quotient-requires-4
short_quotient-requires-4 c = gcd_positive _ _ _ c.short_gcd-left_common.ensures c.requires.right_some

pub returns-then-is_either_zero : goal.returns-then-is_either_zero
returns-then-is_either_zero c = no_size_parts _ _ _ _ (c.is_either_zero.ensures c.if-is_either_zero.true)

pub returns : goal.returns
returns c =
    short_are_parts _ _ _ _ _ _ c.requires.left_lowest c.requires.left_some c.requires.right_lowest c.requires.right_some c.short_gcd-left_common.ensures c.short_gcd-right_common.ensures
    c.long_times-size.result c.long_times-under.result
    (rw (c.short_quotient.ensures, c.short_quotient-2.ensures) at c.long_times-size.ensures)
    (rw (c.short_quotient-3.ensures, c.short_quotient-4.ensures) at c.long_times-under.ensures)
    c.requires.left_short c.requires.left_under_short c.requires.right_short c.requires.right_under_short
