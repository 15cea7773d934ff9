use Rattle.std.proofs.Common.{◌<◌, ◌^◌, unsigned_abs, sym, subst, arith, pos}
use Rattle.std.specs.Int.{w128}
use Rattle.std.proofs.lemmas.Int.{fits_signed_from_abs}
use Rattle.bt_frac.proofs.Passing.{short_product_size, short_product_done, short_product_is}
use Rattle.bt_frac.proofs.parts.short_times.Goals as goal

pub overflow_cast-result : goal.overflow_cast-result
overflow_cast-result c = fits_signed_from_abs w128 (pos c.args.factor) (omega (arith, c.requires.factor_short))

pub overflow_mul-result : goal.overflow_mul-result
overflow_mul-result c = short_product_done c.args.number c.args.factor c.ranges.number c.requires.number_short c.requires.factor_short

pub returns-clause-product : goal.returns-clause-product
returns-clause-product c = short_product_is c.args.number c.args.factor c.ranges.number c.requires.number_short c.requires.factor_short

pub returns-clause-size : goal.returns-clause-size
returns-clause-size c =
    subst (λ z. unsigned_abs z < 2 ^ 126) (sym (short_product_is c.args.number c.args.factor c.ranges.number c.requires.number_short c.requires.factor_short))
    (short_product_size c.args.number c.args.factor c.ranges.number c.requires.number_short c.requires.factor_short)
