use Rattle.std.proofs.Common.{pos, ◌*ℤ◌}
use Rattle.std.specs.Int.{w128}
use Rattle.std.proofs.lemmas.Int.{fits_signed_from_abs}
use Rattle.bt_frac.proofs.Passing.{product_passed, tried_fits, tried_least, tried_wide}
use Rattle.bt_frac.proofs.parts.times.Goals as goal

pub overflow_cast-factor : goal.overflow_cast-factor
overflow_cast-factor c = fits_signed_from_abs w128 (pos c.args.factor) c.requires

pub returns-in-Some-clause-some : goal.returns-in-Some-clause-some
returns-in-Some-clause-some c = tried_fits _ (c.args.number *ℤ pos c.args.factor) (product_passed c.args.number c.args.factor c.ranges.number c.requires) c.in-Some.product c.in-Some.ensures.0 c.in-Some.ensures.1 c.if-product.true

pub returns-in_default-clause-none : goal.returns-in_default-clause-none
returns-in_default-clause-none c fits = tried_least _ (c.args.number *ℤ pos c.args.factor) (product_passed c.args.number c.args.factor c.ranges.number c.requires) c.in-Some.product c.in-Some.ensures.1 c.if-product.false fits

pub returns-in_default-2-clause-none : goal.returns-in_default-2-clause-none
returns-in_default-2-clause-none c fits = tried_wide _ (c.args.number *ℤ pos c.args.factor) (product_passed c.args.number c.args.factor c.ranges.number c.requires) c.in_default.ensures fits
