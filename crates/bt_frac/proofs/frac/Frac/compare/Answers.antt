use Rattle.std.proofs.Common.{◌<◌, ◌^◌, unsigned_abs, sym, subst}
use Rattle.bt_frac.specs.Ratio.{IsShort, FitsPart}
use Rattle.bt_frac.proofs.Passing.{as_passed, order_passed, short_order_passed}
use Rattle.bt_frac.proofs.frac.Frac.compare.Goals as goal

pub short_times-left-requires-clause-number_short : goal.short_times-left-requires-clause-number_short
short_times-left-requires-clause-number_short c =
    as_passed (λ z. unsigned_abs z < 2 ^ 63) c.self.inside.over c.self.invariant.over_fits (subst IsShort (sym c.self.view_is) (c.are_short.ensures.short c.if-are_short.true).0).over_short

pub short_times-left-requires-clause-factor_short : goal.short_times-left-requires-clause-factor_short
short_times-left-requires-clause-factor_short c = (subst IsShort (sym c.other.view_is) (c.are_short.ensures.short c.if-are_short.true).1).under_short

pub short_times-right-requires-clause-number_short : goal.short_times-right-requires-clause-number_short
short_times-right-requires-clause-number_short c =
    as_passed (λ z. unsigned_abs z < 2 ^ 63) c.other.inside.over c.other.invariant.over_fits (subst IsShort (sym c.other.view_is) (c.are_short.ensures.short c.if-are_short.true).1).over_short

pub short_times-right-requires-clause-factor_short : goal.short_times-right-requires-clause-factor_short
short_times-right-requires-clause-factor_short c = (subst IsShort (sym c.self.view_is) (c.are_short.ensures.short c.if-are_short.true).0).under_short

pub compare_products-requires-clause-left_fits : goal.compare_products-requires-clause-left_fits
compare_products-requires-clause-left_fits c = as_passed FitsPart c.self.inside.over c.self.invariant.over_fits c.self.invariant.over_fits

pub compare_products-requires-clause-right_fits : goal.compare_products-requires-clause-right_fits
compare_products-requires-clause-right_fits c = as_passed FitsPart c.other.inside.over c.other.invariant.over_fits c.other.invariant.over_fits

pub returns-then-are_short-clause-order : goal.returns-then-are_short-clause-order
returns-then-are_short-clause-order c =
    short_order_passed c.cmp.result (record { over = c.self.inside.over; under = c.self.inside.under }) (record { over = c.other.inside.over; under = c.other.inside.under })
    c.short_times-left.result c.short_times-right.result c.self.invariant.over_fits c.other.invariant.over_fits c.self.view_is c.other.view_is
    c.short_times-left.ensures.size c.short_times-right.ensures.size c.short_times-left.ensures.product c.short_times-right.ensures.product c.cmp.ensures

pub returns-else-are_short-clause-order : goal.returns-else-are_short-clause-order
returns-else-are_short-clause-order c =
    order_passed c.compare_products.result (record { over = c.self.inside.over; under = c.self.inside.under }) (record { over = c.other.inside.over; under = c.other.inside.under })
    c.self.invariant.over_fits c.other.invariant.over_fits c.self.view_is c.other.view_is c.compare_products.ensures
