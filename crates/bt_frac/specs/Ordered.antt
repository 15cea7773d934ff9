-- The order that `Ord` gives: that of the numbers. `Ord` asks for a total order of all pairs, so a denominator of 0,
-- which no fraction has, counts as 1, and the parts break ties between pairs that aren't in lowest terms.
use Rattle.std.specs.Prelude.{pos, ◌*ℤ◌, max}
use Rattle.std.specs.declared.cmp.Ordering.{Ordering}
use Rattle.std.specs.Ordering.{int_cmp, nat_cmp, on, then_cmp}
use Rattle.bt_frac.specs.Ratio.{Ratio}

-- the order of the numbers
abbrev pub number_cmp : Ratio → Ratio → Ordering
number_cmp a b = int_cmp (a.over *ℤ pos (max b.under 1)) (b.over *ℤ pos (max a.under 1))

-- the order of the numbers, and then that of the parts
abbrev pub ratio_cmp : Ratio → Ratio → Ordering
ratio_cmp = then_cmp number_cmp (then_cmp (on (λ r. r.over) int_cmp) (on (λ r. r.under) nat_cmp))
