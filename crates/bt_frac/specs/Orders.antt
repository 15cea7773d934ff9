-- What an answer of a comparison says.
use Rattle.std.specs.Prelude.{◌≡◌, ℕ, ℤ, pos, ◌*ℤ◌, ◌<◌, ◌<ℤ◌}
use Rattle.std.specs.declared.cmp.Ordering.{Ordering}
use Rattle.std.specs.Ordering.{MatchOrdering}
use Rattle.bt_frac.specs.Ratio.{Ratio}

-- o is the order of two whole numbers
abbrev pub IsOrderOf : Ordering → ℤ → ℤ → Type 0
IsOrderOf o x y = MatchOrdering o (x <ℤ y) (x ≡ y) (y <ℤ x)

-- o is the order of two natural numbers
abbrev pub IsOrderOfNumbers : Ordering → ℕ → ℕ → Type 0
IsOrderOfNumbers o m n = MatchOrdering o (m < n) (m ≡ n) (n < m)

-- o is the order of two fractions as numbers: Less exactly where a is less than b, Equal exactly where they are the
-- same number
abbrev pub IsOrder : Ordering → Ratio → Ratio → Type 0
IsOrder o a b = IsOrderOf o (a.over *ℤ pos b.under) (b.over *ℤ pos a.under)
