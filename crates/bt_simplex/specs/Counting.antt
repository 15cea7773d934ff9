-- How many ascending lists and bases there are.
use Rattle.std.specs.Prelude.{◌≡◌, zero, suc, ◌+◌, ◌<◌, ◌≤◌, List, ◌∷◌, length, ℕ, []}
use Rattle.bt_frac.specs.Rows.{RowParts}

-- so many numbers, of which none is below the least one, each is below the limit, and each is above the one before
abbrev pub AscendsFrom : ℕ → ℕ → List ℕ → Type 0
AscendsFrom least limit [] = Unit {0}
AscendsFrom least limit (number ∷ numbers) = (least ≤ number) × (number < limit) × AscendsFrom (number + 1) limit numbers

-- as many as ascending lists of so many numbers below a limit: one of no numbers, none of more where nothing is below
-- the limit, and else those that begin with the least number and those that lack it
abbrev pub ascending_lists : ℕ → ℕ → ℕ
ascending_lists limit zero = 1
ascending_lists zero (suc many) = 0
ascending_lists (suc limit) (suc many) = ascending_lists limit many + ascending_lists limit (suc many)

-- an ascending list of so many numbers below a limit
pub record IsAscendingOf (limit many : ℕ) (numbers : List ℕ) : Type 0 where
  pub ascends : AscendsFrom 0 limit numbers
  pub many_are : length numbers ≡ many

-- as many as the bases of rows over so many columns: a basis is an ascending list of as many positions as there are
-- rows
abbrev pub most_bases : ℕ → List RowParts → ℕ
most_bases columns rows = ascending_lists (columns + length rows) (length rows)
