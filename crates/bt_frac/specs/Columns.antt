-- Columns of a row, in ascending order.
use Rattle.std.specs.Prelude.{ℕ, ◌+◌, ◌-◌, ◌^◌, ◌<◌, ◌≤◌, List, [], ◌∷◌}

-- these columns ascend strictly from this least one on, and none is the greatest number of 64 bits
abbrev pub AreColumnsFrom : ℕ → List ℕ → Type 0
AreColumnsFrom least [] = Unit {0}
AreColumnsFrom least (column ∷ columns) = (least ≤ column) × (column < 2 ^ 64 - 1) × AreColumnsFrom (column + 1) columns
