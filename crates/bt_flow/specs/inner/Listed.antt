-- The first of a list of numbers.
use Rattle.std.specs.Prelude.{ℕ, List, slice_index_or}

-- the first number of a list, or 0 where it has none
abbrev pub first_of : List ℕ → ℕ
first_of numbers = slice_index_or numbers 0 0
