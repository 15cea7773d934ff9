-- What was true before the first choice.
use Rattle.std.specs.Prelude.{◌-◌, ◌^◌, ℕ, List, slice_index_or}

-- where the first level begins, or beyond all places where there is no level
abbrev pub bound_of : List ℕ → ℕ
bound_of starts = slice_index_or starts 0 (2 ^ 64 - 1)
