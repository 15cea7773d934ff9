-- Assignments that are kept as lists.
use Rattle.std.specs.Prelude.{ℕ, Bool, false, List, slice_index_or}

-- the value of each variable from 0 on, and false past the end of the list
abbrev pub truth_in : List Bool → ℕ → Bool
truth_in truths var = slice_index_or truths var false
