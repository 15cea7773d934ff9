-- How a chooser keeps the scores and the phases of variables.
use Rattle.std.specs.Prelude.{ℕ, Bool, false, List, slice_index_or}
use Rattle.bt_choosers.specs.Activities.{Activity}
use Rattle.bt_choosers.specs.declared.active.Tally.{Tally}

-- what is so of a variable beyond the table's end
abbrev pub no_standing : Tally
no_standing = record { score = 0; positive = false }

-- the score of a variable
abbrev pub score_in : List Tally → ℕ → ℕ
score_in tallies v = (slice_index_or tallies v no_standing).score

-- the phase of a variable
abbrev pub phase_in : List Tally → ℕ → Bool
phase_in tallies v = (slice_index_or tallies v no_standing).positive

-- the scores and phases of all variables, and the bump
abbrev pub activity_in : List Tally → ℕ → Activity
activity_in tallies bump = record { score = score_in tallies; phase = phase_in tallies; bump = bump }
