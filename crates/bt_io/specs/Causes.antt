-- When a count of faults rose, and what a call that may fail says of the count.
use Rattle.std.specs.Prelude.{ℕ, ◌+◌, ◌-◌, ◌^◌, ◌≤◌, min, Result, OnErr}

-- the last value of a count
abbrev pub last_count : ℕ
last_count = 2 ^ 64 - 1

-- a count after one more, which stays at the last value
abbrev pub next_count : ℕ → ℕ
next_count n = min (n + 1) last_count

-- the count rose, or stands at its last value
pub record Rose (before now : ℕ) : Type 0 where
  pub risen : next_count before ≤ now
  pub fits : now ≤ last_count

-- the count has not fallen, and it rose where the call failed
pub record HasCause {T E : Type 0} (before now : ℕ) (result : Result T E) : Type 0 where
  pub later : before ≤ now
  pub failed : OnErr result (Rose before now)
