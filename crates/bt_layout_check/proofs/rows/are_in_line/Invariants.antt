use Rattle.std.proofs.Common.{ℕ, ◌<◌, ◌-◌, get_or}
use Rattle.bt_layout_check.specs.inner.Rows.{IsNextTo}
use Rattle.bt_layout_check.proofs.rows.are_in_line.Given as goal

-- each so far is next to the one before it
abbrev pub invariant-loop-k : goal.invariant-loop-k
invariant-loop-k l = (j d : ℕ) → 0 < j → j < l.k → IsNextTo l.parts l.dir (get_or l.indices (j - 1) d) (get_or l.indices j d)
