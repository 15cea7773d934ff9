use Rattle.std.proofs.Common.{◌≡◌, ℕ, ◌<◌, get_or}
use Rattle.bt_layout_check.specs.inner.Joins.{no_join}
use Rattle.bt_layout_check.proofs.joins.are_same.Given as goal

-- all so far are the same
abbrev pub invariant-loop-k : goal.invariant-loop-k
invariant-loop-k l = (i : ℕ) → i < l.k → get_or l.one i no_join ≡ get_or l.other i no_join
