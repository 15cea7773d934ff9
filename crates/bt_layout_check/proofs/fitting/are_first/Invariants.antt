use Rattle.std.proofs.Common.{ℕ, ◌<◌, get_or}
use Rattle.bt_layout_check.specs.inner.Fitting.{IsFirstInside}
use Rattle.bt_layout_check.proofs.fitting.are_first.Given as goal

-- behind all so far the rectangle ends
abbrev pub invariant-loop-i : goal.invariant-loop-i
invariant-loop-i l = (k d : ℕ) → k < l.i-index → IsFirstInside l.rect l.parts (get_or l.indices k d)
