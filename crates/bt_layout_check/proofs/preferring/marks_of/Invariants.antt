use Rattle.std.proofs.Common.{◌≡◌, ℕ, ◌<◌, length, get_or}
use Rattle.bt_layout_check.specs.declared.preferring.Marked.{Marked}
use Rattle.bt_layout_check.specs.Laid.{naming_of}
use Rattle.bt_layout_check.specs.inner.Marks.{IsMarkOf}
use Rattle.bt_layout_check.proofs.preferring.marks_of.Given as goal

-- the marks of the edges so far
abbrev pub invariant-loop-place : goal.invariant-loop-place
invariant-loop-place l =
    (length l.marks.items ≡ l.place) × ((k : ℕ) (d : Marked) → k < length l.marks.items → IsMarkOf (naming_of l.names) l.net k (get_or l.marks.items k d))
