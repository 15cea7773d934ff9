use Rattle.std.proofs.Common.{◌≡◌, ℕ, ◌<◌, IsTrue}
use Rattle.bt_layout_check.specs.inner.Handed.{mark_at}
use Rattle.bt_layout_check.proofs.handing.take_at.Given as goal

-- none so far is of the splitter
abbrev pub invariant-loop-k : goal.invariant-loop-k
invariant-loop-k l = (i : ℕ) → i < l.k → IsTrue (mark_at l.wishes i).taken → (mark_at l.wishes i).target ≡ l.splitter → ⊥
