use Rattle.std.proofs.Common.{ℕ, ◌<◌, get_or}
use Rattle.bt_net.specs.declared.network.Block.{Block}
use Rattle.bt_layout_check.specs.inner.Fitting.{IsFree}
use Rattle.bt_layout_check.proofs.fitting.are_free.Given as goal

-- no part stands on a blocked cell so far
abbrev pub invariant-loop-block : goal.invariant-loop-block
invariant-loop-block l = (k : ℕ) (d : Block) → k < l.block-index → IsFree l.grid (get_or l.blocks k d)
