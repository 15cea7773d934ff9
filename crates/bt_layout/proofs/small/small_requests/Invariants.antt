use Rattle.std.proofs.Common.{take}
use Rattle.bt_layout.specs.inner.Progressing.{AskSmall}
use Rattle.bt_layout.proofs.small.small_requests.Given as goal

-- the requests so far are the same on the grids so far that may be asked
abbrev pub invariant-loop-place : goal.invariant-loop-place
invariant-loop-place l = AskSmall l.fn.request l.fn.cells (take l.place l.grids.items) l.requests.items
