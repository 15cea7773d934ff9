use Rattle.bt_layout.specs.inner.Passing.{ArePassed}
use Rattle.bt_layout.proofs.least.smallest.Given as goal

-- the grids so far are ruled out
abbrev pub invariant-loop-place : goal.invariant-loop-place
invariant-loop-place l = ArePassed l.fn.request l.fn.learnt l.grids.items l.place l.earlier.items
