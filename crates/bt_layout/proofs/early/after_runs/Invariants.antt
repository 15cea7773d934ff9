use Rattle.bt_layout.specs.inner.Progressing.{IsSweep}
use Rattle.bt_layout.proofs.early.after_runs.Given as goal

-- what was found lays its request
abbrev pub invariant-loop-number : goal.invariant-loop-number
invariant-loop-number l = IsSweep l.requests l.learnt l.sweep
