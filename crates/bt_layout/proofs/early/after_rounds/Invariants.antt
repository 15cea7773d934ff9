use Rattle.bt_layout.specs.inner.Progressing.{IsSweep}
use Rattle.bt_layout.proofs.early.after_rounds.Given as goal

-- what was found lays its request
abbrev pub invariant-loop-round : goal.invariant-loop-round
invariant-loop-round l = IsSweep l.requests l.learnt l.sweep
