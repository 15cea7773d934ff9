use Rattle.std.proofs.Common.{◌≤◌, length}
use Rattle.bt_layout.specs.inner.Progressing.{IsSweep}
use Rattle.bt_layout.proofs.early.after_round.Given as goal

-- the places before this one are still to be looked at
abbrev pub invariant-loop-at : goal.invariant-loop-at
invariant-loop-at l = IsSweep l.requests l.learnt l.sweep × (l.at ≤ length l.sweep.places.items)

abbrev pub decreases-loop-at : goal.decreases-loop-at
decreases-loop-at l = l.at
