use Rattle.bt_flow.specs.inner.Trials.{IsClear}
use Rattle.std.proofs.Common.{ℕ, ◌<◌}
use Rattle.bt_flow.proofs.trial.Trial.failed_place.Given as goal

-- the places so far are clear
abbrev pub invariant-loop-place : goal.invariant-loop-place
invariant-loop-place l = (a : ℕ) → a < l.place → IsClear l.self l.test a
