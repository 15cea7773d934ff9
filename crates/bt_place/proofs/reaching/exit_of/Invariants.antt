use Rattle.std.proofs.Common.{ℕ, ◌<◌, ◌≤◌}
use Rattle.bt_place.specs.inner.Reaching.{PairsAt}
use Rattle.bt_place.proofs.reaching.exit_of.Given as goal

abbrev pub invariant-loop-distance : goal.invariant-loop-distance
invariant-loop-distance l = (k : ℕ) → 1 ≤ k → k < l.distance → PairsAt l.reading l.i l.dir k → ⊥
