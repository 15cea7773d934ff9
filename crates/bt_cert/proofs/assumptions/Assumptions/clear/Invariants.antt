use Rattle.std.proofs.Common.{◌≡◌, length, vec_len}
use Rattle.bt_cert.specs.inner.Assuming.{AreTrailed}
use Rattle.bt_cert.proofs.assumptions.Assumptions.clear.Given as goal

abbrev pub invariant-loop-place : goal.invariant-loop-place
invariant-loop-place l = record {
  size : length l.self-inside.values.items ≡ length l.initial.self-inside.values.items;
  trailed : AreTrailed l.self-inside.values.items l.self-inside.trail.items;
}

abbrev pub decreases-loop-place : goal.decreases-loop-place
decreases-loop-place l = vec_len l.self-inside.trail
