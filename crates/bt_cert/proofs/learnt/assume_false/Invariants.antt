use Rattle.std.proofs.Common.{◌≡◌, length, take}
use Rattle.bt_cert.specs.inner.Assuming.{Tells}
use Rattle.bt_cert.proofs.learnt.assume_false.Given as goal

abbrev pub invariant-loop-lit : goal.invariant-loop-lit
invariant-loop-lit l = record {
  size : length l.assumed ≡ length l.initial.assumed;
  tells : Tells l.assumed (take l.lit-index l.lits);
}
