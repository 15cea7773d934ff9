use Rattle.std.proofs.Common.{◌≡◌, ◌+◌, ◌-◌, ◌≤◌, length}
use Rattle.bt_cert.specs.inner.Feeding.{IsFed}
use Rattle.bt_cert.proofs.check.read_rest.Given as goal

-- what was taken of the source was read on
abbrev pub invariant-loop-taken : goal.invariant-loop-taken
invariant-loop-taken g l = record {
  fed : IsFed (g.S.Source.left l.fn.source) (g.S.Source.left l.source) l.taken l.fn.reading l.reading;
  size : l.taken ≤ l.limit + 1;
  block : length l.block ≡ 65536;
  count : g.S.Source.faults l.fn.source ≤ g.S.Source.faults l.source;
}

abbrev pub decreases-loop-taken : goal.decreases-loop-taken
decreases-loop-taken g l = l.limit + 1 - l.taken
