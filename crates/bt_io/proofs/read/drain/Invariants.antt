use Rattle.std.proofs.Common.{◌≡◌, ◌+◌, ◌-◌, ◌≤◌, length}
use Rattle.bt_io.proofs.Drained.{IsDrained}
use Rattle.bt_io.proofs.read.drain.Given as goal

-- so many bytes were taken of the source
abbrev pub invariant-loop-taken : goal.invariant-loop-taken
invariant-loop-taken g l = record {
  drained : IsDrained (g.S.Source.left l.fn.source) (g.S.Source.left l.source) l.taken;
  size : l.taken ≤ l.limit + 1;
  block : length l.block ≡ 65536;
  count : g.S.Source.faults l.fn.source ≤ g.S.Source.faults l.source;
}

abbrev pub decreases-loop-taken : goal.decreases-loop-taken
decreases-loop-taken g l = l.limit + 1 - l.taken
