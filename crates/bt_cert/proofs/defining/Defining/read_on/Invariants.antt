use Rattle.std.proofs.Common.{◌≡◌, ◌+◌, ◌-◌, ◌≤◌, length}
use Rattle.bt_cert.proofs.DefinedFed.{HasFed}
use Rattle.bt_cert.proofs.defining.Defining.read_on.Given as goal

-- what was taken of the source was read on
abbrev pub invariant-loop-alloc : goal.invariant-loop-alloc
invariant-loop-alloc g l = record {
  fed : HasFed l.limit l.taken (g.S.Source.left l.fn.source) (g.S.Source.left l.source) l.fn.formula l.fn.self l.formula l.self;
  block : length l.block ≡ 65536;
  count : g.S.Source.faults l.fn.source ≤ g.S.Source.faults l.source;
}

abbrev pub decreases-loop-alloc : goal.decreases-loop-alloc
decreases-loop-alloc g l = l.limit + 1 - l.taken
