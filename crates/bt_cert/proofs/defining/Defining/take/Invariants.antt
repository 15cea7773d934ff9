use Rattle.std.proofs.Common.{length}
use Rattle.bt_cert.proofs.Defined.{HasFront}
use Rattle.bt_cert.proofs.defining.Defining.take.Given as goal

-- the front of the piece was read on
abbrev pub invariant-loop-alloc : goal.invariant-loop-alloc
invariant-loop-alloc l = HasFront l.initial.formula l.initial.self l.piece l.formula l.self l.rest

abbrev pub decreases-loop-alloc : goal.decreases-loop-alloc
decreases-loop-alloc l = length l.rest
