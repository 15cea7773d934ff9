use Rattle.std.proofs.Common.{length}
use Rattle.bt_cert.proofs.Takes.{HasTaken}
use Rattle.bt_cert.proofs.reading.Reading.take.Given as goal

-- the front of the piece was read
abbrev pub invariant-loop-rest : goal.invariant-loop-rest
invariant-loop-rest l = HasTaken l.initial.self l.piece l.self l.rest

abbrev pub decreases-loop-rest : goal.decreases-loop-rest
decreases-loop-rest l = length l.rest
