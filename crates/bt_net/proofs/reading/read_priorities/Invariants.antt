use Rattle.std.proofs.Common.{length}
use Rattle.bt_net.proofs.Preferring.{SoFar}
use Rattle.bt_net.proofs.reading.read_priorities.Given as goal

-- the text begins with lines of the priorities so far, and the rest follows
abbrev pub invariant-loop-priority : goal.invariant-loop-priority
invariant-loop-priority l = SoFar l.admitted l.wiring l.text l.preferred l.count l.rest

abbrev pub decreases-loop-priority : goal.decreases-loop-priority
decreases-loop-priority l = length l.rest
