use Rattle.bt_extend.proofs.Taken.{TakenSoFar}
use Rattle.bt_extend.proofs.extending.extend_by.Given as goal

abbrev pub invariant-loop-place : goal.invariant-loop-place
invariant-loop-place l = TakenSoFar l.fn.formula l.definitions l.place l.formula
