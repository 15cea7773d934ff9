use Rattle.bt_flow.proofs.Fairness.{SharesSoFar}
use Rattle.bt_flow.proofs.conclusion.shares.Given as goal

abbrev pub invariant-loop-place : goal.invariant-loop-place
invariant-loop-place l = SharesSoFar l.net l.state l.fn.end l.most l.place
