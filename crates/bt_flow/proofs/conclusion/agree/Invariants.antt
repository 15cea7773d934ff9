use Rattle.bt_flow.proofs.Agreeing.{AgreeSoFar}
use Rattle.bt_flow.proofs.conclusion.agree.Given as goal

abbrev pub invariant-loop-place : goal.invariant-loop-place
invariant-loop-place l = AgreeSoFar l.net l.state l.role l.place l.first
