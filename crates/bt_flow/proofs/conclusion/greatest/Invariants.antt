use Rattle.bt_flow.specs.inner.Shares.{IsGreatest}
use Rattle.bt_flow.proofs.conclusion.greatest.Given as goal

abbrev pub invariant-loop-place : goal.invariant-loop-place
invariant-loop-place l = IsGreatest l.net l.state l.role l.place l.most
