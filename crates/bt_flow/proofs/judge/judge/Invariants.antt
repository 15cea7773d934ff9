use Rattle.bt_flow.proofs.Judged.{ClearFrom}
use Rattle.bt_flow.proofs.judge.judge.Given as goal

-- the tests so far are clear
abbrev pub invariant-loop-order : goal.invariant-loop-order
invariant-loop-order l = ClearFrom l.trial l.first l.order
