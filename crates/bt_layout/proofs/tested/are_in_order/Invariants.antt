use Rattle.bt_layout.proofs.Ascending.{AreAbove}
use Rattle.bt_layout.proofs.tested.are_in_order.Given as goal

-- the parts so far come in order
abbrev pub invariant-loop-k : goal.invariant-loop-k
invariant-loop-k l = AreAbove l.parts l.k
