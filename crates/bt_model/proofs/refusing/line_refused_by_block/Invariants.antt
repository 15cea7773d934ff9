use Rattle.bt_model.specs.RequestFaults.{BlockOneCell}
use Rattle.bt_model.specs.inner.Least.{IsLeastIfAny, IsLaterHere}
use Rattle.bt_model.proofs.refusing.line_refused_by_block.Given as goal

abbrev pub invariant-loop-j : goal.invariant-loop-j
invariant-loop-j l = IsLeastIfAny (IsLaterHere BlockOneCell (λ block. block.line) l.blocks l.k l.j) l.least
