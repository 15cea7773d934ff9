use Rattle.bt_model.specs.RequestFaults.{IsInTheWay, BlockOneCell}
use Rattle.bt_model.specs.inner.Least.{IsLeastIfAny, IsRefusedBelow}
use Rattle.bt_model.proofs.refusing.refused_block.Given as goal

abbrev pub invariant-loop-k : goal.invariant-loop-k
invariant-loop-k l = IsLeastIfAny (IsRefusedBelow (IsInTheWay l.rect l.demands) BlockOneCell (λ block. block.line) l.blocks l.k) l.least
