use Rattle.bt_cnf.specs.Unset.{AreUnset}
use Rattle.bt_cnf.proofs.unset.list_unset.Given as goal

abbrev pub invariant-loop-place : goal.invariant-loop-place
invariant-loop-place l = AreUnset l.values l.place l.unset.items
