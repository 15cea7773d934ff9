use Rattle.bt_theory.specs.Outcomes.{AreRowsOf}
use Rattle.bt_theory.proofs.scope.rows_of.Given as goal

abbrev pub invariant-loop-place : goal.invariant-loop-place
invariant-loop-place l = AreRowsOf l.formula l.rows.items
