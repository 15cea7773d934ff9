use Rattle.bt_theory.specs.inner.Scopes.{AreAtoms}
use Rattle.bt_theory.proofs.scope.rows_at.Given as goal

abbrev pub invariant-loop-place : goal.invariant-loop-place
invariant-loop-place l = AreAtoms l.formula l.vars.items l.rows.items
