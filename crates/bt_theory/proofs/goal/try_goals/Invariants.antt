use Rattle.std.proofs.Common.{◌≡◌, map}
use Rattle.bt_theory.specs.inner.Goals.{GoesOn}
use Rattle.bt_theory.specs.inner.Scopes.{parts_of}
use Rattle.bt_theory.proofs.goal.try_goals.Given as goal

abbrev pub invariant-loop-goal : goal.invariant-loop-goal
invariant-loop-goal g l = record {
  on : GoesOn l.fn.solver.kernel l.solver.kernel;
  scopes : map parts_of l.scopes ≡ map parts_of l.fn.scopes;
}
