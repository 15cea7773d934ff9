use Rattle.std.proofs.Common.{◌≡◌, ◌-◌, length, map}
use Rattle.bt_theory.specs.inner.Goals.{GoesOn}
use Rattle.bt_theory.specs.inner.Scopes.{parts_of}
use Rattle.bt_theory.proofs.goal.try_goal.Given as goal

abbrev pub invariant-loop-end : goal.invariant-loop-end
invariant-loop-end g l = record {
  on : GoesOn l.fn.solver.kernel l.solver.kernel;
  scopes : map parts_of l.scopes ≡ map parts_of l.fn.scopes;
}

abbrev pub decreases-loop-end : goal.decreases-loop-end
decreases-loop-end g l = l.solver.kernel.limit - length l.solver.kernel.steps
