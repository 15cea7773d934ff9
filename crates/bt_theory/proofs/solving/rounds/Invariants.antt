use Rattle.std.proofs.Common.{◌≡◌, ◌-◌, length, map}
use Rattle.std.specs.List.{All}
use Rattle.bt_theory.specs.inner.Rounds.{IsReady}
use Rattle.bt_theory.specs.inner.Scopes.{IsScopeOf, parts_of}
use Rattle.bt_theory.proofs.solving.rounds.Given as goal

abbrev pub invariant-loop-said : goal.invariant-loop-said
invariant-loop-said g l = record {
  formula : l.solver.kernel.formula ≡ l.fn.solver.kernel.formula;
  limit : l.solver.kernel.limit ≡ l.fn.solver.kernel.limit;
  ready : IsReady l.base l.solver.kernel l.tables.tableau;
  scopes : All (IsScopeOf l.fn.solver.kernel.formula) (map parts_of l.tables.scopes.items);
}

abbrev pub decreases-loop-said : goal.decreases-loop-said
decreases-loop-said g l = l.fn.solver.kernel.limit - length l.solver.kernel.steps
