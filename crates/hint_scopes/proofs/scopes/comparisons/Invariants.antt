use Rattle.std.proofs.Common.{length}
use Rattle.hint_graphs.specs.Places.{AreBelow}
use Rattle.hint_scopes.proofs.scopes.comparisons.Given as goal

abbrev pub invariant-loop-step : goal.invariant-loop-step
invariant-loop-step l = AreBelow (length l.rows) l.scope.items
