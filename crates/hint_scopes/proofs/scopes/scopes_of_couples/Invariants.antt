use Rattle.std.proofs.Common.{length}
use Rattle.std.specs.List.{All}
use Rattle.hint_graphs.specs.Places.{AreBelow}
use Rattle.hint_scopes.proofs.scopes.scopes_of_couples.Given as goal

abbrev pub invariant-loop-couple : goal.invariant-loop-couple
invariant-loop-couple l = All (λ scope. AreBelow (length l.rows) scope.items) l.scopes.items
