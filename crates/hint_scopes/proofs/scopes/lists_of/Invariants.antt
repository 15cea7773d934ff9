use Rattle.std.proofs.Common.{length}
use Rattle.std.specs.List.{All}
use Rattle.hint_graphs.specs.Places.{AreBelow}
use Rattle.hint_scopes.proofs.scopes.lists_of.Given as goal

abbrev pub invariant-loop-place : goal.invariant-loop-place
invariant-loop-place l = All (λ list. AreBelow (length l.rows) list.items) l.lists.items
