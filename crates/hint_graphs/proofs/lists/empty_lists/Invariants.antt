use Rattle.std.proofs.Common.{ℕ}
use Rattle.std.specs.List.{All}
use Rattle.hint_graphs.specs.Places.{AreBelow}
use Rattle.hint_graphs.proofs.lists.empty_lists.Given as goal

abbrev pub invariant-loop : goal.invariant-loop
invariant-loop l = (end : ℕ) → All (λ list. AreBelow end list.items) l.lists.items
