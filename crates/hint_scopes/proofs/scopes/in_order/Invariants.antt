use Rattle.std.proofs.Common.{ℕ}
use Rattle.std.specs.List.{All}
use Rattle.hint_graphs.specs.Places.{AreBelow}
use Rattle.hint_scopes.proofs.scopes.in_order.Given as goal

-- the lists that are left and those that are put in order are as the lists were
abbrev pub invariant-loop-splitter : goal.invariant-loop-splitter
invariant-loop-splitter l =
    (end : ℕ) → All (λ list. AreBelow end list.items) l.initial.scopes.items → All (λ list. AreBelow end list.items) l.initial.lists → All (λ list. AreBelow end list.items) l.lists × All (λ list. AreBelow end list.items) l.scopes.items
