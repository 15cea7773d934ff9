use Rattle.std.proofs.Common.{map}
use Rattle.std.specs.List.{All}
use Rattle.bt_theory.specs.inner.Scopes.{IsScopeOf, parts_of}
use Rattle.bt_theory.proofs.scope.scopes_of.Given as goal

abbrev pub invariant-loop-list : goal.invariant-loop-list
invariant-loop-list l = All (IsScopeOf l.formula) (map parts_of l.scopes.items)
