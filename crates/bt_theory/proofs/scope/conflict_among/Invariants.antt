use Rattle.std.proofs.Common.{◌≡◌, map}
use Rattle.bt_theory.specs.inner.Scopes.{parts_of}
use Rattle.bt_theory.proofs.scope.conflict_among.Given as goal

abbrev pub invariant-loop-place : goal.invariant-loop-place
invariant-loop-place l = map parts_of l.scopes ≡ map parts_of l.initial.scopes
