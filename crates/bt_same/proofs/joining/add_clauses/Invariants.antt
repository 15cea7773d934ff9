use Rattle.std.proofs.Common.{◌≡◌, map, take}
use Rattle.bt_same.specs.SameFormula.{moved_lits}
use Rattle.bt_same.specs.inner.Joining.{with_lits}
use Rattle.bt_same.proofs.joining.add_clauses.Given as goal

abbrev pub invariant-loop-place : goal.invariant-loop-place
invariant-loop-place l = l.formula ≡ with_lits l.initial.formula (map (moved_lits l.vars) (take l.place l.part.clauses))
