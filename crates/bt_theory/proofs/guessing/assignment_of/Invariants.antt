use Rattle.std.proofs.Common.{◌≡◌, length}
use Rattle.bt_theory.proofs.guessing.assignment_of.Given as goal

abbrev pub invariant-loop-var : goal.invariant-loop-var
invariant-loop-var l = length l.assignment.items ≡ l.var
