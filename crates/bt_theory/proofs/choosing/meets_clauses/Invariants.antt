use Rattle.std.proofs.Common.{take}
use Rattle.std.specs.List.{All}
use Rattle.bt_cnf.specs.Assignments.{truth_in}
use Rattle.bt_cnf.specs.Meeting.{MeetsClause}
use Rattle.bt_theory.proofs.choosing.meets_clauses.Given as goal

abbrev pub invariant-loop-place : goal.invariant-loop-place
invariant-loop-place l = All (MeetsClause (truth_in l.assignment)) (take l.place l.formula.clauses)
