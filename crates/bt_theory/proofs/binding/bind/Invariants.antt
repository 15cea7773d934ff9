use Rattle.std.proofs.Common.{◌≡◌, ◌++◌, map, take, drop}
use Rattle.bt_cnf.specs.Assignments.{truth_in}
use Rattle.bt_theory.proofs.binding.bind.Given as goal

abbrev pub invariant-loop-row : goal.invariant-loop-row
invariant-loop-row l = l.tableau ≡ record l.initial.tableau { bound = map (truth_in l.assignment) (take l.row l.atoms) ++ drop l.row l.initial.tableau.bound }
