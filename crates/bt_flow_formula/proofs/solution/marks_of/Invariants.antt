use Rattle.std.proofs.Common.{◌≡◌, map}
use Rattle.std.specs.List.{range_with_len}
use Rattle.bt_cnf.specs.Assignments.{truth_in}
use Rattle.bt_flow_formula.proofs.solution.marks_of.Given as goal

abbrev pub invariant-loop-edge : goal.invariant-loop-edge
invariant-loop-edge l = l.marks.items ≡ map (truth_in l.assignment) (range_with_len 0 l.edge)
