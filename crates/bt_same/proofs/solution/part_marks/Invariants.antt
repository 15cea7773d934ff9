use Rattle.std.proofs.Common.{◌≡◌, map}
use Rattle.std.specs.List.{range_with_len}
use Rattle.bt_cnf.specs.Assignments.{truth_in}
use Rattle.bt_same.specs.SameFormula.{shifted}
use Rattle.bt_same.proofs.solution.part_marks.Given as goal

abbrev pub invariant-loop-edge : goal.invariant-loop-edge
invariant-loop-edge l = l.marks.items ≡ map (λ k. truth_in l.assignment (shifted l.vars k)) (range_with_len 0 l.edge)
