use Rattle.std.proofs.Common.{◌≡◌, map}
use Rattle.std.specs.List.{range_with_len}
use Rattle.bt_frac.specs.Values.{value_in}
use Rattle.bt_same.specs.SameFormula.{shifted}
use Rattle.bt_same.proofs.solution.part_values.Given as goal

abbrev pub invariant-loop-column : goal.invariant-loop-column
invariant-loop-column l = l.found.items ≡ map (λ c. value_in l.values (shifted l.columns c)) (range_with_len 0 l.column)
