use Rattle.std.proofs.Common.{◌≡◌, map}
use Rattle.std.specs.List.{range_with_len}
use Rattle.bt_frac.specs.Values.{value_in}
use Rattle.bt_flow_formula.proofs.solution.values_from.Given as goal

abbrev pub invariant-loop-place : goal.invariant-loop-place
invariant-loop-place l = l.found.items ≡ map (value_in l.values) (range_with_len l.first l.place)
