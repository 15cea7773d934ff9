use Rattle.std.proofs.Common.{◌≡◌, ◌++◌, ◌-◌, map, take}
use Rattle.std.specs.List.{range_with_len}
use Rattle.bt_flow_formula.specs.Columns.{plus, minus}
use Rattle.bt_flow_formula.proofs.properties.above_outputs.Given as goal

abbrev pub invariant-loop-edge : goal.invariant-loop-edge
invariant-loop-edge l = l.terms.items ≡ map minus (take l.edge-index l.edge-items)

abbrev pub invariant-loop-column : goal.invariant-loop-column
invariant-loop-column l = l.terms.items ≡ l.initial.terms.items ++ map plus (range_with_len l.first (l.column - l.first))
