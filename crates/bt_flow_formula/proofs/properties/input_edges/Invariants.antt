use Rattle.std.proofs.Common.{◌≡◌, ◌<◌, ◌-◌, ◌^◌, map}
use Rattle.std.specs.List.{range_with_len, All}
use Rattle.bt_flow.specs.EndEdges.{input_edge}
use Rattle.bt_flow_formula.proofs.properties.input_edges.Given as goal

abbrev pub invariant-loop-input : goal.invariant-loop-input
invariant-loop-input l = (l.edges.items ≡ map (input_edge l.net) (range_with_len 0 l.input)) × All (λ a. a < 2 ^ 64 - 1) l.edges.items
