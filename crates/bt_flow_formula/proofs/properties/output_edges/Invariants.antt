use Rattle.std.proofs.Common.{◌≡◌, ◌<◌, ◌-◌, ◌^◌, map}
use Rattle.std.specs.List.{range_with_len, All}
use Rattle.bt_flow.specs.EndEdges.{output_edge}
use Rattle.bt_flow_formula.proofs.properties.output_edges.Given as goal

abbrev pub invariant-loop-output : goal.invariant-loop-output
invariant-loop-output l = (l.edges.items ≡ map (output_edge l.net) (range_with_len 0 l.output)) × All (λ a. a < 2 ^ 64 - 1) l.edges.items
