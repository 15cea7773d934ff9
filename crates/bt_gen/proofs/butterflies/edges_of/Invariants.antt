use Rattle.std.proofs.Common.{◌≡◌, ◌++◌}
use Rattle.std.specs.List.{flat_map, range_with_len}
use Rattle.bt_gen.specs.Butterfly.{input_edges, stage_edges}
use Rattle.bt_gen.proofs.butterflies.edges_of.Given as goal

-- the edges of the inputs and of the stages so far
abbrev pub invariant-loop-stage : goal.invariant-loop-stage
invariant-loop-stage l = l.edges.items ≡ input_edges l.order ++ flat_map (stage_edges l.order) (range_with_len 0 l.stage)
