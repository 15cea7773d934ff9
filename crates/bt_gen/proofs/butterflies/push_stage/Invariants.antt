use Rattle.std.proofs.Common.{◌≡◌, ◌++◌}
use Rattle.std.specs.List.{flat_map, range_with_len}
use Rattle.bt_gen.specs.Butterfly.{out_edges}
use Rattle.bt_gen.proofs.butterflies.push_stage.Given as goal

-- the out edges of the splitters so far were added
abbrev pub invariant-loop-place : goal.invariant-loop-place
invariant-loop-place l = l.edges.items ≡ l.fn.edges.items ++ flat_map (out_edges l.order l.stage) (range_with_len 0 l.place)
