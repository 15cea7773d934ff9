use Rattle.std.proofs.Common.{◌≡◌, ◌++◌, map}
use Rattle.std.specs.List.{range_with_len}
use Rattle.bt_gen.specs.Butterfly.{input_edge}
use Rattle.bt_gen.proofs.butterflies.push_inputs.Given as goal

-- the edges of the inputs so far were added
abbrev pub invariant-loop-line : goal.invariant-loop-line
invariant-loop-line l = l.edges.items ≡ l.fn.edges.items ++ map input_edge (range_with_len 0 l.line)
