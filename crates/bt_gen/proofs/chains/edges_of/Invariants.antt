use Rattle.std.proofs.Common.{◌≡◌, ◌∷◌, [], ◌++◌}
use Rattle.std.specs.List.{flat_map, range_with_len}
use Rattle.bt_net.specs.declared.network.Target.TheVariants as to
use Rattle.bt_gen.specs.Edges.{from_input}
use Rattle.bt_gen.specs.Chain.{link_edges}
use Rattle.bt_gen.proofs.chains.edges_of.Given as goal

-- the edges of the input and of the splitters so far
abbrev pub invariant-loop-place : goal.invariant-loop-place
invariant-loop-place l = l.edges.items ≡ (from_input 0 (to.Split 0) ∷ []) ++ flat_map (link_edges l.splitters) (range_with_len 0 l.place)
