use Rattle.std.proofs.Common.{◌∷◌, [], cond, sym, ◌∙◌}
use Rattle.bt_net.specs.Network as network
use Rattle.bt_arena.proofs.Loops.{taken_more, taken_all, filter_flat}
use Rattle.bt_demands.proofs.plan.edges_from.Goals as goal

pub loop-edge-preserved : goal.loop-edge-preserved
loop-edge-preserved c = taken_more (λ e. cond (network.leaves c.args.splitter e) (e ∷ []) []) c.args.edges.now [] c.loop-edge.found.items c.push_leaving.new.found.items c.loop-edge.edge-index _ c.loop-edge-test.true c.loop-edge.invariant (c.in_ok-push_leaving.ensures)

pub returns : goal.returns
returns c = taken_all (λ e. cond (network.leaves c.args.splitter e) (e ∷ []) []) c.args.edges.now [] c.loop-edge.found.items c.loop-edge.edge-index c.loop-edge-test.false c.loop-edge.invariant ∙ sym (filter_flat (network.leaves c.args.splitter) c.args.edges.now)
