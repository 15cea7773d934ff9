use Rattle.std.proofs.Common.{◌∷◌, [], cond, sym, ◌∙◌}
use Rattle.bt_demands.specs.Classes as classing
use Rattle.bt_net.specs.Network as network
use Rattle.bt_arena.proofs.Loops.{taken_more, taken_all}
use Rattle.bt_facts.proofs.Drawn.{made_flat}
use Rattle.bt_demands.proofs.plan.classes_into.Goals as goal

pub loop-edge-preserved : goal.loop-edge-preserved
loop-edge-preserved c = taken_more (λ e. cond (network.enters c.args.splitter e) (classing.class_of c.args.demands.now e ∷ []) []) c.args.edges.now [] c.loop-edge.found.items c.push_into.new.found.items c.loop-edge.edge-index _ c.loop-edge-test.true c.loop-edge.invariant (c.in_ok-push_into.ensures)

pub returns : goal.returns
returns c = taken_all (λ e. cond (network.enters c.args.splitter e) (classing.class_of c.args.demands.now e ∷ []) []) c.args.edges.now [] c.loop-edge.found.items c.loop-edge.edge-index c.loop-edge-test.false c.loop-edge.invariant ∙ sym (made_flat (λ e. classing.class_of c.args.demands.now e) (network.enters c.args.splitter) c.args.edges.now)
