use Rattle.std.proofs.Common.{◌∷◌, [], refl}
use Rattle.bt_net.specs.declared.network.Target.TheVariants as to
use Rattle.bt_gen.specs.Edges.{from_input}
use Rattle.bt_gen.specs.Chain.{link_edges}
use Rattle.bt_gen.proofs.Rows.{pair_pushed}
use Rattle.bt_gen.proofs.chains.edges_of.Goals as goal

pub loop-place-preserved : goal.loop-place-preserved
loop-place-preserved c =
    pair_pushed (link_edges c.args.splitters) c.loop-place.place (from_input 0 (to.Split 0) ∷ []) c.loop-place.edges.items c.push-in-loop-place.new.self.items c.push-in-loop-place-2.new.self.items
    c.edge-in-loop-place.result c.edge-in-loop-place-2.result c.loop-place.invariant c.in_ok-push-2.ensures.items c.in_ok-push-3.ensures.items
    (rw (c.edge-in-loop-place.ensures, c.edge-in-loop-place-2.ensures, c.goes_on_to.ensures) refl)
