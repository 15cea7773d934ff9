use Rattle.std.proofs.Common.{refl}
use Rattle.bt_gen.specs.Butterfly.{out_edges}
use Rattle.bt_gen.proofs.Rows.{pair_pushed}
use Rattle.bt_gen.proofs.butterflies.push_stage.Goals as goal

pub loop-place-preserved : goal.loop-place-preserved
loop-place-preserved c =
    pair_pushed (out_edges c.args.order c.args.stage) c.loop-place.place c.args.edges.now.items c.loop-place.edges.items c.push.new.self.items c.push-in-loop-place.new.self.items _ _
    c.loop-place.invariant c.in_ok-push.ensures.items c.in_ok-push-2.ensures.items (rw c.out_edges.ensures refl)
