use Rattle.std.proofs.Common.{refl}
use Rattle.bt_gen.specs.Butterfly.{input_edge}
use Rattle.bt_gen.proofs.Rows.{row_pushed}
use Rattle.bt_gen.proofs.butterflies.push_inputs.Goals as goal

pub loop-line-preserved : goal.loop-line-preserved
loop-line-preserved c =
    row_pushed input_edge c.loop-line.line c.args.edges.now.items c.loop-line.edges.items c.push.new.self.items c.edge.result c.loop-line.invariant c.in_ok-push.ensures.items
    (rw (c.edge.ensures, c.place_with_line-splitter.ensures.place) refl)
