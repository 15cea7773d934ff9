use Rattle.bt_gen.specs.Butterfly.{input_edges, stage_edges}
use Rattle.bt_gen.proofs.Rows.{rows_pushed}
use Rattle.bt_gen.proofs.butterflies.edges_of.Goals as goal

pub loop-stage-preserved : goal.loop-stage-preserved
loop-stage-preserved c =
    rows_pushed (stage_edges c.args.order) c.loop-stage.stage (input_edges c.args.order) c.loop-stage.edges.items c.push_stage.new.edges.items c.loop-stage.invariant c.in_ok-push_stage.ensures
