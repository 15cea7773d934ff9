use Rattle.std.proofs.Common.{[], map, sym, ◌∙◌, ap}
use Rattle.std.specs.List.{filter}
use Rattle.bt_demands.specs.Classes.{class_of}
use Rattle.bt_demands.specs.Pinning.{is_edge_of}
use Rattle.bt_demands.specs.inner.Parts as parts
use Rattle.bt_arena.proofs.Loops.{taken_more, taken_all}
use Rattle.bt_facts.proofs.Drawn.{made_flat}
use Rattle.bt_demands.proofs.siding.end_classes.Goals as goal

pub loop-edge-preserved : goal.loop-edge-preserved
loop-edge-preserved c = taken_more (parts.end_class c.args.request.now c.args.end) c.edges-edges.result.now [] c.loop-edge.found.items c.push_end_class.new.found.items c.loop-edge.edge-index _ c.loop-edge-test.true c.loop-edge.invariant (c.in_ok-push_end_class.ensures)

pub returns : goal.returns
returns c = taken_all (parts.end_class c.args.request.now c.args.end) c.edges-edges.result.now [] c.loop-edge.found.items c.loop-edge.edge-index c.loop-edge-test.false c.loop-edge.invariant
    ∙ sym (made_flat (class_of c.args.request.now.demands) (is_edge_of c.args.end) c.edges-edges.result.now)
    ∙ ap (λ es. map (class_of c.args.request.now.demands) (filter (is_edge_of c.args.end) es)) (c.edges-edges.ensures.edges ∙ ap (λ n. n.edges) c.net.ensures.net)
