use Rattle.std.proofs.Common.{◌∷◌, [], arith, length-append}
use Rattle.bt_net.proofs.NetLines.{edges_push}
use Rattle.bt_net.proofs.reading.read_edges.Goals as goal

pub loop-edge-preserved : goal.loop-edge-preserved
loop-edge-preserved c =
    let next = c.in-Some.ensures in
    let before = c.loop-edge.invariant in
    let edges = c.loop-edge.wiring.edges in
    rw c.in_ok-push.ensures.ok (record {
      sizes = record { inputs = before.sizes.inputs; outputs = before.sizes.outputs; splitters = before.sizes.splitters; gives = before.sizes.gives; takes = before.sizes.takes; merges = before.sizes.merges };
      wired = next.1;
      few = omega (arith, length-append edges (c.in-Some.edge ∷ []));
      lines = edges_push c.args.text.now c.loop-edge.rest.now c.first_line.result.0.now c.first_line.result.1.now edges c.in-Some.edge before.lines c.first_line.ensures next.0;
    })
