use Rattle.std.proofs.Common.{◌<◌, length, false, get_or, arith}
use Rattle.bt_flow.specs.States.{flow_at}
use Rattle.bt_flow.proofs.AtEdges.{flow_read, mark_read, rests_marked, rests_full}
use Rattle.bt_flow.proofs.at_ports.rests_at.Goals as goal

pub returns-then-backed-place : goal.returns-then-backed-place
returns-then-backed-place c = λ s h.
    rests_marked c.args.net.now c.args.place s (get_or c.backed.result.now c.args.place false) c.args.mark
    (mark_read c.args.net.now c.args.state.now s h c.backed.result.now c.backed.ensures c.args.place) c.if-backed-place.true

pub returns-else-backed-place : goal.returns-else-backed-place
returns-else-backed-place c = λ s h.
    let n = c.args.net.now in
    let t = c.args.state.now in
    let l : c.args.place < length t.flows = let e = c.requires.fits.flows in let p = c.requires.place in omega (arith, e, p) in
    let f = flow_read n t s h c.flows.result.now c.flows.ensures.flows c.args.place l c.index-flows-place.result c.index-flows-place.is in
    rests_full n c.edges.result.now c.args.place _ s c.edges.ensures.edges c.requires.place (get_or c.backed.result.now c.args.place false) c.args.mark
    (mark_read n t s h c.backed.result.now c.backed.ensures c.args.place) c.if-backed-place.false c.is_full.result
    (c.is_full.ensures (flow_at s c.args.place) s.denominator h.is_state.positive f)
