use Rattle.std.proofs.Common.{pos, ◌<◌, length, arith, ◌≤ℤ◌}
use Rattle.bt_flow.specs.States.{flow_at, cap_in}
use Rattle.bt_flow.proofs.AtEdges.{flow_read, only_edge}
use Rattle.bt_flow.proofs.Both.{instead}
use Rattle.bt_flow.proofs.at_ports.keeps_range.Goals as goal

pub returns : goal.returns
returns c = λ s h.
    let l : c.args.place < length c.args.state.now.flows = let e = c.requires.fits.flows in let p = c.requires.place in omega (arith, e, p) in
    let f = flow_read c.args.net.now c.args.state.now s h c.flows.result.now c.flows.ensures.flows c.args.place l c.index-flows-place.result c.index-flows-place.is in
    let o = only_edge c.args.net.now c.edges.result.now c.args.place _ (λ e. (pos 0 ≤ℤ flow_at s c.args.place) × (flow_at s c.args.place ≤ℤ cap_in s e)) c.edges.ensures.edges c.requires.place in
    instead c.is_within.result (c.is_within.ensures (flow_at s c.args.place) s.denominator h.is_state.positive f) o.0 o.1
