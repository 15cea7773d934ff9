use Rattle.std.proofs.Common.{inl, inr}
use Rattle.bt_flow.specs.States.{flow_at}
use Rattle.bt_flow.proofs.AtEdges.{flow_read}
use Rattle.bt_flow.proofs.Both.{instead}
use Rattle.bt_flow.proofs.at_ports.is_empty_beside.Goals as goal

pub returns-else-edge-place : goal.returns-else-edge-place
returns-else-edge-place c = λ n s h.
    let a = c.args.edge in
    let f = flow_read n c.args.state.now s h c.flows.result.now c.flows.ensures.flows a c.requires c.index-flows-edge.result c.index-flows-edge.is in
    instead c.is_nothing.result (c.is_nothing.ensures (flow_at s a) s.denominator h.is_state.positive f) (λ empty. inr empty)
    (λ q. elim q [ inl same ↦ absurd (c.if-edge-place.false same) | inr empty ↦ empty ])
