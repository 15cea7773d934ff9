use Rattle.std.proofs.Common.{false, get_or}
use Rattle.bt_flow.specs.States.{flow_at, backed_at}
use Rattle.bt_flow.proofs.Both.{fails_first}
use Rattle.bt_flow.proofs.AtEdges.{flow_read, mark_read, meets_other, meets_mark}
use Rattle.bt_flow.proofs.at_ports.meets_at.Goals as goal

pub returns-then-backed-place : goal.returns-then-backed-place
returns-then-backed-place c = λ n s l h e.
    let f = flow_read n c.args.state.now s h c.flows.result.now c.flows.ensures.flows c.args.place c.requires.flow c.index-flows-place.result c.index-flows-place.is in
    meets_other c.is_at_most.result (get_or c.backed.result.now c.args.place false) c.args.mark (backed_at s c.args.place)
    (mark_read n c.args.state.now s h c.backed.result.now c.backed.ensures c.args.place)
    c.if-is_at_most.true c.if-backed-place.true (c.is_at_most.ensures (flow_at s c.args.place) l s.denominator h.is_state.positive f e)

pub returns-else-backed-place : goal.returns-else-backed-place
returns-else-backed-place c = λ n s l h e.
    let f = flow_read n c.args.state.now s h c.flows.result.now c.flows.ensures.flows c.args.place c.requires.flow c.index-flows-place.result c.index-flows-place.is in
    meets_mark c.is_at_most.result (get_or c.backed.result.now c.args.place false) c.args.mark c.is_same.result (backed_at s c.args.place)
    (mark_read n c.args.state.now s h c.backed.result.now c.backed.ensures c.args.place) c.if-is_at_most.true c.if-backed-place.false
    (c.is_at_most.ensures (flow_at s c.args.place) l s.denominator h.is_state.positive f e) (c.is_same.ensures (flow_at s c.args.place) l s.denominator h.is_state.positive f e)

pub returns-else-is_at_most : goal.returns-else-is_at_most
returns-else-is_at_most c = λ n s l h e.
    let f = flow_read n c.args.state.now s h c.flows.result.now c.flows.ensures.flows c.args.place c.requires.flow c.index-flows-place.result c.index-flows-place.is in
    fails_first c.is_at_most.result c.if-is_at_most.false (c.is_at_most.ensures (flow_at s c.args.place) l s.denominator h.is_state.positive f e)
