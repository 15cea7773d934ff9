use Rattle.std.proofs.Common.{◌<◌, ◌≤ℤ◌, length}
use Rattle.bt_flow.specs.States.{flow_at}
use Rattle.bt_flow.proofs.Both.{port_one, port_two, port_fails}
use Rattle.bt_flow.proofs.AtEdges.{flow_read, port_one_is, port_first_is, port_second_is}
use Rattle.bt_flow.proofs.at_ports.is_greatest.Goals as goal

pub returns-in-One : goal.returns-in-One
returns-in-One c = λ n s h.
    let t = c.args.state.now in
    let f = flow_read n t s h c.flows.result.now c.flows.ensures.flows c.args.place c.requires.place c.index-flows-place.result c.index-flows-place.is in
    let only = port_one_is (λ a. a < length t.flows) c.args.port c.in-One.only c.in-One.is c.requires.port in
    let g = flow_read n t s h c.flows-in-One.result.now c.flows-in-One.ensures.flows c.in-One.only only c.index-flows-only.result c.index-flows-only.is in
    port_one (λ b. flow_at s b ≤ℤ flow_at s c.args.place) c.args.port c.in-One.only c.is_at_most.result c.in-One.is
    (c.is_at_most.ensures (flow_at s c.in-One.only) (flow_at s c.args.place) s.denominator h.is_state.positive g f)

pub returns-then-is_at_most : goal.returns-then-is_at_most
returns-then-is_at_most c = λ n s h.
    let t = c.args.state.now in
    let f = flow_read n t s h c.flows.result.now c.flows.ensures.flows c.args.place c.requires.place c.index-flows-place.result c.index-flows-place.is in
    let first = port_first_is (λ a. a < length t.flows) c.args.port c.in-Two.first c.in-Two.second c.in-Two.is c.requires.port in
    let second = port_second_is (λ a. a < length t.flows) c.args.port c.in-Two.first c.in-Two.second c.in-Two.is c.requires.port in
    let g = flow_read n t s h c.flows-in-Two.result.now c.flows-in-Two.ensures.flows c.in-Two.first first c.index-flows-first.result c.index-flows-first.is in
    let k = flow_read n t s h c.flows-then-is_at_most.result.now c.flows-then-is_at_most.ensures.flows c.in-Two.second second c.index-flows-second.result c.index-flows-second.is in
    port_two (λ b. flow_at s b ≤ℤ flow_at s c.args.place) c.args.port c.in-Two.first c.in-Two.second c.is_at_most-in-Two.result c.is_at_most-then-is_at_most.result c.in-Two.is c.if-is_at_most.true
    (c.is_at_most-in-Two.ensures (flow_at s c.in-Two.first) (flow_at s c.args.place) s.denominator h.is_state.positive g f)
    (c.is_at_most-then-is_at_most.ensures (flow_at s c.in-Two.second) (flow_at s c.args.place) s.denominator h.is_state.positive k f)

pub returns-else-is_at_most : goal.returns-else-is_at_most
returns-else-is_at_most c = λ n s h.
    let t = c.args.state.now in
    let f = flow_read n t s h c.flows.result.now c.flows.ensures.flows c.args.place c.requires.place c.index-flows-place.result c.index-flows-place.is in
    let first = port_first_is (λ a. a < length t.flows) c.args.port c.in-Two.first c.in-Two.second c.in-Two.is c.requires.port in
    let g = flow_read n t s h c.flows-in-Two.result.now c.flows-in-Two.ensures.flows c.in-Two.first first c.index-flows-first.result c.index-flows-first.is in
    port_fails (λ b. flow_at s b ≤ℤ flow_at s c.args.place) c.args.port c.in-Two.first c.in-Two.second c.is_at_most-in-Two.result c.in-Two.is c.if-is_at_most.false
    (c.is_at_most-in-Two.ensures (flow_at s c.in-Two.first) (flow_at s c.args.place) s.denominator h.is_state.positive g f)
