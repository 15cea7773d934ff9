use Rattle.std.proofs.Common.{◌<◌, true, get_or, sym, subst}
use Rattle.bt_flow.specs.declared.judgement.Test.TheVariants as test
use Rattle.bt_flow.specs.declared.ports.Port.TheVariants.{Unused}
use Rattle.bt_flow.specs.declared.ports.Role.TheVariants.{ToOutput}
use Rattle.bt_flow.specs.States.{room_at}
use Rattle.bt_flow.specs.inner.AtPorts.{MeetsAt}
use Rattle.bt_flow.specs.inner.Trials.{Decides}
use Rattle.bt_flow.proofs.AtEdges.{room_read}
use Rattle.bt_flow.proofs.AtPlaces.{port_of_output, has_room, flows_below, marks_below}
use Rattle.bt_flow.proofs.Each.{each}
use Rattle.bt_flow.proofs.Both.{instead}
use Rattle.bt_flow.proofs.trial.Trial.passes_output.Goals as goal

pub meets-requires-clause-flow : goal.meets-requires-clause-flow
meets-requires-clause-flow c =
    let n = c.self.inside.net.now in
    let k = c.args.output in
    let l : k < n.outputs = subst (λ x. k < x.network.outputs) (sym c.self.view_is) c.requires in
    flows_below c.self.inside.net.now c.self.inside.ports c.self.inside.state.now c.self.inside.flows.now c.self.invariant k ToOutput (get_or c.self.inside.ports.outputs k Unused)
    (port_of_output c.self.inside.net.now c.self.inside.ports c.self.inside.state.now c.self.inside.flows.now c.self.invariant k l)

pub meets-requires-clause-backed : goal.meets-requires-clause-backed
meets-requires-clause-backed c =
    let n = c.self.inside.net.now in
    let k = c.args.output in
    let l : k < n.outputs = subst (λ x. k < x.network.outputs) (sym c.self.view_is) c.requires in
    marks_below c.self.inside.net.now c.self.inside.ports c.self.inside.state.now c.self.inside.flows.now c.self.invariant k ToOutput (get_or c.self.inside.ports.outputs k Unused)
    (port_of_output c.self.inside.net.now c.self.inside.ports c.self.inside.state.now c.self.inside.flows.now c.self.invariant k l)

pub returns : goal.returns
returns c =
    let n = c.self.inside.net.now in
    let t = c.self.inside.state.now in
    let k = c.args.output in
    let l : k < n.outputs = subst (λ x. k < x.network.outputs) (sym c.self.view_is) c.requires in
    let port = get_or c.self.inside.ports.outputs k Unused in
    let is_port = port_of_output n c.self.inside.ports t c.self.inside.flows.now c.self.invariant k l in
    subst (λ x. Decides x test.Output k c.meets.result) c.self.view_is
    (λ s h.
    let x = room_at s k in
    let over = room_read n t s h c.rooms.result.now c.rooms.ensures k (has_room n c.self.inside.ports t c.self.inside.flows.now c.self.invariant k l) c.index-rooms-output.result c.index-rooms-output.is in
    let ports = each n ToOutput k port is_port (MeetsAt s x true) in
    instead c.meets.result (c.meets.ensures n s x h over) ports.0 ports.1)
