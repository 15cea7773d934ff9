use Rattle.std.proofs.Common.{◌<◌, false, get_or, sym, subst}
use Rattle.bt_flow.specs.declared.judgement.Test.TheVariants as test
use Rattle.bt_flow.specs.declared.ports.Port.TheVariants.{Unused}
use Rattle.bt_flow.specs.declared.ports.Role.TheVariants.{FromInput}
use Rattle.bt_flow.specs.States.{load_at}
use Rattle.bt_flow.specs.inner.AtPorts.{MeetsAt}
use Rattle.bt_flow.specs.inner.Trials.{Decides}
use Rattle.bt_flow.proofs.AtEdges.{load_read}
use Rattle.bt_flow.proofs.AtPlaces.{port_of_input, has_load, flows_below, marks_below}
use Rattle.bt_flow.proofs.Each.{each}
use Rattle.bt_flow.proofs.Both.{instead}
use Rattle.bt_flow.proofs.trial.Trial.passes_input.Goals as goal

pub meets-requires-clause-flow : goal.meets-requires-clause-flow
meets-requires-clause-flow c =
    let n = c.self.inside.net.now in
    let k = c.args.input in
    let l : k < n.inputs = subst (λ x. k < x.network.inputs) (sym c.self.view_is) c.requires in
    flows_below c.self.inside.net.now c.self.inside.ports c.self.inside.state.now c.self.inside.flows.now c.self.invariant k FromInput (get_or c.self.inside.ports.inputs k Unused)
    (port_of_input c.self.inside.net.now c.self.inside.ports c.self.inside.state.now c.self.inside.flows.now c.self.invariant k l)

pub meets-requires-clause-backed : goal.meets-requires-clause-backed
meets-requires-clause-backed c =
    let n = c.self.inside.net.now in
    let k = c.args.input in
    let l : k < n.inputs = subst (λ x. k < x.network.inputs) (sym c.self.view_is) c.requires in
    marks_below c.self.inside.net.now c.self.inside.ports c.self.inside.state.now c.self.inside.flows.now c.self.invariant k FromInput (get_or c.self.inside.ports.inputs k Unused)
    (port_of_input c.self.inside.net.now c.self.inside.ports c.self.inside.state.now c.self.inside.flows.now c.self.invariant k l)

pub returns : goal.returns
returns c =
    let n = c.self.inside.net.now in
    let t = c.self.inside.state.now in
    let k = c.args.input in
    let l : k < n.inputs = subst (λ x. k < x.network.inputs) (sym c.self.view_is) c.requires in
    let port = get_or c.self.inside.ports.inputs k Unused in
    let is_port = port_of_input n c.self.inside.ports t c.self.inside.flows.now c.self.invariant k l in
    subst (λ x. Decides x test.Input k c.meets.result) c.self.view_is
    (λ s h.
    let x = load_at s k in
    let over = load_read n t s h c.loads.result.now c.loads.ensures k (has_load n c.self.inside.ports t c.self.inside.flows.now c.self.invariant k l) c.index-loads-input.result c.index-loads-input.is in
    let ports = each n FromInput k port is_port (MeetsAt s x false) in
    instead c.meets.result (c.meets.ensures n s x h over) ports.0 ports.1)
