use Rattle.std.proofs.Common.{◌<◌, get_or, sym, subst}
use Rattle.bt_flow.specs.declared.judgement.Test.TheVariants as test
use Rattle.bt_flow.specs.declared.ports.Port.TheVariants.{Unused}
use Rattle.bt_flow.specs.declared.ports.Role.TheVariants.{FromInput}
use Rattle.bt_flow.specs.States.{load_at}
use Rattle.bt_flow.specs.inner.AtPorts.{Admits}
use Rattle.bt_flow.specs.inner.Trials.{Decides}
use Rattle.bt_flow.proofs.AtEdges.{load_read, admits_apart}
use Rattle.bt_flow.proofs.AtPlaces.{port_of_input, has_load}
use Rattle.bt_flow.proofs.Each.{port_within, each_with}
use Rattle.bt_flow.proofs.Both.{instead}
use Rattle.bt_flow.proofs.trial.Trial.passes_load.Goals as goal

pub admits-requires : goal.admits-requires
admits-requires c =
    let n = c.self.inside.net.now in
    let k = c.args.input in
    let l : k < n.inputs = subst (λ x. k < x.network.inputs) (sym c.self.view_is) c.requires in
    port_within n FromInput k (get_or c.self.inside.ports.inputs k Unused) (port_of_input n c.self.inside.ports c.self.inside.state.now c.self.inside.flows.now c.self.invariant k l)

pub returns : goal.returns
returns c =
    let n = c.self.inside.net.now in
    let t = c.self.inside.state.now in
    let k = c.args.input in
    let l : k < n.inputs = subst (λ x. k < x.network.inputs) (sym c.self.view_is) c.requires in
    let port = get_or c.self.inside.ports.inputs k Unused in
    let is_port = port_of_input n c.self.inside.ports t c.self.inside.flows.now c.self.invariant k l in
    subst (λ x. Decides x test.Load k c.admits.result) c.self.view_is
    (λ s h.
    let x = load_at s k in
    let over = load_read n t s h c.loads.result.now c.loads.ensures k (has_load n c.self.inside.ports t c.self.inside.flows.now c.self.invariant k l) c.index-loads-input.result c.index-loads-input.is in
    let ports = each_with n FromInput k port is_port (λ a. Admits s x c.asks_loads.result) in
    let apart = admits_apart n FromInput k s x c.asks_loads.result in
    instead c.admits.result (c.admits.ensures s x h.is_state.positive over) (λ a. rw (← c.asks_loads.ensures) (apart.0 (ports.0 a))) (λ a. ports.1 (apart.1 (rw c.asks_loads.ensures a))))
