use Rattle.std.proofs.Common.{◌<◌, get_or, sym, subst}
use Rattle.bt_flow.specs.declared.judgement.Test.TheVariants as test
use Rattle.bt_flow.specs.declared.ports.Port.TheVariants.{Unused}
use Rattle.bt_flow.specs.declared.ports.Role.TheVariants.{ToOutput}
use Rattle.bt_flow.specs.States.{room_at}
use Rattle.bt_flow.specs.inner.AtPorts.{Admits}
use Rattle.bt_flow.specs.inner.Trials.{Decides}
use Rattle.bt_flow.proofs.AtEdges.{room_read, admits_apart}
use Rattle.bt_flow.proofs.AtPlaces.{port_of_output, has_room}
use Rattle.bt_flow.proofs.Each.{port_within, each_with}
use Rattle.bt_flow.proofs.Both.{instead}
use Rattle.bt_flow.proofs.trial.Trial.passes_room.Goals as goal

pub admits-requires : goal.admits-requires
admits-requires c =
    let n = c.self.inside.net.now in
    let k = c.args.output in
    let l : k < n.outputs = subst (λ x. k < x.network.outputs) (sym c.self.view_is) c.requires in
    port_within n ToOutput k (get_or c.self.inside.ports.outputs k Unused) (port_of_output n c.self.inside.ports c.self.inside.state.now c.self.inside.flows.now c.self.invariant k l)

pub returns : goal.returns
returns c =
    let n = c.self.inside.net.now in
    let t = c.self.inside.state.now in
    let k = c.args.output in
    let l : k < n.outputs = subst (λ x. k < x.network.outputs) (sym c.self.view_is) c.requires in
    let port = get_or c.self.inside.ports.outputs k Unused in
    let is_port = port_of_output n c.self.inside.ports t c.self.inside.flows.now c.self.invariant k l in
    subst (λ x. Decides x test.Room k c.admits.result) c.self.view_is
    (λ s h.
    let x = room_at s k in
    let over = room_read n t s h c.rooms.result.now c.rooms.ensures k (has_room n c.self.inside.ports t c.self.inside.flows.now c.self.invariant k l) c.index-rooms-output.result c.index-rooms-output.is in
    let ports = each_with n ToOutput k port is_port (λ a. Admits s x c.asks_rooms.result) in
    let apart = admits_apart n ToOutput k s x c.asks_rooms.result in
    instead c.admits.result (c.admits.ensures s x h.is_state.positive over) (λ a. rw (← c.asks_rooms.ensures) (apart.0 (ports.0 a))) (λ a. ports.1 (apart.1 (rw c.asks_rooms.ensures a))))
