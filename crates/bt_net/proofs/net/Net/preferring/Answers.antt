use Rattle.std.proofs.Common.{◌≡◌, sym, subst}
use Rattle.bt_net.specs.Network.{IsNetwork, IsPrioritised, network_of}
use Rattle.bt_net.specs.Priorities.{preferring}
use Rattle.bt_net.specs.inner.Preferred.{with_merges}
use Rattle.bt_net.proofs.Preference.{preferring_network, preferring_instead}
use Rattle.bt_net.proofs.net.Net.preferring.Goals as goal

pub invariant_of-result : goal.invariant_of-result
invariant_of-result c =
    let inside = c.self.inside in
    let gives = c.args.gives.items in
    let takes = c.args.takes.items in
    subst IsNetwork (preferring_instead inside.merges inside.preferred (network_of inside.inputs inside.outputs inside.splitters inside.edges.items) gives takes)
    (preferring_network _ gives takes c.self.invariant (subst (λ n. IsPrioritised (preferring n gives takes)) (sym c.self.view_is) c.requires))

pub returns : goal.returns
returns c =
    let inside = c.self.inside in
    let gives = c.args.gives.items in
    let takes = c.args.takes.items in
    subst (λ n. with_merges inside.merges (preferring (network_of inside.inputs inside.outputs inside.splitters inside.edges.items) gives takes) ≡ preferring n gives takes) c.self.view_is
    (sym (preferring_instead inside.merges inside.preferred (network_of inside.inputs inside.outputs inside.splitters inside.edges.items) gives takes))
