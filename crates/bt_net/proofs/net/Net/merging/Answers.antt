use Rattle.std.proofs.Common.{◌≡◌, sym, subst}
use Rattle.bt_net.specs.Network.{IsNetwork, IsPrioritised, network_of}
use Rattle.bt_net.specs.Priorities.{merging}
use Rattle.bt_net.specs.inner.Preferred.{with_preferred}
use Rattle.bt_net.proofs.Preference.{merging_network, merging_instead}
use Rattle.bt_net.proofs.net.Net.merging.Goals as goal

pub invariant_of-result : goal.invariant_of-result
invariant_of-result c =
    let inside = c.self.inside in
    let merges = c.args.merges.items in
    subst IsNetwork (merging_instead inside.merges (with_preferred inside.preferred (network_of inside.inputs inside.outputs inside.splitters inside.edges.items)) merges)
    (merging_network _ merges c.self.invariant (subst (λ n. IsPrioritised (merging n merges)) (sym c.self.view_is) c.requires))

pub returns : goal.returns
returns c =
    let inside = c.self.inside in
    let merges = c.args.merges.items in
    let named = with_preferred inside.preferred (network_of inside.inputs inside.outputs inside.splitters inside.edges.items) in
    subst (λ n. merging named merges ≡ merging n merges) c.self.view_is (sym (merging_instead inside.merges named merges))
