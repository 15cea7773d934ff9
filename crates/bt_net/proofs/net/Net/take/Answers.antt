use Rattle.std.proofs.Common.{◌≡◌, ◌∙◌, None, sym, subst}
use Rattle.bt_net.specs.Network.{network_of, take_of}
use Rattle.bt_net.specs.inner.Preferred.{with_preferred, with_merges}
use Rattle.bt_net.proofs.Preference.{none_preferred, take_with}
use Rattle.bt_net.proofs.net.Net.take.Goals as goal

pub returns-in-None : goal.returns-in-None
returns-in-None c =
    let inside = c.self.inside in
    subst (λ n. None ≡ take_of n c.args.splitter) c.self.view_is
    (subst (λ p. None ≡ take_of (with_merges inside.merges (with_preferred p (network_of inside.inputs inside.outputs inside.splitters inside.edges.items))) c.args.splitter) (sym c.in-None.is)
    (sym (take_with inside.merges (network_of inside.inputs inside.outputs inside.splitters inside.edges.items) c.args.splitter ∙ none_preferred inside.splitters c.args.splitter)))
