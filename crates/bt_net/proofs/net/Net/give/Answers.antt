use Rattle.std.proofs.Common.{◌≡◌, ◌∙◌, None, sym, subst}
use Rattle.bt_net.specs.Network.{network_of, give_of}
use Rattle.bt_net.specs.inner.Preferred.{with_preferred, with_merges}
use Rattle.bt_net.proofs.Preference.{none_preferred, give_with}
use Rattle.bt_net.proofs.net.Net.give.Goals as goal

pub returns-in-None : goal.returns-in-None
returns-in-None c =
    let inside = c.self.inside in
    subst (λ n. None ≡ give_of n c.args.splitter) c.self.view_is
    (subst (λ p. None ≡ give_of (with_merges inside.merges (with_preferred p (network_of inside.inputs inside.outputs inside.splitters inside.edges.items))) c.args.splitter) (sym c.in-None.is)
    (sym (give_with inside.merges (network_of inside.inputs inside.outputs inside.splitters inside.edges.items) c.args.splitter ∙ none_preferred inside.splitters c.args.splitter)))
