use Rattle.std.proofs.Common.{ap, refl, sym, subst, ◌∙◌}
use Rattle.bt_net.specs.Network.{IsNetwork}
use Rattle.bt_net.specs.NetText.{alone}
use Rattle.bt_net.proofs.Preference.{alone_instead, alone_network}
use Rattle.bt_net.proofs.net.Net.alone.Goals as goal

pub invariant_of-result : goal.invariant_of-result
invariant_of-result c =
    let inside = c.self.inside in
    subst IsNetwork (alone_instead inside.merges inside.preferred inside.inputs inside.outputs inside.splitters inside.edges.items) (alone_network _ c.self.invariant)

pub returns : goal.returns
returns c =
    let inside = c.self.inside in
    record {
      net = sym (alone_instead inside.merges inside.preferred inside.inputs inside.outputs inside.splitters inside.edges.items) ∙ ap alone c.self.view_is;
      plain = record { gives = refl; takes = refl; merges = refl };
    }
