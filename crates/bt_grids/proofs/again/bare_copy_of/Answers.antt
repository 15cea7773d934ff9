use Rattle.std.proofs.Common.{◌≡◌, ◌∙◌, sym, subst}
use Rattle.bt_net.specs.Network.{IsWired, network_of}
use Rattle.bt_net.specs.NetText.{alone}
use Rattle.bt_net.proofs.OneReading.{alone_wired}
use Rattle.bt_grids.proofs.again.bare_copy_of.Goals as goal

-- the numbers and the edges of a network make it again
pub new-requires : goal.new-requires
new-requires c =
    let n = c.args.net.now in
    let inputs = c.inputs.ensures in
    let outputs = c.outputs.ensures in
    let splitters = c.splitters.ensures in
    let edges = c.in_ok-edges.ensures.items ∙ c.edges.ensures.edges in
    let again : alone n ≡ network_of c.inputs.result c.outputs.result c.splitters.result c.in_ok-edges.edges.items =
    λ i. network_of (sym inputs i) (sym outputs i) (sym splitters i) (sym edges i) in
    subst IsWired again (alone_wired n c.edges.ensures.network.wired)
