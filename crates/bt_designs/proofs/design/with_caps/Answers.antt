use Rattle.std.proofs.Common.{map, ap, ◌∙◌}
use Rattle.bt_designs.specs.Designs.{with_cap}
use Rattle.bt_designs.proofs.CappedNets.{wired_as}
use Rattle.bt_designs.proofs.design.with_caps.Goals as goal

pub new-requires : goal.new-requires
new-requires c =
    wired_as c.args.cap c.args.net.now c.requires c.edges.ensures.network _ _ _ _ c.inputs.ensures c.outputs.ensures c.splitters.ensures
    (c.in_ok-edges.ensures ∙ ap (map (with_cap c.args.cap)) c.edges.ensures.edges)
