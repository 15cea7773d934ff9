use Rattle.std.proofs.Common.{◌≡◌, sym, ◌∙◌, subst}
use Rattle.bt_net.specs.Network.{IsNetwork}
use Rattle.bt_model.specs.Requests.{request_of}
use Rattle.bt_grids.proofs.again.request_on.Goals as goal

pub copy_of-requires : goal.copy_of-requires
copy_of-requires c = subst IsNetwork (sym c.net.ensures.net) c.net.ensures.request.net

pub returns-in-Ok : goal.returns-in-Ok
returns-in-Ok c =
    let r = c.args.request.now in
    let copy : c.in_ok-net.net ≡ r.net = c.in_ok-net.ensures ∙ c.net.ensures.net in
    let demands : c.in_ok-demands.demands.items ≡ r.demands = c.in_ok-demands.ensures.items ∙ c.demands.ensures in
    let blocks : c.new-blocks.result.items ≡ r.blocks = c.new-blocks.ensures.items ∙ sym c.requires.cells.blocks in
    c.in-Ok.ensures.right.0 ∙ (λ i. request_of (copy i) c.args.grid (c.tier.ensures i) (demands i) (blocks i))
