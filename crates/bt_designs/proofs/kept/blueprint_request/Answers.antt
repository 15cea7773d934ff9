use Rattle.std.proofs.Common.{refl, inl, [], List, Ok, Err, ap, subst}
use Rattle.bt_model.specs.Requests.{request_of}
use Rattle.bt_model.specs.RequestFaults.{IsMade}
use Rattle.bt_parts.specs.declared.part.Tier.{Tier}
use Rattle.bt_net.specs.declared.network.Block.{Block}
use Rattle.bt_designs.specs.Steps.{stopped, went_on}
use Rattle.bt_designs.proofs.kept.blueprint_request.Goals as goal

pub returns-in-Ok-clause-request : goal.returns-in-Ok-clause-request
returns-in-Ok-clause-request c =
    let net = c.args.drawing.laid.net in
    let demands = c.args.demands.items in
    went_on c.in-Ok.request
    (subst (λ (tier : Tier). IsMade (request_of net c.args.rect tier demands []) (Ok c.in-Ok.request)) c.tier_for.ensures
    (subst (λ (blocks : List Block). IsMade (request_of net c.args.rect c.tier_for.result demands blocks) (Ok c.in-Ok.request)) c.new.ensures.items c.in-Ok.ensures.right))
    refl

pub returns-in-Err-clause-request : goal.returns-in-Err-clause-request
returns-in-Err-clause-request c =
    let net = c.args.drawing.laid.net in
    let demands = c.args.demands.items in
    inl (stopped c.in-Err.fault
    (subst (λ (tier : Tier). IsMade (request_of net c.args.rect tier demands []) (Err c.in-Err.fault)) c.tier_for.ensures
    (subst (λ (blocks : List Block). IsMade (request_of net c.args.rect c.tier_for.result demands blocks) (Err c.in-Err.fault)) c.new.ensures.items c.in-Err.ensures.right))
    (ap Err c.into.ensures))
