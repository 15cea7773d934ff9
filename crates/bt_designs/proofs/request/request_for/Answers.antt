use Rattle.std.proofs.Common.{refl, inl, Ok, Err, ap, subst}
use Rattle.bt_model.specs.Requests.{request_of}
use Rattle.bt_model.specs.RequestFaults.{IsMade}
use Rattle.bt_parts.specs.declared.part.Tier.{Tier}
use Rattle.bt_designs.specs.Steps.{stopped, went_on}
use Rattle.bt_designs.proofs.request.request_for.Goals as goal

pub returns-in-Ok : goal.returns-in-Ok
returns-in-Ok c =
    went_on c.in-Ok.request
    (subst (λ (tier : Tier). IsMade (request_of c.args.design.net c.args.rect tier c.args.design.demands.items c.args.design.blocks.items) (Ok c.in-Ok.request)) c.tier_for.ensures
    c.in-Ok.ensures.right)
    refl

pub returns-in-Err : goal.returns-in-Err
returns-in-Err c =
    inl (stopped c.in-Err.fault
    (subst (λ (tier : Tier). IsMade (request_of c.args.design.net c.args.rect tier c.args.design.demands.items c.args.design.blocks.items) (Err c.in-Err.fault)) c.tier_for.ensures
    c.in-Err.ensures.right) (ap Err c.into.ensures))
