use Rattle.std.proofs.Common.{ap, length, subst, ⊎_elim, arith, refl}
use Rattle.bt_model.specs.Requests.{request_of}
use Rattle.bt_model.specs.RequestFaults.{IsLeast, HasNone, IsTooLarge, IsPinRefused, IsBlockRefused}
use Rattle.bt_model.proofs.Requested.{made_answers, request_where_none}
use Rattle.bt_model.proofs.request.Request.new.Goals as goal

pub returns-in-Some : goal.returns-in-Some
returns-in-Some c =
    let small : IsTooLarge c.args.net → ⊥ = ⊎_elim (λ lt. omega (arith, ap length c.edges.ensures.edges)) (λ lt. omega arith) in
    made_answers (request_of c.args.net c.args.rect c.args.tier c.args.demands.items c.args.blocks.items) _ (small, c.in-Some.ensures)

pub returns-in-Some-refused_demand : goal.returns-in-Some-refused_demand
returns-in-Some-refused_demand c =
    let small : IsTooLarge c.args.net → ⊥ = ⊎_elim (λ lt. omega (arith, ap length c.edges.ensures.edges)) (λ lt. omega arith) in
    made_answers (request_of c.args.net c.args.rect c.args.tier c.args.demands.items c.args.blocks.items) _
    (small, c.in_default.ensures, subst (λ demands. IsLeast (IsPinRefused c.args.net c.args.rect demands) c.in-Some-refused_demand.line) c.deref.ensures.value (c.in-Some-refused_demand.ensures))

pub returns-in-Some-refused_block : goal.returns-in-Some-refused_block
returns-in-Some-refused_block c =
    let small : IsTooLarge c.args.net → ⊥ = ⊎_elim (λ lt. omega (arith, ap length c.edges.ensures.edges)) (λ lt. omega arith) in
    made_answers (request_of c.args.net c.args.rect c.args.tier c.args.demands.items c.args.blocks.items) _ (
      small,
      c.in_default.ensures,
      subst (λ demands. HasNone (IsPinRefused c.args.net c.args.rect demands)) c.deref.ensures.value (c.in_default-refused_demand.ensures),
      subst (λ blocks. IsLeast (IsBlockRefused c.args.rect c.args.demands.items blocks) c.in-Some-refused_block.line) c.deref-3.ensures.value
          (subst (λ demands. IsLeast (IsBlockRefused c.args.rect demands c.deref-3.result.now) c.in-Some-refused_block.line) c.deref-2.ensures.value (c.in-Some-refused_block.ensures)),
    )

pub invariant_of-result : goal.invariant_of-result
invariant_of-result c =
    let small : IsTooLarge c.args.net → ⊥ = ⊎_elim (λ lt. omega (arith, ap length c.edges.ensures.edges)) (λ lt. omega arith) in
    request_where_none (request_of c.args.net c.args.rect c.args.tier c.args.demands.items c.args.blocks.items) c.edges.ensures.network c.requires small (c.in_default.ensures)
    (subst (λ demands. HasNone (IsPinRefused c.args.net c.args.rect demands)) c.deref.ensures.value (c.in_default-refused_demand.ensures))
    (subst (λ blocks. HasNone (IsBlockRefused c.args.rect c.args.demands.items blocks)) c.deref-3.ensures.value
    (subst (λ demands. HasNone (IsBlockRefused c.args.rect demands c.deref-3.result.now)) c.deref-2.ensures.value (c.in_default-refused_block.ensures)))

pub returns : goal.returns
returns c = made_answers (request_of c.args.net c.args.rect c.args.tier c.args.demands.items c.args.blocks.items) _ (refl, invariant_of-result c)
