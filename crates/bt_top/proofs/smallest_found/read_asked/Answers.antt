use Rattle.std.proofs.Common.{◌≡◌, true, false, inl, inr, subst, Ok, Err}
use Rattle.bt_designs.specs.declared.fault.DesignFault.TheVariants.{Memory}
use Rattle.bt_designs.specs.Requested.{IsSidedRequest}
use Rattle.bt_top.specs.Finding.{IsDesignRequest}
use Rattle.bt_designs.proofs.InTurns.{weaker}
use Rattle.bt_top.proofs.smallest_found.read_asked.Goals as goal

pub returns-in-Ok-read_sided_request-clause-request : goal.returns-in-Ok-read_sided_request-clause-request
returns-in-Ok-read_sided_request-clause-request c =
    inr (
      λ j. let f : false ≡ true = c.if-is_json.ensures.1 j in cc,
      subst (λ rect. IsSidedRequest rect c.args.tier c.args.bytes.now (Ok c.in-Ok-read_sided_request.request)) c.unwrap_or-else-is_json.ensures c.in-Ok-read_sided_request.ensures,
    )

pub returns-in-Err-read_sided_request-clause-request : goal.returns-in-Err-read_sided_request-clause-request
returns-in-Err-read_sided_request-clause-request c =
    let fault = c.in-Err-read_sided_request.fault in
    weaker Memory (IsSidedRequest c.unwrap_or-else-is_json.result c.args.tier c.args.bytes.now) (IsDesignRequest c.args.sides c.args.most c.args.tier c.args.bytes.now) (Err fault)
    (λ r h. inr (λ j. let f : false ≡ true = c.if-is_json.ensures.1 j in cc, subst (λ rect. IsSidedRequest rect c.args.tier c.args.bytes.now r) c.unwrap_or-else-is_json.ensures h))
    c.in-Err-read_sided_request.ensures
