use Rattle.std.proofs.Common.{inl, inr, sym, ap}
use Rattle.bt_designs.specs.declared.fault.DesignFault.TheVariants.{Refused}
use Rattle.bt_designs.specs.declared.refusal.Refusal.TheVariants.{TooLarge}
use Rattle.bt_top.specs.NoneCertificates.{IsNoneCertificateChecked}
use Rattle.bt_print.specs.Replies.{UnlessLarge, design_told}
use Rattle.bt_top.proofs.AskedOfAny.{has_formula_then, has_none_else}
use Rattle.bt_top.proofs.Fronts.{gives_weaker, tells_refusal}
use Rattle.bt_top.proofs.layout_front.behind_large.Goals as goal

pub returns-then-has : goal.returns-then-has
returns-then-has c =
    let r = c.args.request.now in
    gives_weaker c.args.ended (IsNoneCertificateChecked r) (λ text. UnlessLarge (λ r. IsNoneCertificateChecked r text) r) c.args.rest.now
    (λ all reply h. inl (has_formula_then r c.in_ok-has.has c.in_ok-has.ensures c.if-has.true, h)) c.behind_request.result c.behind_request.ensures

pub returns-else-has : goal.returns-else-has
returns-else-has c =
    let r = c.args.request.now in
    tells_refusal c.args.ended (λ text. UnlessLarge (λ r. IsNoneCertificateChecked r text) r) c.args.rest.now (Refused TooLarge) c.known_refusal.result c.known_refusal.ensures
    (λ why is more may. inr (has_none_else r c.in_ok-has.has c.in_ok-has.ensures c.if-has.false, sym (ap design_told is)))
