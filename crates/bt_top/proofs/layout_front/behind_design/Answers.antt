use Rattle.std.proofs.Common.{Err, refl, subst}
use Rattle.bt_text.specs.Answers.{UnlessMemory}
use Rattle.bt_designs.specs.declared.fault.DesignFault.TheVariants.{Memory, Refused}
use Rattle.bt_top.specs.NoneCertificates.{IsNoneCertificateChecked}
use Rattle.bt_print.specs.Replies.{UnlessLarge}
use Rattle.bt_designs.specs.Requested.{IsRequestFor}
use Rattle.bt_designs.specs.Steps.{stopped, went_on}
use Rattle.bt_designs.specs.Found.{pinned_of}
use Rattle.bt_top.specs.inner.RequestParts.{IsRequestChecked}
use Rattle.bt_top.proofs.Fronts.{gives_weaker, tells_refusal}
use Rattle.bt_designs.proofs.ToldParts.{refused_so}
use Rattle.bt_top.proofs.layout_front.behind_design.Goals as goal

pub returns-in-Ok : goal.returns-in-Ok
returns-in-Ok c =
    gives_weaker c.args.ended (λ text. UnlessLarge (λ r. IsNoneCertificateChecked r text) c.in-Ok.request) (IsRequestChecked c.args.rect c.args.tier (pinned_of c.args.design)) c.args.rest.now
    (λ all reply h. went_on c.in-Ok.request c.in-Ok.ensures h) c.behind_large.result c.behind_large.ensures

pub returns-in-Err : goal.returns-in-Err
returns-in-Err c =
    tells_refusal c.args.ended (IsRequestChecked c.args.rect c.args.tier (pinned_of c.args.design)) c.args.rest.now c.in-Err.fault c.known_refusal.result c.known_refusal.ensures
    (λ r is more may. stopped (Refused r)
    (refused_so (IsRequestFor c.args.rect c.args.tier (pinned_of c.args.design)) r
    (subst (λ f. UnlessMemory Memory (IsRequestFor c.args.rect c.args.tier (pinned_of c.args.design)) (Err f)) is c.in-Err.ensures)) refl)
