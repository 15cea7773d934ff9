use Rattle.std.proofs.Common.{Err, refl, subst}
use Rattle.bt_text.specs.Answers.{UnlessMemory}
use Rattle.bt_designs.specs.declared.fault.DesignFault.TheVariants.{Memory, Refused}
use Rattle.bt_top.specs.SameCertificates.{IsSameCertificateChecked}
use Rattle.bt_designs.specs.Steps.{stopped, went_on}
use Rattle.bt_designs.specs.TwoDesigns.{IsPaired}
use Rattle.bt_top.specs.inner.PairParts.{IsPairedChecked}
use Rattle.bt_top.proofs.Fronts.{gives_weaker, tells_refusal}
use Rattle.bt_designs.proofs.ToldParts.{refused_so}
use Rattle.bt_top.proofs.same_front.behind_second.Goals as goal

pub returns-in-Ok : goal.returns-in-Ok
returns-in-Ok c =
    gives_weaker c.args.ended (IsSameCertificateChecked (c.in-Ok.first, c.in-Ok.second)) (IsPairedChecked c.args.first c.args.second) c.args.rest.now
    (λ all reply h. went_on (c.in-Ok.first, c.in-Ok.second) c.in-Ok.ensures.nets h) c.behind_both.result c.behind_both.ensures

pub returns-in-Err : goal.returns-in-Err
returns-in-Err c =
    tells_refusal c.args.ended (IsPairedChecked c.args.first c.args.second) c.args.rest.now c.in-Err.fault c.known_refusal.result c.known_refusal.ensures
    (λ r is more may. stopped (Refused r)
    (refused_so (IsPaired c.args.first c.args.second) r (subst (λ f. UnlessMemory Memory (IsPaired c.args.first c.args.second) (Err f)) is c.in-Err.ensures.nets)) refl)
