use Rattle.std.proofs.Common.{Some, Ok, refl, subst}
use Rattle.bt_designs.specs.declared.fault.DesignFault.TheVariants.{Refused}
use Rattle.bt_top.specs.Certificates.{IsCertificateChecked, IsChecked}
use Rattle.bt_designs.specs.Designs.{IsDesign}
use Rattle.bt_designs.specs.Steps.{stopped, went_on}
use Rattle.bt_designs.specs.Found.{net_and_used}
use Rattle.bt_designs.specs.Told.{TellsFront}
use Rattle.bt_top.specs.inner.Fronts.{GivesFront}
use Rattle.bt_top.proofs.Fronts.{found_front, refused_front}
use Rattle.bt_top.proofs.flow_front.flow_front.Goals as goal

pub returns-in-Ok-Some : goal.returns-in-Ok-Some
returns-in-Ok-Some c =
    let p = c.args.property in
    let held = c.args.held in
    let design = c.in-Ok-Some.design in
    let tells : TellsFront IsDesign net_and_used c.args.held (Ok (Some c.in-Ok-Some.design)) = subst (λ o. TellsFront IsDesign net_and_used c.args.held (Ok o)) c.in-Ok-Some.field-0-is c.in-Ok-Some.ensures.front in
    found_front IsDesign net_and_used (IsChecked p) held (λ n. IsCertificateChecked n p) (λ all found reply h k. went_on found h k) design.net design.used tells.1 tells.2
    c.behind_design.result
    (subst (λ rest. GivesFront (IsCertificateChecked c.in-Ok-Some.design.net c.args.property) c.args.held.ended rest c.behind_design.result) c.split_at.ensures.back c.behind_design.ensures)

pub returns-in-Err : goal.returns-in-Err
returns-in-Err c =
    refused_front IsDesign net_and_used (IsChecked c.args.property) c.args.held c.in-Err.fault c.known_refusal.result c.in-Err.ensures.front c.known_refusal.ensures
    (λ all r h. stopped (Refused r) h refl)
