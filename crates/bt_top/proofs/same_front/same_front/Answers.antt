use Rattle.std.proofs.Common.{Some, Ok, subst}
use Rattle.bt_designs.specs.Designs.{IsBareDesign}
use Rattle.bt_top.specs.SameCertificates.{IsSameCertified}
use Rattle.bt_designs.specs.Found.{net_and_used}
use Rattle.bt_designs.specs.Told.{TellsFront}
use Rattle.bt_top.specs.inner.Fronts.{GivesFront}
use Rattle.bt_top.specs.inner.PairParts.{IsBehindFirstChecked}
use Rattle.bt_top.proofs.Fronts.{found_front, refused_front}
use Rattle.bt_top.proofs.SameFronts.{first_goes, first_refused}
use Rattle.bt_top.proofs.same_front.same_front.Goals as goal

pub returns-in-Ok-Some : goal.returns-in-Ok-Some
returns-in-Ok-Some c =
    let held = c.args.held in
    let design = c.in-Ok-Some.design in
    let tells : TellsFront IsBareDesign net_and_used c.args.held (Ok (Some c.in-Ok-Some.design)) = subst (λ o. TellsFront IsBareDesign net_and_used c.args.held (Ok o)) c.in-Ok-Some.field-0-is c.in-Ok-Some.ensures in
    found_front IsBareDesign net_and_used IsSameCertified held IsBehindFirstChecked first_goes design.net design.used tells.1 tells.2
    c.behind_first.result
    (subst (λ rest. GivesFront (IsBehindFirstChecked c.in-Ok-Some.design.net) c.args.held.ended rest c.behind_first.result) c.split_at.ensures.back c.behind_first.ensures)

pub returns-in-Err : goal.returns-in-Err
returns-in-Err c =
    refused_front IsBareDesign net_and_used IsSameCertified c.args.held c.in-Err.fault c.known_refusal.result c.in-Err.ensures c.known_refusal.ensures first_refused
