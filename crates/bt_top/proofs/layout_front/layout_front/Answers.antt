use Rattle.std.proofs.Common.{Some, Ok, subst}
use Rattle.bt_top.specs.NoneCertificates.{IsLayoutChecked}
use Rattle.bt_designs.specs.Requested.{IsPinned}
use Rattle.bt_designs.specs.Found.{pinned_of, pinned_and_used}
use Rattle.bt_designs.specs.Told.{TellsFront}
use Rattle.bt_top.specs.inner.Fronts.{GivesFront}
use Rattle.bt_top.specs.inner.RequestParts.{IsRequestChecked}
use Rattle.bt_top.proofs.Fronts.{found_front, refused_front}
use Rattle.bt_top.proofs.LayoutFronts.{design_goes, design_refused}
use Rattle.bt_top.proofs.layout_front.layout_front.Goals as goal

pub returns-in-Ok-Some : goal.returns-in-Ok-Some
returns-in-Ok-Some c =
    let rect = c.args.rect in
    let tier = c.args.tier in
    let held = c.args.held in
    let design = c.in-Ok-Some.design in
    let tells : TellsFront IsPinned pinned_and_used c.args.held (Ok (Some c.in-Ok-Some.design)) = subst (λ o. TellsFront IsPinned pinned_and_used c.args.held (Ok o)) c.in-Ok-Some.field-0-is c.in-Ok-Some.ensures in
    found_front IsPinned pinned_and_used (IsLayoutChecked rect tier) held (IsRequestChecked rect tier) (λ all found reply h k. design_goes rect tier all found reply h k) (pinned_of design) design.used tells.1 tells.2
    c.behind_design.result
    (subst (λ rest. GivesFront (IsRequestChecked c.args.rect c.args.tier (pinned_of c.in-Ok-Some.design)) c.args.held.ended rest c.behind_design.result) c.split_at.ensures.back c.behind_design.ensures)

pub returns-in-Err : goal.returns-in-Err
returns-in-Err c =
    refused_front IsPinned pinned_and_used (IsLayoutChecked c.args.rect c.args.tier) c.args.held c.in-Err.fault c.known_refusal.result c.in-Err.ensures c.known_refusal.ensures
    (λ all r h. design_refused c.args.rect c.args.tier all r h)
