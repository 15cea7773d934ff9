use Rattle.std.proofs.Common.{Some, Ok, refl, subst}
use Rattle.bt_designs.specs.declared.fault.DesignFault.TheVariants.{Refused}
use Rattle.bt_designs.specs.declared.held.Held.{Held}
use Rattle.bt_designs.specs.Designs.{IsBareDesign}
use Rattle.bt_designs.specs.Steps.{stopped, went_on}
use Rattle.bt_designs.specs.Found.{net_and_used}
use Rattle.bt_designs.specs.Told.{TellsFront}
use Rattle.bt_top.specs.inner.Fronts.{GivesFront}
use Rattle.bt_top.specs.inner.PairParts.{IsPairedChecked, IsSecondChecked}
use Rattle.bt_top.proofs.Fronts.{behind_blanks, found_front, none_dropped, refused_behind}
use Rattle.bt_top.proofs.same_front.behind_first.Goals as goal

pub returns-in-Ok-Some : goal.returns-in-Ok-Some
returns-in-Ok-Some c =
    let first = c.args.first in
    let held : Held = record { skipped = 0; bytes = c.skip_blanks-bytes.result; ended = c.args.ended } in
    let design = c.in-Ok-Some.design in
    let tells : TellsFront IsBareDesign net_and_used held (Ok (Some c.in-Ok-Some.design)) = subst (λ o. TellsFront IsBareDesign net_and_used held (Ok o)) c.in-Ok-Some.field-0-is c.in-Ok-Some.ensures in
    behind_blanks c.args.ended (IsSecondChecked first) c.args.rest.now c.skip_blanks-bytes.result.now tells.0 c.skip_blanks-bytes.ensures c.behind_second.result
    (none_dropped (IsSecondChecked first) held c.behind_second.result refl
    (found_front IsBareDesign net_and_used (IsSecondChecked first) held (λ b. IsPairedChecked first b) (λ all found reply h k. went_on found h k) design.net design.used tells.1 tells.2
    c.behind_second.result
    (subst (λ rest. GivesFront (IsPairedChecked c.args.first c.in-Ok-Some.design.net) c.args.ended rest c.behind_second.result) c.split_at.ensures.back c.behind_second.ensures)))

pub returns-in-Err : goal.returns-in-Err
returns-in-Err c =
    let held : Held = record { skipped = 0; bytes = c.skip_blanks-bytes.result; ended = c.args.ended } in
    refused_behind IsBareDesign net_and_used (IsSecondChecked c.args.first) held refl c.args.rest.now c.skip_blanks-bytes.ensures
    (λ all r h. stopped (Refused r) h refl) c.in-Err.fault c.known_refusal.result c.in-Err.ensures c.known_refusal.ensures
