use Rattle.std.proofs.Common.{◌-◌, ◌≤◌, length, Ok, Err, sym, subst, arith}
use Rattle.bt_designs.specs.declared.fault.DesignFault.{DesignFault}
use Rattle.bt_designs.specs.declared.held.TheConstants.{MOST_CHECKED}
use Rattle.bt_designs.specs.Designs.{IsBareDesign}
use Rattle.bt_designs.specs.Longer.{IsSettled}
use Rattle.bt_designs.specs.Found.{net_and_used}
use Rattle.bt_designs.specs.Told.{TellsFront}
use Rattle.bt_designs.specs.inner.ToldParts.{TellsPart}
use Rattle.bt_designs.proofs.ToldParts.{bare_within, bare_last, indented_behind, part_within, read_tells, read_within, settled}
use Rattle.bt_designs.proofs.told.told_bare.Goals as goal

pub told_of-requires-clause-within : goal.told_of-requires-clause-within
told_of-requires-clause-within c =
    let part = c.in-Ok-Some.part.now in
    let is_part = subst (λ o. TellsPart c.args.held (Ok o)) c.in-Ok-Some.field-0-is c.in-Ok-Some.ensures in
    let short : length part ≤ length c.args.held.bytes.now = part_within IsBareDesign IsSettled bare_last c.args.held part is_part in
    let few : length part ≤ MOST_CHECKED - c.args.held.skipped = omega (arith, short, c.requires) in
    read_within IsBareDesign net_and_used part (MOST_CHECKED - c.args.held.skipped) c.read_bare.result (bare_within part (MOST_CHECKED - c.args.held.skipped) few) c.read_bare.ensures.design

pub returns-in-Ok-Some : goal.returns-in-Ok-Some
returns-in-Ok-Some c =
    let part = c.in-Ok-Some.part.now in
    let is_part = subst (λ o. TellsPart c.args.held (Ok o)) c.in-Ok-Some.field-0-is c.in-Ok-Some.ensures in
    read_tells IsBareDesign IsSettled bare_last c.args.held part is_part net_and_used c.read_bare.result c.told_of.result c.read_bare.ensures.design c.read_bare.ensures.within c.told_of.ensures (settled part)

pub returns-in-Err : goal.returns-in-Err
returns-in-Err c =
    subst (λ (fault : DesignFault). TellsFront IsBareDesign net_and_used c.args.held (Err fault)) (sym c.in-Err.ensures.0)
    (c.in-Err.ensures.1.at_hand, indented_behind IsBareDesign IsSettled bare_last c.args.held c.in-Err.ensures.1)
