use Rattle.std.proofs.Common.{◌-◌, ◌≤◌, length, Ok, Err, sym, subst, arith}
use Rattle.bt_net.specs.Network.{IsNetwork}
use Rattle.bt_designs.specs.declared.fault.DesignFault.{DesignFault}
use Rattle.bt_designs.specs.declared.held.TheConstants.{MOST_CHECKED}
use Rattle.bt_designs.specs.Designs.{IsDesign}
use Rattle.bt_designs.specs.Longer.{IsSettled}
use Rattle.bt_designs.specs.Found.{net_and_used}
use Rattle.bt_designs.specs.Told.{TellsFront}
use Rattle.bt_designs.specs.inner.ToldParts.{TellsPart}
use Rattle.bt_designs.proofs.OneDesign.{design_network}
use Rattle.bt_designs.proofs.ToldParts.{design_within, designs_last, indented_behind, part_within, read_has, read_tells, read_within, settled}
use Rattle.bt_designs.proofs.told.told_design.Goals as goal

pub told_of-requires-clause-within : goal.told_of-requires-clause-within
told_of-requires-clause-within c =
    let part = c.in-Ok-Some.part.now in
    let is_part = subst (λ o. TellsPart c.args.held (Ok o)) c.in-Ok-Some.field-0-is c.in-Ok-Some.ensures in
    let short : length part ≤ length c.args.held.bytes.now = part_within IsDesign IsSettled designs_last c.args.held part is_part in
    let few : length part ≤ MOST_CHECKED - c.args.held.skipped = omega (arith, short, c.requires) in
    read_within IsDesign net_and_used part (MOST_CHECKED - c.args.held.skipped) c.read_design.result (design_within part (MOST_CHECKED - c.args.held.skipped) few) c.read_design.ensures.design

pub returns-in-Ok-Some-clause-front : goal.returns-in-Ok-Some-clause-front
returns-in-Ok-Some-clause-front c =
    let part = c.in-Ok-Some.part.now in
    let is_part = subst (λ o. TellsPart c.args.held (Ok o)) c.in-Ok-Some.field-0-is c.in-Ok-Some.ensures in
    read_tells IsDesign IsSettled designs_last c.args.held part is_part net_and_used c.read_design.result c.told_of.result c.read_design.ensures.design c.read_design.ensures.within c.told_of.ensures (settled part)

pub returns-in-Ok-Some-clause-network : goal.returns-in-Ok-Some-clause-network
returns-in-Ok-Some-clause-network c =
    read_has IsDesign net_and_used c.in-Ok-Some.part.now IsNetwork c.args.held c.read_design.result c.told_of.result c.read_design.ensures.design c.told_of.ensures (design_network c.in-Ok-Some.part.now)

pub returns-in-Err-clause-front : goal.returns-in-Err-clause-front
returns-in-Err-clause-front c =
    subst (λ (fault : DesignFault). TellsFront IsDesign net_and_used c.args.held (Err fault)) (sym c.in-Err.ensures.0)
    (c.in-Err.ensures.1.at_hand, indented_behind IsDesign IsSettled designs_last c.args.held c.in-Err.ensures.1)
