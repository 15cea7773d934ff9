use Rattle.bt_model.proofs.HandLaws.{belt_giver, entrance_giver, splitter_giver}
use Rattle.bt_recover.proofs.PartnerLaws.{exit_giver, partner_within}
use Rattle.bt_recover.proofs.following.giver.Goals as goal

pub returns-in-Belt-clause-gives : goal.returns-in-Belt-clause-gives
returns-in-Belt-clause-gives c = belt_giver c.args.grid.now c.args.i c.part-part.result.now c.belt_feeder.result c.part-part.ensures.value c.in-Belt.is c.belt_feeder.ensures.feeder

pub returns-in-Entrance-clause-gives : goal.returns-in-Entrance-clause-gives
returns-in-Entrance-clause-gives c = entrance_giver c.args.grid.now c.args.i c.part-part.result.now c.looker.result c.part-part.ensures.value c.in-Entrance.is c.looker.ensures.seen

pub returns-in-Exit-clause-gives : goal.returns-in-Exit-clause-gives
returns-in-Exit-clause-gives c = exit_giver c.args.grid.now c.args.pairs.now c.args.i c.part-part.result.now c.partner.result c.part-part.ensures.value c.in-Exit.is c.requires.partners c.partner.ensures

pub returns-in-Exit-clause-within : goal.returns-in-Exit-clause-within
returns-in-Exit-clause-within c = partner_within c.args.grid.now c.args.pairs.now c.args.i c.partner.result c.requires.partners c.partner.ensures

pub returns-in-Splitter-clause-gives : goal.returns-in-Splitter-clause-gives
returns-in-Splitter-clause-gives c = splitter_giver c.args.grid.now c.args.i c.part-part.result.now c.part-part.ensures.value c.in-Splitter.is c.requires.link
