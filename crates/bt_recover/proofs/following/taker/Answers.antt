use Rattle.std.proofs.lemmas.Bool.{iff_false}
use Rattle.bt_model.proofs.HandLaws.{front_taker, at_within}
use Rattle.bt_recover.proofs.PartnerLaws.{entrance_taker, partner_within}
use Rattle.bt_recover.proofs.following.taker.Goals as goal

pub returns-then-is_kind-clause-takes : goal.returns-then-is_kind-clause-takes
returns-then-is_kind-clause-takes c =
    entrance_taker c.args.grid.now c.args.pairs.now c.args.i c.part-part.result.now c.partner.result c.part-part.ensures.value
    (c.is_kind.ensures.0 c.if-is_kind.true) c.requires.partners c.partner.ensures

pub returns-then-is_kind-clause-within : goal.returns-then-is_kind-clause-within
returns-then-is_kind-clause-within c = partner_within c.args.grid.now c.args.pairs.now c.args.i c.partner.result c.requires.partners c.partner.ensures

pub returns-clause-takes : goal.returns-clause-takes
returns-clause-takes c =
    front_taker c.args.grid.now c.requires.orderly c.args.i c.part-part.result.now c.front.result c.at.result c.part-part.ensures.value c.requires.link
    (iff_false c.is_kind.ensures c.if-is_kind.false) c.front.ensures c.at.ensures.found

pub returns-clause-within : goal.returns-clause-within
returns-clause-within c = at_within c.args.grid.now c.front.result c.at.result c.at.ensures.found
