use Rattle.std.proofs.lemmas.Bool.{iff_false}
use Rattle.bt_model.proofs.HandLaws.{no_link_after, output_hands_none}
use Rattle.bt_recover.proofs.following.link_after.Goals as goal

pub returns-in_default-clause-next : goal.returns-in_default-clause-next
returns-in_default-clause-next c = λ j link. output_hands_none c.args.grid.now c.args.i c.in_default.ensures.takes j link.2

pub returns-then-is_kind-clause-next : goal.returns-then-is_kind-clause-next
returns-then-is_kind-clause-next c =
    no_link_after c.args.grid.now c.requires.orderly c.args.i c.in-Some.j c.part.result.now c.requires.link c.in-Some.ensures.takes c.part.ensures.value (c.is_kind.ensures.0 c.if-is_kind.true)

pub returns-else-is_kind-clause-next : goal.returns-else-is_kind-clause-next
returns-else-is_kind-clause-next c = (c.requires.link, (c.part.result.now, c.part.ensures.value, iff_false c.is_kind.ensures c.if-is_kind.false), c.in-Some.ensures.takes)
