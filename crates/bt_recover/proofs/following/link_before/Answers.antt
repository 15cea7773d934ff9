use Rattle.std.proofs.lemmas.Bool.{iff_false}
use Rattle.bt_model.proofs.HandLaws.{no_link_before}
use Rattle.bt_recover.proofs.following.link_before.Goals as goal

pub returns-in_default : goal.returns-in_default
returns-in_default c = λ p link. c.in_default.ensures.gives p link.2

pub returns-then-is_kind : goal.returns-then-is_kind
returns-then-is_kind c =
    no_link_before c.args.grid.now c.requires.orderly c.args.i c.in-Some.p c.part.result.now c.requires.link c.in-Some.ensures.gives c.part.ensures.value (c.is_kind.ensures.0 c.if-is_kind.true)

pub returns-else-is_kind : goal.returns-else-is_kind
returns-else-is_kind c = ((c.part.result.now, c.part.ensures.value, iff_false c.is_kind.ensures c.if-is_kind.false), c.requires.link, c.in-Some.ensures.gives)
