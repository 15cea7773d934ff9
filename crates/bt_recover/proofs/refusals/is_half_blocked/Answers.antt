use Rattle.std.proofs.Common.{refl}
use Rattle.std.proofs.lemmas.Bool.{iff_false}
use Rattle.std.proofs.lemmas.Option.{same_Some}
use Rattle.bt_parts.proofs.Places.{within_at}
use Rattle.bt_recover.proofs.RefusalLemmas.{half_blocked, half_clear, half_under}
use Rattle.bt_recover.proofs.refusals.is_half_blocked.Goals as goal

pub returns-then-is_kind : goal.returns-then-is_kind
returns-then-is_kind c =
    half_under c.args.grid.now c.args.i c.part-giver.result.now c.args.half c.part-giver.ensures.value (c.is_kind.ensures.0 c.if-is_kind.true)

pub returns-in_default : goal.returns-in_default
returns-in_default c =
    half_clear c.args.grid.now c.args.i c.part-giver.result.now c.args.half c.front.result c.part-giver.ensures.value c.front.ensures (c.in_default.ensures.empty.0 refl)

pub part-taker-requires : goal.part-taker-requires
part-taker-requires c = within_at c.args.grid.now c.in-Some.j c.front.result ((c.in-Some.ensures.found c.in-Some.j).0 refl)

pub returns : goal.returns
returns c =
    half_blocked c.args.grid.now c.args.i c.in-Some.j c.part-giver.result.now c.part-taker.result.now c.args.half c.front.result c.side.result c.blocks-2.result
    c.part-giver.ensures.value c.part-taker.ensures.value c.requires.half c.front.ensures ((c.in-Some.ensures.found c.in-Some.j).0 refl)
    (λ k at. same_Some c.in-Some.j k ((c.in-Some.ensures.found k).1 at)) (iff_false c.is_kind.ensures c.if-is_kind.false) c.side.ensures c.blocks-2.ensures
