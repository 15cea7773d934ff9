use Rattle.std.proofs.Common.{refl}
use Rattle.std.proofs.lemmas.Bool.{iff_false}
use Rattle.std.proofs.lemmas.Option.{same_Some}
use Rattle.bt_parts.proofs.Places.{within_at}
use Rattle.bt_model.proofs.SightLemmas.{looker_found, looker_missed, looker_at}
use Rattle.bt_recover.proofs.sight.looker.Goals as goal

pub returns-in_default-clause-seen : goal.returns-in_default-clause-seen
returns-in_default-clause-seen c = λ p toward.
    c.in_default.ensures.empty.0 refl p (looker_at c.args.grid.now c.args.cell c.ahead.result c.args.dir c.opposite.result p c.opposite.ensures c.ahead.ensures toward)

pub part-requires : goal.part-requires
part-requires c = within_at c.args.grid.now c.in-Some.p c.ahead.result ((c.in-Some.ensures.found c.in-Some.p).0 refl)

pub returns-then-looks_along-clause-seen : goal.returns-then-looks_along-clause-seen
returns-then-looks_along-clause-seen c =
    looker_found c.args.grid.now c.args.cell c.ahead.result c.args.dir c.opposite.result c.in-Some.p c.part.result.now c.opposite.ensures c.ahead.ensures
    c.part.ensures.value ((c.in-Some.ensures.found c.in-Some.p).0 refl) (c.looks_along.ensures.0 c.if-looks_along.true)

pub returns-then-looks_along-clause-within : goal.returns-then-looks_along-clause-within
returns-then-looks_along-clause-within c = within_at c.args.grid.now c.in-Some.p c.ahead.result ((c.in-Some.ensures.found c.in-Some.p).0 refl)

pub returns-else-looks_along-clause-seen : goal.returns-else-looks_along-clause-seen
returns-else-looks_along-clause-seen c =
    looker_missed c.args.grid.now c.args.cell c.ahead.result c.args.dir c.opposite.result c.in-Some.p c.part.result.now c.opposite.ensures c.ahead.ensures
    c.part.ensures.value (λ q at. same_Some c.in-Some.p q ((c.in-Some.ensures.found q).1 at)) (iff_false c.looks_along.ensures c.if-looks_along.false)
