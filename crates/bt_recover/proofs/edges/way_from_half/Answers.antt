use Rattle.std.proofs.Common.{refl}
use Rattle.bt_parts.proofs.Places.{within_at}
use Rattle.bt_recover.proofs.EdgeLemmas.{number_at, half_feeds, leads_at_once, leads_from_half, half_starts_none}
use Rattle.bt_recover.proofs.edges.way_from_half.Goals as goal

pub returns-in_default : goal.returns-in_default
returns-in_default c =
    half_starts_none c.args.grid.now c.args.s c.args.half c.front-ahead.result c.part.result.now c.part.ensures.value c.front-ahead.ensures (c.in_default.ensures.empty.0 refl)

pub part-requires-2 : goal.part-requires-2
part-requires-2 c = within_at c.args.grid.now c.in-Some.next c.front-ahead.result ((c.in-Some.ensures.found c.in-Some.next).0 refl)

pub way_from-way-requires-clause-within : goal.way_from-way-requires-clause-within
way_from-way-requires-clause-within c = within_at c.args.grid.now c.in-Some.next c.front-ahead.result ((c.in-Some.ensures.found c.in-Some.next).0 refl)

pub returns-then-is_kind : goal.returns-then-is_kind
returns-then-is_kind c =
    leads_at_once c.args.grid.now c.args.labels.now.numbers.items c.args.s c.in-Some.next c.speed_at.result c.slowed_by.result c.index.result.now c.args.half c.front-ahead.result c.part.result.now c.part.ensures.value c.front-ahead.ensures c.requires.splitter
    (half_feeds c.args.grid.now c.requires.clean c.args.s c.in-Some.next c.args.half c.front-ahead.result c.part.result.now c.part.ensures.value c.requires.splitter c.requires.half c.front-ahead.ensures
    ((c.in-Some.ensures.found c.in-Some.next).0 refl))
    (c.part-2.result.now, c.part-2.ensures.value, c.is_kind.ensures.0 c.if-is_kind.true) c.speed_at.ensures c.slowed_by.ensures
    (number_at c.args.grid.now c.args.labels.now.numbers.items c.in-Some.next c.index.result.now c.requires.count
    (within_at c.args.grid.now c.in-Some.next c.front-ahead.result ((c.in-Some.ensures.found c.in-Some.next).0 refl)) c.index.ensures)

pub returns : goal.returns
returns c =
    leads_from_half c.args.grid.now c.requires.clean c.args.labels.now.numbers.items c.args.s c.in-Some.next c.slowed_by-2.result c.args.half c.way_from-way.result c.requires.splitter
    (half_feeds c.args.grid.now c.requires.clean c.args.s c.in-Some.next c.args.half c.front-ahead.result c.part.result.now c.part.ensures.value c.requires.splitter c.requires.half c.front-ahead.ensures
    ((c.in-Some.ensures.found c.in-Some.next).0 refl))
    c.way_from-way.ensures c.slowed_by-2.ensures
