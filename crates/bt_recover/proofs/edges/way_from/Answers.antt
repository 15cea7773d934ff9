use Rattle.std.proofs.Common.{length, ap, arith}
use Rattle.std.proofs.lemmas.Bool.{iff_false}
use Rattle.bt_model.proofs.ChainLemmas.{orderly_of}
use Rattle.bt_recover.proofs.EdgeLemmas.{number_at, following_first, following_more, following_output, following_splitter, following_too_long}
use Rattle.bt_recover.proofs.edges.way_from.Goals as goal

pub loop-steps-init : goal.loop-steps-init
loop-steps-init c = following_first c.args.grid.now c.args.first c.speed_at-speed.result c.requires.link c.requires.within c.speed_at-speed.ensures

pub taker-requires-clause-link : goal.taker-requires-clause-link
taker-requires-clause-link c = c.loop-steps.invariant.link

pub taker-requires-clause-within : goal.taker-requires-clause-within
taker-requires-clause-within c = c.loop-steps.invariant.within

pub taker-requires-clause-orderly : goal.taker-requires-clause-orderly
taker-requires-clause-orderly c = orderly_of c.args.grid.now c.requires.clean

pub returns-in_default : goal.returns-in_default
returns-in_default c =
    following_output c.args.grid.now c.args.labels.now.numbers.items c.args.first c.loop-steps.last c.loop-steps._steps c.loop-steps.speed c.index.result.now c.loop-steps.invariant c.in_default.ensures.takes
    (number_at c.args.grid.now c.args.labels.now.numbers.items c.loop-steps.last c.index.result.now c.requires.count c.loop-steps.invariant.within c.index.ensures)

pub returns-then-is_kind : goal.returns-then-is_kind
returns-then-is_kind c =
    following_splitter c.args.grid.now c.args.labels.now.numbers.items c.args.first c.loop-steps.last c.in-Some.next c.loop-steps._steps c.loop-steps.speed c.slowed_by-speed.result c.index-then-is_kind.result.now c.front_of.result
    c.loop-steps.invariant c.in-Some.ensures.takes (c.part.result.now, c.part.ensures.value, c.is_kind.ensures.0 c.if-is_kind.true) c.front_of.ensures c.slowed_by-speed.ensures
    (number_at c.args.grid.now c.args.labels.now.numbers.items c.in-Some.next c.index-then-is_kind.result.now c.requires.count c.in-Some.ensures.within c.index-then-is_kind.ensures)

pub loop-steps-preserved : goal.loop-steps-preserved
loop-steps-preserved c =
    following_more c.args.grid.now c.args.first c.loop-steps.last c.in-Some.next c.loop-steps._steps c.loop-steps.speed c.slowed_by-speed.result c.loop-steps.invariant c.in-Some.ensures.takes
    (c.part.result.now, c.part.ensures.value, iff_false c.is_kind.ensures c.if-is_kind.false) c.in-Some.ensures.within c.slowed_by-speed.ensures

pub unreachable-requires : goal.unreachable-requires
unreachable-requires c =
    following_too_long c.args.grid.now c.requires.clean c.args.first c.loop-steps.last c.loop-steps._steps c.loop-steps.speed c.loop-steps.invariant
    (omega (arith, ap length c.parts-steps-end.ensures.value))
