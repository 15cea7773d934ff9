use Rattle.std.proofs.lemmas.Grind.{common_steps}
use Rattle.std.proofs.Common.{arith}
use Rattle.bt_place.specs.inner.Reaching.{IsMarked}
use Rattle.bt_place.proofs.Marking.{marking_first, marking_more, marking_stops, marking_stopped_keeps, marking_stopped_start, marking_joins, marking_joined_start}
use Rattle.bt_place.proofs.reaching.mark_from.Goals as goal

pub loop-marks-init : goal.loop-marks-init
loop-marks-init c =
    marking_first c.args.reading.now c.requires.solved c.args.marks.now.items c.args.start
    c.requires.marks c.requires.within c.requires.reached

pub returns-in_default-clause-marks : goal.returns-in_default-clause-marks
returns-in_default-clause-marks c =
    marking_stops c.args.reading.now c.requires.solved c.args.marks.now.items c.loop-marks.marks.items c.args.start c.loop-marks.i
    c.loop-marks.invariant c.in_default.ensures

pub returns-in_default-clause-keeps : goal.returns-in_default-clause-keeps
returns-in_default-clause-keeps c =
    marking_stopped_keeps c.args.reading.now c.requires.solved c.args.marks.now.items c.loop-marks.marks.items c.args.start c.loop-marks.i
    c.loop-marks.invariant

pub returns-in_default-clause-start : goal.returns-in_default-clause-start
returns-in_default-clause-start c =
    marking_stopped_start c.args.reading.now c.requires.solved c.args.marks.now.items c.loop-marks.marks.items c.args.start c.loop-marks.i
    c.loop-marks.invariant

pub loop-marks-preserved : goal.loop-marks-preserved
loop-marks-preserved c =
    marking_more c.args.reading.now c.requires.solved c.args.marks.now.items c.loop-marks.marks.items c.args.start c.loop-marks.i c.in-Some.j
    c.loop-marks.invariant c.in-Some.ensures

pub returns-clause-marks : goal.returns-clause-marks
returns-clause-marks c =
    let marked : IsMarked c.loop-marks.marks.items c.loop-marks.i = grind (arith, common_steps) in
    marking_joins c.args.reading.now c.requires.solved c.args.marks.now.items c.loop-marks.marks.items c.args.start c.loop-marks.i
    c.loop-marks.invariant marked

pub returns-clause-keeps : goal.returns-clause-keeps
returns-clause-keeps c = c.loop-marks.invariant.keeps

pub returns-clause-start : goal.returns-clause-start
returns-clause-start c =
    let marked : IsMarked c.loop-marks.marks.items c.loop-marks.i = grind (arith, common_steps) in
    marking_joined_start c.args.reading.now c.requires.solved c.args.marks.now.items c.loop-marks.marks.items c.args.start c.loop-marks.i
    c.loop-marks.invariant marked
