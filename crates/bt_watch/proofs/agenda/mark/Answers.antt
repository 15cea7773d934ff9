use Rattle.std.proofs.Common.{◌<◌, arith, length}
use Rattle.bt_watch.proofs.Marks.{marks_more}
use Rattle.bt_watch.proofs.agenda.mark.Goals as goal

pub returns-then-end-place-clause-adds : goal.returns-then-end-place-clause-adds
returns-then-end-place-clause-adds c =
    let below : c.args.place < length c.loop-marks.marks.items = omega (arith, c.loop-marks-test.false, c.len.ensures, c.loop-marks.marks.ok.0) in
    marks_more c.args.marks.now.items c.loop-marks.marks.items c.args.place below c.loop-marks.invariant.same

pub returns-else-end-place-clause-adds : goal.returns-else-end-place-clause-adds
returns-else-end-place-clause-adds c =
    let below : c.args.place < length c.loop-marks.marks.items = omega (arith, c.loop-marks-test.false, c.len.ensures, c.loop-marks.marks.ok.0) in
    marks_more c.args.marks.now.items c.loop-marks.marks.items c.args.place below c.loop-marks.invariant.same
