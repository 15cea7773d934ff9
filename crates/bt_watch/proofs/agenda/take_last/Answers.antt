use Rattle.bt_watch.proofs.Marks.{before_fewer, marked_of, marked_within, marks_fewer}
use Rattle.bt_watch.proofs.agenda.take_last.Goals as goal

pub bounds-marks-place : goal.bounds-marks-place
bounds-marks-place c = marked_within c.args.marks.now c.in-Some.place (marked_of c.args.marks.now c.in-Some.place c.in-Some.ensures.0)

pub returns-in-Some-clause-takes : goal.returns-in-Some-clause-takes
returns-in-Some-clause-takes c = marks_fewer c.args.marks.now c.in-Some.place c.in-Some.ensures

pub returns-in-Some-clause-before : goal.returns-in-Some-clause-before
returns-in-Some-clause-before c = before_fewer c.args.marks.now c.in-Some.place c.in-Some.ensures
