use Rattle.std.proofs.Common.{◌-◌, arith}
use Rattle.bt_watch.proofs.Marks.{last_of, none_of}
use Rattle.bt_watch.proofs.agenda.last_marked.Goals as goal

pub returns-then-marks-place : goal.returns-then-marks-place
returns-then-marks-place c =
    last_of c.args.marks.now (c.loop-place.place - 1) c.if-marks-place.true
    (λ k is.
    let small = c.loop-place.invariant.before k is in
    omega (arith, small, c.loop-place-test.true))

pub returns : goal.returns
returns c =
    none_of c.args.marks.now
    (λ k is.
    let small = c.loop-place.invariant.before k is in
    omega (arith, small, c.loop-place-test.false))
