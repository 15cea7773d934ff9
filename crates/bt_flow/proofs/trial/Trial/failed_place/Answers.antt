use Rattle.std.proofs.Common.{◌<◌, ◌≤◌, subst, arith}
use Rattle.std.proofs.lemmas.Result.{err_from_is_err_and}
use Rattle.bt_flow.specs.Tests.{places}
use Rattle.bt_flow.proofs.Judged.{wide_here, clear_more, clear_here, fails_here}
use Rattle.bt_flow.proofs.trial.Trial.failed_place.Goals as goal

pub returns-in_err-passed : goal.returns-in_err-passed
returns-in_err-passed c =
    let p = err_from_is_err_and c.from_residual.result c.from_residual.ensures.1 in
    let l : c.loop-place.place < places c.args.self.now.network c.args.test = subst (λ m. c.loop-place.place < m) c.places-place-end.ensures c.loop-place-test.true in
    rw (p.1, p.2) (wide_here c.args.self.now c.args.test c.loop-place.place c.in_err-passed.field-0.0 l c.loop-place.invariant c.in_err-passed.ensures)

pub returns-then-not-passed : goal.returns-then-not-passed
returns-then-not-passed c =
    let l : c.loop-place.place < places c.args.self.now.network c.args.test = subst (λ m. c.loop-place.place < m) c.places-place-end.ensures c.loop-place-test.true in
    fails_here c.args.self.now c.args.test c.loop-place.place c.in_ok-passed.passed c.if-not-passed.true l c.in_ok-passed.ensures c.loop-place.invariant

pub loop-place-preserved : goal.loop-place-preserved
loop-place-preserved c =
    clear_more c.args.self.now c.args.test c.loop-place.place c.loop-place.invariant
    (clear_here c.args.self.now c.args.test c.loop-place.place c.in_ok-passed.passed c.if-not-passed.false c.in_ok-passed.ensures)

pub returns : goal.returns
returns c = λ a l.
    let m : a < c.loop-place.place =
    let q : places c.args.self.now.network c.args.test ≤ c.loop-place.place = subst (λ m. m ≤ c.loop-place.place) c.places-place-end.ensures c.loop-place-test.false in
    omega (arith, l, q) in
    c.loop-place.invariant a m
