use Rattle.std.proofs.Common.{◌<◌, ◌≤◌, ℕ, get_or, subst, arith, Result, Ok, Option}
use Rattle.std.proofs.lemmas.Result.{err_from_is_err_and}
use Rattle.bt_flow.specs.declared.judgement.Test.TheVariants.{Load}
use Rattle.bt_flow.specs.declared.judgement.WideSum.{WideSum}
use Rattle.bt_flow.specs.inner.Trials.{IsSearched}
use Rattle.bt_flow.proofs.Judged.{judged_wide, judged_failed, judged_passed, clear_test, order_at, all_tests}
use Rattle.bt_flow.proofs.judge.judge.Goals as goal

pub returns-in_err-failed : goal.returns-in_err-failed
returns-in_err-failed c =
    let p = err_from_is_err_and c.from_residual.result c.from_residual.ensures.1 in
    let low : c.args.first ≤ c.loop-order.order = let l = c.loop-order.auto.order in omega (arith, l) in
    let high : c.loop-order.order ≤ c.args.last = let l = c.loop-order-test.true in omega (arith, l) in
    let few : c.loop-order.order < 12 = let l = c.requires.last in omega (arith, l, high) in
    rw (p.1, p.2) (judged_wide c.args.trial.now c.args.first c.args.last c.loop-order.order (get_or all_tests c.loop-order.order Load) c.in_err-failed.field-0.0
    c.requires.some (order_at c.loop-order.order Load few) low high c.loop-order.invariant c.in_err-failed.ensures)

pub returns-in-Some : goal.returns-in-Some
returns-in-Some c =
    let low : c.args.first ≤ c.loop-order.order = let l = c.loop-order.auto.order in omega (arith, l) in
    let high : c.loop-order.order ≤ c.args.last = let l = c.loop-order-test.true in omega (arith, l) in
    let few : c.loop-order.order < 12 = let l = c.requires.last in omega (arith, l, high) in
    judged_failed c.args.trial.now c.args.first c.args.last c.loop-order.order (get_or all_tests c.loop-order.order Load) c.in-Some.place
    (order_at c.loop-order.order Load few) low high c.loop-order.invariant
    (subst (λ (o : Option ℕ). let r : Result (Option ℕ) WideSum = Ok o in IsSearched c.args.trial.now (get_or all_tests c.loop-order.order Load) r) c.in-Some.is c.in_ok-failed.ensures)

pub loop-order-preserved : goal.loop-order-preserved
loop-order-preserved c =
    let high : c.loop-order.order ≤ c.args.last = let l = c.loop-order-test.true in omega (arith, l) in
    let few : c.loop-order.order < 12 = let l = c.requires.last in omega (arith, l, high) in
    clear_test c.args.trial.now c.args.first c.loop-order.order (get_or all_tests c.loop-order.order Load) (order_at c.loop-order.order Load few) c.loop-order.invariant
    (subst (λ (o : Option ℕ). let r : Result (Option ℕ) WideSum = Ok o in IsSearched c.args.trial.now (get_or all_tests c.loop-order.order Load) r) c.in_default.is c.in_ok-failed.ensures)

pub returns : goal.returns
returns c =
    judged_passed c.args.trial.now c.args.first c.args.last c.loop-order.order (let l = c.loop-order-test.false in omega (arith, l)) c.loop-order.invariant
