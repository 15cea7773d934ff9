use Rattle.std.proofs.Common.{Ok, Err}
use Rattle.std.proofs.lemmas.Result.{err_from_is_err_and}
use Rattle.bt_text.proofs.OneAnswer.{answers_always_of}
use Rattle.bt_flow.specs.declared.judgement.Test.TheVariants.{Conclusion}
use Rattle.bt_flow.specs.declared.judgement.Judgement.TheVariants as of_state
use Rattle.bt_same.specs.declared.pair.Which.TheVariants.{First, Second, Kept}
use Rattle.bt_same.specs.declared.pair.PairJudgement.TheVariants.{Holds, Fails}
use Rattle.bt_same.specs.Judging.{IsPairAnswer}
use Rattle.bt_same.proofs.Judged.{one_pair_answer, passed_both, state_is, first_wide, second_wide}
use Rattle.bt_same.proofs.judge.differs.Goals as goal

pub returns-in_err-of_first : goal.returns-in_err-of_first
returns-in_err-of_first c =
    let a = c.args.first.now in
    let b = c.args.second.now in
    let x = c.args.pair.now.first in
    let y = c.args.pair.now.second in
    let p = err_from_is_err_and c.from_residual.result c.from_residual.ensures.1 in
    let wide = c.in_err-of_first.field-0.0 in
    let told = c.in_err-of_first.ensures.err in
    rw (p.1, p.2) (answers_always_of (IsPairAnswer a b x y) (one_pair_answer a b x y) (Err wide)
    (first_wide a b x y c.admissible_steady.result wide c.admissible_steady.ensures.right told.0 told.1))

pub returns-in-Fails : goal.returns-in-Fails
returns-in-Fails c =
    let a = c.args.first.now in
    let b = c.args.second.now in
    let x = c.args.pair.now.first in
    let y = c.args.pair.now.second in
    let test = c.in-Fails.test in
    let at = c.in-Fails.place in
    answers_always_of (IsPairAnswer a b x y) (one_pair_answer a b x y) (Ok (Fails First test at))
    (state_is a x c.admissible_steady.result c.in_ok-of_first.of_first (of_state.Fails test at) c.admissible_steady.ensures.right c.in_ok-of_first.ensures.ok c.in-Fails.is)

pub returns-in_err-of_second : goal.returns-in_err-of_second
returns-in_err-of_second c =
    let a = c.args.first.now in
    let b = c.args.second.now in
    let x = c.args.pair.now.first in
    let y = c.args.pair.now.second in
    let first = state_is a x c.admissible_steady.result c.in_ok-of_first.of_first of_state.Passes c.admissible_steady.ensures.right c.in_ok-of_first.ensures.ok c.in-Passes.is in
    let p = err_from_is_err_and c.from_residual-in_err-of_second.result c.from_residual-in_err-of_second.ensures.1 in
    let wide = c.in_err-of_second.field-0.0 in
    let told = c.in_err-of_second.ensures.err in
    rw (p.1, p.2) (answers_always_of (IsPairAnswer a b x y) (one_pair_answer a b x y) (Err wide)
    (second_wide a b x y c.admissible_steady-2.result wide first c.admissible_steady-2.ensures.right told.0 told.1))

pub returns-in-Fails-of_second : goal.returns-in-Fails-of_second
returns-in-Fails-of_second c =
    let a = c.args.first.now in
    let b = c.args.second.now in
    let x = c.args.pair.now.first in
    let y = c.args.pair.now.second in
    let first = state_is a x c.admissible_steady.result c.in_ok-of_first.of_first of_state.Passes c.admissible_steady.ensures.right c.in_ok-of_first.ensures.ok c.in-Passes.is in
    let test = c.in-Fails-of_second.test in
    let at = c.in-Fails-of_second.place in
    answers_always_of (IsPairAnswer a b x y) (one_pair_answer a b x y) (Ok (Fails Second test at))
    (first, state_is b y c.admissible_steady-2.result c.in_ok-of_second.of_second (of_state.Fails test at) c.admissible_steady-2.ensures.right c.in_ok-of_second.ensures.ok c.in-Fails-of_second.is)

pub returns-then-differ : goal.returns-then-differ
returns-then-differ c =
    let a = c.args.first.now in
    let b = c.args.second.now in
    let x = c.args.pair.now.first in
    let y = c.args.pair.now.second in
    let first = state_is a x c.admissible_steady.result c.in_ok-of_first.of_first of_state.Passes c.admissible_steady.ensures.right c.in_ok-of_first.ensures.ok c.in-Passes.is in
    let second = state_is b y c.admissible_steady-2.result c.in_ok-of_second.of_second of_state.Passes c.admissible_steady-2.ensures.right c.in_ok-of_second.ensures.ok c.in-Passes-of_second.is in
    let known = c.are_known.ensures in
    answers_always_of (IsPairAnswer a b x y) (one_pair_answer a b x y) (Ok Holds)
    ((passed_both a b x y c.differ.result known.networks.0 known.networks.1 c.requires.ends known.lowest.0 known.lowest.1 c.requires.first c.requires.second first second c.differ.ensures).0 c.if-differ.true)

pub returns : goal.returns
returns c =
    let a = c.args.first.now in
    let b = c.args.second.now in
    let x = c.args.pair.now.first in
    let y = c.args.pair.now.second in
    let first = state_is a x c.admissible_steady.result c.in_ok-of_first.of_first of_state.Passes c.admissible_steady.ensures.right c.in_ok-of_first.ensures.ok c.in-Passes.is in
    let second = state_is b y c.admissible_steady-2.result c.in_ok-of_second.of_second of_state.Passes c.admissible_steady-2.ensures.right c.in_ok-of_second.ensures.ok c.in-Passes-of_second.is in
    let known = c.are_known.ensures in
    answers_always_of (IsPairAnswer a b x y) (one_pair_answer a b x y) (Ok (Fails Kept Conclusion 0))
    ((passed_both a b x y c.differ.result known.networks.0 known.networks.1 c.requires.ends known.lowest.0 known.lowest.1 c.requires.first c.requires.second first second c.differ.ensures).1 c.if-differ.false)
