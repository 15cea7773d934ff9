use Rattle.std.proofs.Common.{◌≤◌, subst, sym, arith}
use Rattle.bt_layout.specs.inner.Progressing.{lesser_of}
use Rattle.bt_layout.proofs.Told.{ended_laid, ended_paid, passed_by_log, passed_by_steps}
use Rattle.bt_layout.proofs.whole.after_searched.Goals as goal

pub returns-in-Found-clause-progress : goal.returns-in-Found-clause-progress
returns-in-Found-clause-progress c = λ requests learnt is ends.
    c.with_layout.ensures.progress requests learnt is (ended_paid requests learnt c.args.progress c.args.place c.args.searched ends)
    (ended_laid requests learnt c.args.progress c.args.place c.args.searched ends c.in-Found.parts c.in-Found.is)

pub returns-in-Nowhere-clause-progress : goal.returns-in-Nowhere-clause-progress
returns-in-Nowhere-clause-progress c = λ requests learnt is ends.
    c.with_steps.ensures.progress requests learnt is (ended_paid requests learnt c.args.progress c.args.place c.args.searched ends)

pub returns-in-Nowhere-clause-lesser : goal.returns-in-Nowhere-clause-lesser
returns-in-Nowhere-clause-lesser c = λ count before.
    subst (λ found. c.args.place ≤ lesser_of count found) (sym c.with_steps.ensures.found) (omega (arith, before))

pub returns-in-Nowhere-clause-passed : goal.returns-in-Nowhere-clause-passed
returns-in-Nowhere-clause-passed c = λ requests learnt before ends passed.
    let more = c.with_steps.ensures.steps learnt (ended_paid requests learnt c.args.progress c.args.place c.args.searched ends) in
    passed_by_log requests learnt c.args.progress c.args.place c.args.searched ends c.with_steps.result before c.with_steps.ensures.found more passed _ c.in-Nowhere.is

pub returns-clause-progress : goal.returns-clause-progress
returns-clause-progress c = λ requests learnt is ends.
    c.with_steps-in-Spent.ensures.progress requests learnt is (ended_paid requests learnt c.args.progress c.args.place c.args.searched ends)

pub returns-clause-passed : goal.returns-clause-passed
returns-clause-passed c = λ requests learnt before ends passed.
    let after = c.with_steps-in-Spent in
    let more = after.ensures.steps learnt (ended_paid requests learnt c.args.progress c.args.place c.args.searched ends) in
    passed_by_steps requests learnt c.args.progress c.args.place c.args.searched ends after.result before after.ensures.found more passed _ c.in-Spent.is
