use Rattle.bt_layout.proofs.Sweeps.{searched_laid, searched_paid}
use Rattle.bt_layout.proofs.sweep.after_trial.Goals as goal

pub returns-in-Found-clause-sweep : goal.returns-in-Found-clause-sweep
returns-in-Found-clause-sweep c = λ requests learnt is searched.
    c.after_layout.ensures.sweep requests learnt is (searched_paid requests learnt c.args.sweep c.args.at c.args.tried searched)
    (searched_laid requests learnt c.args.sweep c.args.at c.args.tried c.in-Found.parts searched c.in-Found.is)

pub returns-in-Refuted-clause-sweep : goal.returns-in-Refuted-clause-sweep
returns-in-Refuted-clause-sweep c = λ requests learnt is searched.
    c.after_refutation.ensures.sweep requests learnt is (searched_paid requests learnt c.args.sweep c.args.at c.args.tried searched)

pub returns-in-Spent-clause-sweep : goal.returns-in-Spent-clause-sweep
returns-in-Spent-clause-sweep c = λ requests learnt is searched.
    c.after_giving_up.ensures.sweep requests learnt is (searched_paid requests learnt c.args.sweep c.args.at c.args.tried searched)
