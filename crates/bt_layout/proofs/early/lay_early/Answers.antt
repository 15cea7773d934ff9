use Rattle.bt_layout.proofs.early.lay_early.Goals as goal

pub after_rounds-requires : goal.after_rounds-requires
after_rounds-requires c = c.first_progress.ensures c.args.requests.now c.args.learnt

pub returns : goal.returns
returns c = c.told.ensures c.args.requests.now c.args.learnt c.in_ok-progress-2.ensures.progress c.in_ok-progress-2.ensures.passed
