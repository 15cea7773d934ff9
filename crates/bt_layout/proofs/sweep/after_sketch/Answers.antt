use Rattle.bt_layout.proofs.Sweeps.{searched_at}
use Rattle.bt_layout.proofs.sweep.after_sketch.Goals as goal

pub returns-clause-sweep : goal.returns-clause-sweep
returns-clause-sweep c =
    c.after_trial.ensures.sweep c.args.requests.now c.args.learnt c.requires.sweep
    (searched_at c.args.requests.now c.args.learnt c.args.sweep c.args.at c.index-place.result.now c.saturating_sub-left.result c.index-requests-place.result c.in_ok-tried.tried
    c.requires.sweep c.requires.inside c.index-place.ensures c.index-requests-place.is c.in_ok-tried.ensures c.saturating_sub-left.ensures c.ranges.learnt.fits)
