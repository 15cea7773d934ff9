use Rattle.bt_layout.proofs.Told.{ended_at}
use Rattle.bt_layout.proofs.whole.after_whole.Goals as goal

pub returns-clause-progress : goal.returns-clause-progress
returns-clause-progress c =
    c.after_searched.ensures.progress c.args.requests.now c.args.learnt c.requires.progress
    (ended_at c.args.requests.now c.args.learnt c.args.progress c.args.place c.saturating_sub-left.result c.index-requests-place.result c.in_ok-searched.searched
    c.requires.progress c.requires.lesser c.index-requests-place.is c.in_ok-searched.ensures c.saturating_sub-left.ensures c.ranges.learnt.fits)

pub returns-clause-passed : goal.returns-clause-passed
returns-clause-passed c = λ passed.
    c.after_searched.ensures.passed c.args.requests.now c.args.learnt c.requires.lesser
    (ended_at c.args.requests.now c.args.learnt c.args.progress c.args.place c.saturating_sub-left.result c.index-requests-place.result c.in_ok-searched.searched
    c.requires.progress c.requires.lesser c.index-requests-place.is c.in_ok-searched.ensures c.saturating_sub-left.ensures c.ranges.learnt.fits)
    passed
