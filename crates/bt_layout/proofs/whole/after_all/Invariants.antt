use Rattle.std.proofs.Common.{◌≤◌, length}
use Rattle.bt_layout.specs.inner.Progressing.{ArePassed, IsProgress, lesser_of}
use Rattle.bt_layout.proofs.whole.after_all.Given as goal

-- of the requests from this place on that are lesser than the one that was laid, none has a layout, where not all steps
-- were taken
abbrev pub invariant-loop-place : goal.invariant-loop-place
invariant-loop-place l = record {
  progress : IsProgress l.requests l.learnt l.progress;
  lesser : l.place ≤ lesser_of (length l.requests) l.progress.found;
  passed : ArePassed l.requests l.learnt l.place l.progress;
}

abbrev pub decreases-loop-place : goal.decreases-loop-place
decreases-loop-place l = l.place
