use Rattle.std.proofs.Common.{◌-◌, length, map}
use Rattle.bt_sat.specs.inner.Searching.{SearchesOn}
use Rattle.bt_sat.specs.inner.Progressing.{IsRunning, KeepsFormula}
use Rattle.bt_sat.proofs.assuming.assume.Given as goal

abbrev pub invariant-loop-conflict : goal.invariant-loop-conflict
invariant-loop-conflict g l = record {
  on : SearchesOn l.fn.progress (map g.C.Chooser.told_clauses l.fn.choosers) l.progress (map g.C.Chooser.told_clauses l.choosers);
  running : IsRunning l.progress;
  kept : KeepsFormula l.fn.progress l.progress;
}

abbrev pub decreases-loop-conflict : goal.decreases-loop-conflict
decreases-loop-conflict g l = l.progress.limit - length l.progress.known.log.steps
