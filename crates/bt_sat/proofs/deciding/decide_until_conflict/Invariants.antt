use Rattle.std.proofs.Common.{◌≡◌, map}
use Rattle.bt_cnf.specs.Truths.{unset}
use Rattle.bt_sat.specs.inner.Choices.{IsAtChoice, KeepsLog}
use Rattle.bt_sat.specs.inner.Progressing.{IsRunning, KeepsFormula}
use Rattle.bt_sat.proofs.deciding.decide_until_conflict.Given as goal

abbrev pub invariant-loop-progress : goal.invariant-loop-progress
invariant-loop-progress g l = record {
  keeps : KeepsLog l.fn.progress l.progress;
  running : IsRunning l.progress;
  choice : IsAtChoice l.progress;
  kept : KeepsFormula l.fn.progress l.progress;
  same : map g.C.Chooser.told_clauses l.choosers ≡ map g.C.Chooser.told_clauses l.fn.choosers;
}

abbrev pub decreases-loop-progress : goal.decreases-loop-progress
decreases-loop-progress g l = unset l.progress.search.assignment.values
