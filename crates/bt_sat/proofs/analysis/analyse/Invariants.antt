use Rattle.bt_sat.specs.inner.Analysing.{IsTracing}
use Rattle.bt_sat.specs.inner.LoggedFormula.{clauses_in}
use Rattle.bt_sat.proofs.analysis.analyse.Given as goal

abbrev pub invariant-loop-place : goal.invariant-loop-place
invariant-loop-place l = IsTracing (clauses_in l.known) l.search l.conflict_level l.analysis.agenda l.analysis.picked.items l.bound l.analysis.hints.items

abbrev pub decreases-loop-place : goal.decreases-loop-place
decreases-loop-place l = l.bound
