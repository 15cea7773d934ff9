use Rattle.bt_sat.specs.inner.Choices.{HasPropagated}
use Rattle.bt_sat.specs.inner.Progressing.{KeepsFormula}
use Rattle.bt_sat.proofs.assuming.make_all_false.Given as goal

abbrev pub invariant-loop-lit : goal.invariant-loop-lit
invariant-loop-lit l = record {
  on : HasPropagated l.fn.progress l.progress;
  kept : KeepsFormula l.fn.progress l.progress;
}
