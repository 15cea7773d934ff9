use Rattle.std.proofs.Common.{take}
use Rattle.bt_theory.specs.inner.Choosing.{IsChosen}
use Rattle.bt_theory.proofs.choosing.choose.Given as goal

abbrev pub invariant-loop-place : goal.invariant-loop-place
invariant-loop-place l = IsChosen l.model l.chosen.items (take l.place l.formula.clauses)
