use Rattle.std.specs.Prelude.{take}
use Rattle.bt_theory.specs.inner.Goals.{AreNegated}
use Rattle.bt_theory.proofs.goal.are_negated.Given as goal

abbrev pub invariant-loop-lit : goal.invariant-loop-lit
invariant-loop-lit l = AreNegated l.model (take l.lit-index l.lits)
