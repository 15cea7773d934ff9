use Rattle.bt_theory.proofs.Chosen.{Found}
use Rattle.bt_theory.proofs.choosing.choice.Given as goal

abbrev pub invariant-loop-lit : goal.invariant-loop-lit
invariant-loop-lit l = Found l.model l.lits l.lit-index l.last
