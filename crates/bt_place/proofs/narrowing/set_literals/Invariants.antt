use Rattle.bt_cnf.specs.Formulas.{LitsBelow}
use Rattle.bt_place.proofs.narrowing.set_literals.Given as goal

abbrev pub invariant-loop-claim : goal.invariant-loop-claim
invariant-loop-claim l = LitsBelow l.formula.vars l.lits.items
