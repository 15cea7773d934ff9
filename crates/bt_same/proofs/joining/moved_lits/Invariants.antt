use Rattle.std.proofs.Common.{◌≡◌, take}
use Rattle.bt_cnf.specs.Formulas.{LitsBelow}
use Rattle.bt_same.specs.SameFormula.{moved_lits}
use Rattle.bt_same.proofs.joining.moved_lits.Given as goal

abbrev pub invariant-loop-lit : goal.invariant-loop-lit
invariant-loop-lit l = (l.moved.items ≡ moved_lits l.vars (take l.lit-index l.lits)) × LitsBelow l.formula.vars l.moved.items
