use Rattle.bt_cnf.specs.Formulas.{LitsBelow}
use Rattle.bt_search_tests.proofs.tests.sat.clause_over.Given as goal

abbrev pub invariant-loop : goal.invariant-loop
invariant-loop l = LitsBelow l.formula.vars l.lits.items
