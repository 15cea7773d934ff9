-- The clauses that a search knows.
use Rattle.std.specs.Prelude.{List, ◌++◌, map}
use Rattle.bt_cnf.specs.declared.literal.Lit.{Lit}
use Rattle.bt_log.specs.Logs.{clause_of}
use Rattle.bt_sat.specs.declared.logged_formula.LoggedFormula.{LoggedFormula}

-- the clauses of the formula, and those of the steps
abbrev pub clauses_in : LoggedFormula → List (List Lit)
clauses_in known = known.formula.clauses ++ map clause_of known.log.steps
