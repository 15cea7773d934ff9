-- The literals of a clause that a search knows.
use Rattle.std.specs.Prelude.{List}
use Rattle.bt_cnf.specs.declared.literal.Lit.{Lit}
use Rattle.bt_sat.specs.declared.logged_formula.KnownLits.{KnownLits}
use Rattle.bt_sat.specs.declared.logged_formula.KnownLits.TheVariants.{Given, Logged}

-- they are those of the formula's clause, or of the step's
abbrev pub lits_in : KnownLits → List Lit
lits_in (Given lits) = lits.now
lits_in (Logged lits) = lits.now
