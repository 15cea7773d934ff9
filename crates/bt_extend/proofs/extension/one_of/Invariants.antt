use Rattle.std.proofs.Common.{◌≡◌, ◌∷◌, take, map}
use Rattle.bt_cnf.specs.Formulas.{LitsBelow}
use Rattle.bt_extend.specs.Extending.{denied, lit_of}
use Rattle.bt_extend.proofs.extension.one_of.Given as goal

abbrev pub invariant-loop-lit : goal.invariant-loop-lit
invariant-loop-lit l = (l.clause.items ≡ denied l.fn.var ∷ map lit_of (take l.lit-index l.lits)) × LitsBelow l.formula.vars l.clause.items
