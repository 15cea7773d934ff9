use Rattle.std.proofs.Common.{◌↔◌, drop, map}
use Rattle.bt_cnf.specs.Formulas.{AscendBelow}
use Rattle.bt_extend.proofs.definition.are_sorted_below.Given as goal

abbrev pub invariant-loop-lit : goal.invariant-loop-lit
invariant-loop-lit l = AscendBelow 0 l.vars (map (λ m. m.var) l.lits) ↔ AscendBelow l.least l.vars (map (λ m. m.var) (drop l.lit-index l.lits))
