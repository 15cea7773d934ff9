use Rattle.std.proofs.Common.{take}
use Rattle.std.specs.List.{flat_map}
use Rattle.bt_flow_formula.specs.Properties.{differ}
use Rattle.bt_flow_formula.specs.inner.Adding.{IsAfter}
use Rattle.bt_flow_formula.specs.inner.Variables.{at_in}
use Rattle.bt_flow_formula.proofs.properties.unequal_lits.Given as goal

abbrev pub invariant-loop-other : goal.invariant-loop-other
invariant-loop-other l = IsAfter (at_in l.pairs) l.initial.formula (flat_map (differ l.first) (take l.other-index l.others)) l.formula l.lits.items
