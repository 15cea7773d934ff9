use Rattle.std.proofs.Common.{◌≡◌, take}
use Rattle.std.specs.List.{flat_map}
use Rattle.bt_flow_formula.specs.Families.{family_clauses}
use Rattle.bt_flow_formula.specs.inner.Adding.{with_clauses}
use Rattle.bt_flow_formula.specs.inner.Variables.{at_in}
use Rattle.bt_flow_formula.proofs.encoding.write_families.Given as goal

abbrev pub invariant-loop-family : goal.invariant-loop-family
invariant-loop-family l = l.formula ≡ with_clauses (at_in l.pairs) l.initial.formula (flat_map (family_clauses l.net) (take l.family-index l.families))
