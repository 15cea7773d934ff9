use Rattle.std.proofs.Common.{◌≡◌, map, take}
use Rattle.bt_flow_formula.specs.Families.{backing_clause}
use Rattle.bt_flow_formula.specs.inner.Adding.{with_clauses}
use Rattle.bt_flow_formula.specs.inner.Variables.{at_in}
use Rattle.bt_flow_formula.proofs.splitters.add_backing_at.Given as goal

abbrev pub invariant-loop-edge : goal.invariant-loop-edge
invariant-loop-edge l = l.formula ≡ with_clauses (at_in l.pairs) l.initial.formula (map (backing_clause l.net l.entering) (take l.edge-index l.leaving))
