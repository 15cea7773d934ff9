use Rattle.std.proofs.Common.{◌≡◌, map, take}
use Rattle.std.specs.List.{flat_map}
use Rattle.bt_flow_formula.specs.Families.{backing_clause}
use Rattle.bt_flow_formula.specs.inner.Adding.{with_clauses}
use Rattle.bt_flow_formula.specs.inner.Variables.{at_in}
use Rattle.bt_flow_formula.proofs.splitters.add_backing.Given as goal

abbrev pub invariant-loop-edge : goal.invariant-loop-edge
invariant-loop-edge l = l.formula ≡ with_clauses (at_in l.pairs) l.initial.formula (flat_map (λ a. map (backing_clause l.net a) l.leaving) (take l.edge-index l.entering))
