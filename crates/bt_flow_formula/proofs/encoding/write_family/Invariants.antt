use Rattle.std.proofs.Common.{◌≡◌}
use Rattle.std.specs.List.{flat_map, range_with_len}
use Rattle.bt_flow_formula.specs.Families.{clauses_at}
use Rattle.bt_flow_formula.specs.inner.Adding.{with_clauses}
use Rattle.bt_flow_formula.specs.inner.Variables.{at_in}
use Rattle.bt_flow_formula.proofs.encoding.write_family.Given as goal

abbrev pub invariant-loop-place : goal.invariant-loop-place
invariant-loop-place l = l.formula ≡ with_clauses (at_in l.pairs) l.initial.formula (flat_map (clauses_at l.net l.family) (range_with_len 0 l.place))
