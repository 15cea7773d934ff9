use Rattle.std.proofs.Common.{◌≡◌, ◌∷◌, [], map}
use Rattle.std.specs.List.{range_with_len}
use Rattle.bt_flow_formula.specs.declared.state_literal.StateLiteral.TheVariants.{Says}
use Rattle.bt_flow.specs.EndEdges.{room_column, cap_at, output_edge}
use Rattle.bt_flow_formula.specs.Columns.{at_least}
use Rattle.bt_flow_formula.specs.inner.Adding.{with_clauses}
use Rattle.bt_flow_formula.specs.inner.Variables.{at_in}
use Rattle.bt_flow_formula.proofs.properties.add_open.Given as goal

abbrev pub invariant-loop-output : goal.invariant-loop-output
invariant-loop-output l =
    l.formula ≡ with_clauses (at_in l.pairs) l.initial.formula (map (λ i. Says (at_least (room_column l.net i) (cap_at l.net (output_edge l.net i))) ∷ []) (range_with_len 0 l.output))
