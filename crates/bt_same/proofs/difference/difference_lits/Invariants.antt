use Rattle.std.proofs.Common.{◌≡◌, ◌+◌, length}
use Rattle.std.specs.List.{flat_map, range_with_len}
use Rattle.bt_flow.specs.EndEdges.{output_edge}
use Rattle.bt_same.specs.inner.Joining.{with_rows, hold_from, differing_rows}
use Rattle.bt_same.proofs.difference.difference_lits.Given as goal

abbrev pub invariant-loop-output : goal.invariant-loop-output
invariant-loop-output l =
    let rows = flat_map (λ o. differing_rows (output_edge l.first o) (output_edge l.second o + length l.first.edges)) (range_with_len 0 l.output) in
    (l.formula ≡ with_rows l.initial.formula rows) × (l.lits.items ≡ hold_from l.initial.formula.vars rows)
