use Rattle.std.proofs.Common.{◌≡◌, ◌+◌, map}
use Rattle.std.specs.List.{range_with_len}
use Rattle.bt_flow_formula.specs.inner.Variables.{side_rows}
use Rattle.bt_flow_formula.proofs.variables.starts.Given as goal

abbrev pub invariant-loop-splitter : goal.invariant-loop-splitter
invariant-loop-splitter l =
    (l.next ≡ l.first + side_rows l.net l.side l.splitter) × (l.starts.items ≡ map (λ k. l.first + side_rows l.net l.side k) (range_with_len 0 l.splitter))
