use Rattle.std.proofs.Common.{◌≡◌, map, take}
use Rattle.bt_same.specs.SameFormula.{shifted}
use Rattle.bt_same.proofs.joining.moved_row.Given as goal

abbrev pub invariant-loop-column : goal.invariant-loop-column
invariant-loop-column l = l.terms.items ≡ map (λ t. (shifted l.columns t.0, t.1)) (take l.column-index l.column-items)
