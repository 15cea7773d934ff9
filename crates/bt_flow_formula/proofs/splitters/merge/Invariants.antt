use Rattle.std.proofs.Common.{◌≡◌, ◌≤◌, ◌+◌, ◌-◌, ◌++◌, length, map, take, drop}
use Rattle.bt_flow_formula.specs.Columns.{plus, minus}
use Rattle.bt_flow_formula.specs.inner.Merging.{merged}
use Rattle.bt_flow_formula.proofs.splitters.merge.Given as goal

abbrev pub decreases-loop-left : goal.decreases-loop-left
decreases-loop-left l = length l.added - l.left + (length l.subtracted - l.right)

abbrev pub invariant-loop-left : goal.invariant-loop-left
invariant-loop-left l = (l.left ≤ length l.added) × (l.right ≤ length l.subtracted) × (l.terms.items ++ merged (drop l.left l.added) (drop l.right l.subtracted) ≡ merged l.added l.subtracted)

abbrev pub invariant-loop-column : goal.invariant-loop-column
invariant-loop-column l = l.terms.items ≡ l.initial.terms.items ++ map plus (take l.column-index l.column-items)

abbrev pub invariant-loop-column-2 : goal.invariant-loop-column-2
invariant-loop-column-2 l = l.terms.items ≡ l.initial.terms.items ++ map minus (take l.column-index l.column-items)
