use Rattle.std.proofs.Common.{◌+◌, length}
use Rattle.bt_linear_forms.proofs.Walks.{IsWalk}
use Rattle.bt_linear_forms.proofs.merging.merged.Given as goal

abbrev pub invariant-loop-first : goal.invariant-loop-first
invariant-loop-first l = IsWalk l.left l.factor l.right l.terms.items l.first l.second

abbrev pub decreases-loop-first : goal.decreases-loop-first
decreases-loop-first l = length l.first + length l.second
