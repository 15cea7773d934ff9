use Rattle.std.proofs.Common.{◌+◌, ◌-◌, ◌<◌, ◌≤◌, length, vec_len, vec_capacity}
use Rattle.bt_linear_forms.proofs.ShortWalks.{IsShortMerge}
use Rattle.bt_linear_forms.proofs.short.merging.merged.Given as goal

abbrev pub invariant-loop-first : goal.invariant-loop-first
invariant-loop-first l = IsShortMerge l.left l.right l.scales.left l.scales.right l.scales.under l.terms.items (vec_len l.terms) (vec_capacity l.terms) l.first l.second

abbrev pub decreases-loop-first : goal.decreases-loop-first
decreases-loop-first l = (length l.left + length l.right) - (l.first + l.second)

abbrev pub invariant-loop-first-2 : goal.invariant-loop-first-2
invariant-loop-first-2 l = record { merge : IsShortMerge l.left l.right l.scales.left l.scales.right l.scales.under l.terms.items (vec_len l.terms) (vec_capacity l.terms) l.first l.second; past : l.first < length l.left → length l.right ≤ l.second }

abbrev pub invariant-loop-second : goal.invariant-loop-second
invariant-loop-second l = record { merge : IsShortMerge l.left l.right l.scales.left l.scales.right l.scales.under l.terms.items (vec_len l.terms) (vec_capacity l.terms) l.first l.second; past : length l.left ≤ l.first }

abbrev pub decreases-loop-first-2 : goal.decreases-loop-first-2
decreases-loop-first-2 l = length l.left - l.first

abbrev pub decreases-loop-second : goal.decreases-loop-second
decreases-loop-second l = length l.right - l.second
