use Rattle.std.proofs.Common.{◌≡◌, ◌≤◌, not}
use Rattle.std.specs.Prelude.{count_by}
use Rattle.std.specs.List.{range_with_len}
use Rattle.bt_demands.specs.Classes.{is_through}
use Rattle.bt_demands.proofs.counting.inputs_apart.Given as goal

abbrev pub invariant-loop-input : goal.invariant-loop-input
invariant-loop-input l = (l.count ≤ l.input) × (l.count ≡ count_by (λ i. not (is_through l.request i)) (range_with_len 0 l.input))
