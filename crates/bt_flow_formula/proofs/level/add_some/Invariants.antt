use Rattle.std.proofs.Common.{◌≡◌, ◌+◌, true, map}
use Rattle.std.specs.List.{range_with_len}
use Rattle.bt_flow_formula.proofs.level.add_some.Given as goal

abbrev pub invariant-loop-place : goal.invariant-loop-place
invariant-loop-place l = l.lits.items ≡ map (λ k. record { var = l.fn.first + k; positive = true }) (range_with_len 0 l.place)
