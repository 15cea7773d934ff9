use Rattle.std.proofs.Common.{◌≡◌, ◌+◌, map}
use Rattle.std.specs.List.{range_with_len}
use Rattle.bt_flow_formula.specs.Levels.{implies, with_more}
use Rattle.bt_flow_formula.proofs.level.add_implied.Given as goal

abbrev pub invariant-loop-place : goal.invariant-loop-place
invariant-loop-place l = l.formula ≡ with_more l.initial.formula (map (λ k. implies (l.fn.first + k) (l.fn.first + l.fn.count + k)) (range_with_len 0 l.place))
