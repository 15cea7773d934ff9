use Rattle.std.proofs.Common.{◌≡◌, map}
use Rattle.std.specs.List.{AllByRecursion, range_with_len}
use Rattle.bt_demands.specs.Plans.{IsGate}
use Rattle.bt_demands.specs.declared.plan.Gate.{Gate}
use Rattle.bt_demands.proofs.plan.gates_of.Given as goal

abbrev pub invariant-loop-splitter : goal.invariant-loop-splitter
invariant-loop-splitter l = (map (λ (g : Gate). g.splitter) l.gates.items ≡ range_with_len 0 l.splitter) × AllByRecursion (IsGate l.request) l.gates.items
