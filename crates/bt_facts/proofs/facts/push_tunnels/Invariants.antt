use Rattle.std.proofs.Common.{◌≡◌, ◌++◌, ◌-◌, map}
use Rattle.std.specs.List.{range_with_len}
use Rattle.bt_parts.specs.Cells.{steps}
use Rattle.bt_facts.specs.declared.fact.Fact.TheVariants as fact
use Rattle.bt_facts.proofs.facts.push_tunnels.Given as goal

abbrev pub invariant-loop-place : goal.invariant-loop-place
invariant-loop-place l = l.facts.items ≡ l.initial.facts.items ++ map (λ j. fact.Tunnel (steps j l.dir l.cell) l.dir) (range_with_len 1 (l.place - 1))
