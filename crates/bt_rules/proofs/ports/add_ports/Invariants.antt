use Rattle.std.proofs.Common.{◌≡◌, ◌++◌, take}
use Rattle.std.specs.List.{flat_map}
use Rattle.bt_facts.specs.Spots.{dirs}
use Rattle.bt_rules.specs.Ports as ports
use Rattle.bt_rules.proofs.ports.add_ports.Given as goal

abbrev pub invariant-loop-cell : goal.invariant-loop-cell
invariant-loop-cell l = l.draft ≡ l.initial.draft ++ flat_map (λ on. flat_map (ports.standing_port_rules l.request l.gate.splitter on) dirs) (take l.cell-index l.cells)
