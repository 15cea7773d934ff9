use Rattle.std.proofs.Common.{◌≡◌, ◌++◌, take}
use Rattle.std.specs.List.{flat_map}
use Rattle.bt_facts.specs.Spots.{dirs}
use Rattle.bt_rules.specs.Ports as ports
use Rattle.bt_rules.proofs.ports.add_ports_on.Given as goal

abbrev pub invariant-loop-dir : goal.invariant-loop-dir
invariant-loop-dir l = l.draft ≡ l.initial.draft ++ flat_map (ports.standing_port_rules l.request l.gate.splitter l.cell) (take l.dir-index dirs)
