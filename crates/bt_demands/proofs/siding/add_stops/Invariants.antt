use Rattle.std.proofs.Common.{◌≡◌, ◌++◌, take}
use Rattle.std.specs.List.{flat_map}
use Rattle.bt_demands.specs.inner.Parts as parts
use Rattle.bt_demands.proofs.siding.add_stops.Given as goal

abbrev pub invariant-loop-cell : goal.invariant-loop-cell
invariant-loop-cell l = l.draft ≡ l.initial.draft ++ flat_map (parts.stop_part_rules l.rect l.dir l.output l.classes) (take l.cell-index l.border)
