use Rattle.std.proofs.Common.{◌≡◌, ◌++◌, take}
use Rattle.std.specs.List.{flat_map}
use Rattle.bt_rules.specs.PlaceRules as place
use Rattle.bt_rules.proofs.drawing.add_cells.Given as goal

abbrev pub invariant-loop-cell : goal.invariant-loop-cell
invariant-loop-cell l = l.draft ≡ l.initial.draft ++ flat_map (place.cell_rules l.request) (take l.cell-index l.cells)
