use Rattle.std.proofs.Common.{◌≡◌, take}
use Rattle.std.specs.List.{flat_map}
use Rattle.bt_rules.specs.PlaceRules.{cell_rules}
use Rattle.bt_place.specs.inner.Writing.{with_rules}
use Rattle.bt_place.proofs.encoding.write_cells.Given as goal

abbrev pub invariant-loop-cell : goal.invariant-loop-cell
invariant-loop-cell l = l.formula ≡ with_rules l.numbers l.initial.formula (flat_map (cell_rules l.request) (take l.cell-index l.cells))
