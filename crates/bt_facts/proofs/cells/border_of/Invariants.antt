use Rattle.std.proofs.Common.{cond, ◌≡◌, ◌∷◌, [], take}
use Rattle.bt_facts.specs.Spots.{is_border}
use Rattle.std.specs.List.{flat_map}
use Rattle.bt_facts.proofs.cells.border_of.Given as goal

abbrev pub invariant-loop-cell : goal.invariant-loop-cell
invariant-loop-cell l = l.border.items ≡ flat_map (λ on. cond (is_border l.rect on) (on ∷ []) []) (take l.cell-index l.cells)
