use Rattle.std.proofs.Common.{◌≡◌, ◌++◌, [], cond, take}
use Rattle.std.specs.List.{flat_map}
use Rattle.bt_demands.specs.Rows.{has_place, placed_rules}
use Rattle.bt_demands.proofs.rowing.add_line.Given as goal

abbrev pub invariant-loop-cell : goal.invariant-loop-cell
invariant-loop-cell l = l.draft ≡ l.initial.draft ++ flat_map (λ x. cond (has_place l.rect l.count l.line x) (placed_rules l.rect l.kind l.count l.line x) []) (take l.cell-index l.cells)
