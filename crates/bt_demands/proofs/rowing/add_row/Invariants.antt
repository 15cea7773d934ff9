use Rattle.std.proofs.Common.{◌≡◌, ◌++◌, take}
use Rattle.std.specs.List.{flat_map}
use Rattle.bt_demands.specs.Rows.{line_rules}
use Rattle.bt_demands.proofs.rowing.add_row.Given as goal

abbrev pub invariant-loop-line : goal.invariant-loop-line
invariant-loop-line l = l.draft ≡ l.initial.draft ++ flat_map (line_rules l.rect l.row.kind l.count) (take l.line-index l.line-items)
