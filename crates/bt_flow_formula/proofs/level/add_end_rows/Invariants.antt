use Rattle.std.proofs.Common.{◌≡◌, map}
use Rattle.std.specs.List.{range_with_len}
use Rattle.bt_flow_formula.specs.Levels.{level_row, with_rows}
use Rattle.bt_flow_formula.proofs.level.add_end_rows.Given as goal

abbrev pub invariant-loop-place : goal.invariant-loop-place
invariant-loop-place l = l.formula ≡ with_rows l.initial.formula (map (level_row l.net l.fn.end l.fn.row) (range_with_len 0 l.place))
