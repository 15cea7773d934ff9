use Rattle.std.proofs.Common.{◌≡◌, ◌++◌, map}
use Rattle.std.specs.List.{range_with_len}
use Rattle.bt_rules.specs.Standing as standing
use Rattle.bt_rules.proofs.standing.add_names.Given as goal

abbrev pub invariant-loop-splitter : goal.invariant-loop-splitter
invariant-loop-splitter l = l.draft ≡ l.initial.draft ++ map (standing.name_rule l.rect l.cell) (range_with_len 0 l.splitter)
