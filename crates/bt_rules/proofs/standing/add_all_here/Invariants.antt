use Rattle.std.proofs.Common.{◌≡◌, ◌++◌}
use Rattle.std.specs.List.{flat_map, range_with_len}
use Rattle.bt_facts.specs.Spots.{dirs}
use Rattle.bt_rules.specs.Standing as standing
use Rattle.bt_rules.proofs.standing.add_all_here.Given as goal

abbrev pub invariant-loop-splitter : goal.invariant-loop-splitter
invariant-loop-splitter l = l.draft ≡ l.initial.draft ++ flat_map (λ s. flat_map (standing.at_rules l.rect s l.cell) dirs) (range_with_len 0 l.splitter)
