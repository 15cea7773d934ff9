use Rattle.std.proofs.Common.{◌≡◌, ◌++◌, map, take}
use Rattle.std.specs.List.{range_with_len}
use Rattle.bt_facts.specs.Spots.{dirs}
use Rattle.bt_rules.specs.Standing as standing
use Rattle.bt_rules.proofs.standing.add_owners.Given as goal

abbrev pub invariant-loop-dir : goal.invariant-loop-dir
invariant-loop-dir l = l.draft ≡ l.initial.draft ++ map (standing.owner_rule (range_with_len 0 l.splitters) l.cell) (take l.dir-index dirs)
