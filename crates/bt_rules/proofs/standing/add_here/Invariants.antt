use Rattle.std.proofs.Common.{◌≡◌, ◌++◌, take}
use Rattle.std.specs.List.{flat_map}
use Rattle.bt_facts.specs.Spots.{dirs}
use Rattle.bt_rules.specs.Standing as standing
use Rattle.bt_rules.proofs.standing.add_here.Given as goal

abbrev pub invariant-loop-dir : goal.invariant-loop-dir
invariant-loop-dir l = l.draft ≡ l.initial.draft ++ flat_map (standing.at_rules l.rect l.splitter l.cell) (take l.dir-index dirs)
