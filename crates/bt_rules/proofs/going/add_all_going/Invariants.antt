use Rattle.std.proofs.Common.{◌≡◌, ◌++◌, take}
use Rattle.std.specs.List.{flat_map}
use Rattle.bt_facts.specs.Spots.{dirs}
use Rattle.bt_rules.specs.Going as going
use Rattle.bt_rules.proofs.going.add_all_going.Given as goal

abbrev pub invariant-loop-dir : goal.invariant-loop-dir
invariant-loop-dir l = l.draft ≡ l.initial.draft ++ flat_map (going.going_rules l.rect l.cell) (take l.dir-index dirs)
