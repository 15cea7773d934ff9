use Rattle.std.proofs.Common.{◌≡◌, ◌++◌, map, take}
use Rattle.bt_facts.specs.Spots.{dirs}
use Rattle.bt_rules.specs.Going as going
use Rattle.bt_rules.proofs.going.add_fed_belts.Given as goal

abbrev pub invariant-loop-dir : goal.invariant-loop-dir
invariant-loop-dir l = l.draft ≡ l.initial.draft ++ map (going.fed_belt l.rect l.cell) (take l.dir-index dirs)
