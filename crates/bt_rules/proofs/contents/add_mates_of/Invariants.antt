use Rattle.std.proofs.Common.{◌≡◌, ◌++◌, map, take}
use Rattle.bt_facts.specs.Spots.{dirs}
use Rattle.bt_rules.specs.Contents as contents
use Rattle.bt_rules.proofs.contents.add_mates_of.Given as goal

abbrev pub invariant-loop-dir : goal.invariant-loop-dir
invariant-loop-dir l = l.draft ≡ l.initial.draft ++ map (contents.mate_rule l.rect l.cell l.half) (take l.dir-index dirs)
