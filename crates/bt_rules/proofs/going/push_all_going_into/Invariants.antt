use Rattle.std.proofs.Common.{◌≡◌, ◌++◌, take}
use Rattle.std.specs.List.{flat_map}
use Rattle.bt_facts.specs.Facts as told
use Rattle.bt_rules.proofs.going.push_all_going_into.Given as goal

abbrev pub invariant-loop-dir : goal.invariant-loop-dir
invariant-loop-dir l = l.facts.items ≡ l.initial.facts.items ++ flat_map (told.goes_into l.rect l.cell) (take l.dir-index l.towards)
