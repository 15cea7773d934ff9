use Rattle.std.proofs.Common.{◌≡◌, ◌++◌, map, take}
use Rattle.std.specs.List.{flat_map}
use Rattle.bt_facts.specs.Spots.{dirs}
use Rattle.bt_facts.specs.Facts as told
use Rattle.bt_rules.proofs.contents.push_turned.Given as goal

abbrev pub invariant-loop-shape : goal.invariant-loop-shape
invariant-loop-shape l = l.facts.items ≡ l.initial.facts.items ++ flat_map (λ of. map (told.holds l.cell of) dirs) (take l.shape-index l.shapes)
