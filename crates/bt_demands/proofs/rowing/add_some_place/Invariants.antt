use Rattle.std.proofs.Common.{◌≡◌, take}
use Rattle.std.specs.List.{flat_map}
use Rattle.bt_demands.specs.Rows.{place_facts}
use Rattle.bt_demands.proofs.rowing.add_some_place.Given as goal

abbrev pub invariant-loop-line : goal.invariant-loop-line
invariant-loop-line l = l.facts.items ≡ flat_map (place_facts l.rect l.count) (take l.line-index l.line-items)
