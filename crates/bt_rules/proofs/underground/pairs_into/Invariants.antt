use Rattle.std.proofs.Common.{◌≡◌, ◌-◌}
use Rattle.std.specs.List.{flat_map, range_with_len}
use Rattle.bt_rules.specs.inner.Parts as parts
use Rattle.bt_rules.proofs.underground.pairs_into.Given as goal

abbrev pub invariant-loop-distance : goal.invariant-loop-distance
invariant-loop-distance l = l.facts.items ≡ flat_map (parts.pair_into l.rect l.cell l.dir) (range_with_len 1 (l.distance - 1))
