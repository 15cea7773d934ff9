use Rattle.std.proofs.Common.{◌≡◌, ◌++◌, ◌-◌}
use Rattle.std.specs.List.{flat_map, range_with_len}
use Rattle.bt_rules.specs.Underground as underground
use Rattle.bt_rules.proofs.underground.add_pairs.Given as goal

abbrev pub invariant-loop-distance : goal.invariant-loop-distance
invariant-loop-distance l = l.draft ≡ l.initial.draft ++ flat_map (underground.pair_rules l.request l.cell l.dir) (range_with_len 1 (l.distance - 1))
