use Rattle.std.proofs.Common.{◌≡◌, take}
use Rattle.std.specs.List.{flat_map}
use Rattle.bt_facts.specs.Spots.{dirs}
use Rattle.bt_demands.specs.inner.Parts as parts
use Rattle.bt_demands.proofs.pinning.enders.Given as goal

abbrev pub invariant-loop-dir : goal.invariant-loop-dir
invariant-loop-dir l = l.facts.items ≡ flat_map (parts.enders_towards l.rect l.cell) (take l.dir-index dirs)
