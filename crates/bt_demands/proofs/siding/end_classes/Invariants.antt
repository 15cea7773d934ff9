use Rattle.std.proofs.Common.{◌≡◌, take}
use Rattle.std.specs.List.{flat_map}
use Rattle.bt_demands.specs.inner.Parts as parts
use Rattle.bt_demands.proofs.siding.end_classes.Given as goal

abbrev pub invariant-loop-edge : goal.invariant-loop-edge
invariant-loop-edge l = l.found.items ≡ flat_map (parts.end_class l.request l.end) (take l.edge-index l.edges)
