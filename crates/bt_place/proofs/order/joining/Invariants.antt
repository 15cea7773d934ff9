use Rattle.std.proofs.Common.{◌≡◌, ◌≤◌, take}
use Rattle.std.specs.Prelude.{count_by}
use Rattle.bt_place.specs.Numbering.{joins}
use Rattle.bt_place.proofs.order.joining.Given as goal

abbrev pub invariant-loop-edge : goal.invariant-loop-edge
invariant-loop-edge l = (l.count ≤ l.edge-index) × (l.count ≡ count_by (joins l.placed l.splitter) (take l.edge-index l.edges))
