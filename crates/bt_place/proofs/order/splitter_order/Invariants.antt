use Rattle.std.proofs.Common.{◌≡◌, length}
use Rattle.bt_place.specs.Numbering.{ordered}
use Rattle.bt_place.specs.PlaceFormula.{splitter_order}
use Rattle.bt_place.proofs.order.splitter_order.Given as goal

abbrev pub invariant-loop-edges : goal.invariant-loop-edges
invariant-loop-edges l = ordered (length l.left.items) l.net.edges l.placed.items l.left.items ≡ splitter_order l.net

abbrev pub decreases-loop-edges : goal.decreases-loop-edges
decreases-loop-edges l = length l.left.items
