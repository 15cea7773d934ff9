use Rattle.std.proofs.Common.{◌≡◌, ◌+◌, length, map}
use Rattle.bt_place.specs.Numbering.{joining, first_most, place_of_most}
use Rattle.bt_place.proofs.order.first_most.Given as goal

abbrev pub invariant-loop-splitter : goal.invariant-loop-splitter
invariant-loop-splitter l = (l.next + length l.rest ≡ length l.left)
    × (first_most (map (joining l.edges l.placed) l.left) ≡ place_of_most l.place l.most l.next (map (joining l.edges l.placed) l.rest))

abbrev pub decreases-loop-splitter : goal.decreases-loop-splitter
decreases-loop-splitter l = length l.rest
