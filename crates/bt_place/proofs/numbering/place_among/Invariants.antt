use Rattle.std.proofs.Common.{◌≡◌, ◌+◌, length}
use Rattle.std.specs.List.{position_or_len}
use Rattle.bt_demands.specs.Classes.{same_class}
use Rattle.bt_place.proofs.numbering.place_among.Given as goal

abbrev pub invariant-loop-other : goal.invariant-loop-other
invariant-loop-other l = (l.place + length l.rest ≡ length l.classes)
    × (position_or_len (same_class l.class) l.classes ≡ l.place + position_or_len (same_class l.class) l.rest)

abbrev pub decreases-loop-other : goal.decreases-loop-other
decreases-loop-other l = length l.rest
