use Rattle.std.proofs.Common.{◌≡◌, ◌+◌, length}
use Rattle.std.specs.Prelude.{◌==◌}
use Rattle.std.specs.List.{position_or_len}
use Rattle.bt_place.proofs.order.rank.Given as goal

abbrev pub invariant-loop-other : goal.invariant-loop-other
invariant-loop-other l = (l.place + length l.rest ≡ length l.order)
    × (position_or_len (λ k. k == l.splitter) l.order ≡ l.place + position_or_len (λ k. k == l.splitter) l.rest)

abbrev pub decreases-loop-other : goal.decreases-loop-other
decreases-loop-other l = length l.rest
