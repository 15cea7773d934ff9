use Rattle.std.proofs.Common.{◌≡◌, map}
use Rattle.std.specs.Prelude.{◌==◌}
use Rattle.std.specs.List.{range_with_len, position_or_len}
use Rattle.bt_place.proofs.order.ranks_in.Given as goal

abbrev pub invariant-loop-splitter : goal.invariant-loop-splitter
invariant-loop-splitter l = l.ranks.items ≡ map (λ s. position_or_len (λ k. k == s) l.order) (range_with_len 0 l.splitter)
