use Rattle.std.proofs.Common.{◌≡◌, take, map}
use Rattle.bt_theory.proofs.scope.picks_of.Given as goal

abbrev pub invariant-loop-row : goal.invariant-loop-row
invariant-loop-row l = l.picks.items ≡ map (λ w. w.0) (take l.row-index l.weighed)
