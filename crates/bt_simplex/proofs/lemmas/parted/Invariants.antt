use Rattle.std.proofs.Common.{◌≡◌, ◌++◌, drop, map}
use Rattle.bt_simplex.proofs.lemmas.parted.Given as goal

abbrev pub invariant-loop-row : goal.invariant-loop-row
invariant-loop-row l = record {
  picks : l.picks.items ++ map (λ w. w.0) (drop l.row-index l.weights) ≡ map (λ w. w.0) l.weights;
  numbers : l.numbers.items ++ map (λ w. w.1) (drop l.row-index l.weights) ≡ map (λ w. w.1) l.weights;
}
