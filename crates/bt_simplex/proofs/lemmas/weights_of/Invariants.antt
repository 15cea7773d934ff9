use Rattle.std.proofs.Common.{◌≡◌, ◌++◌, drop, map}
use Rattle.bt_simplex.specs.inner.Lemmas.{weight_of}
use Rattle.bt_simplex.proofs.lemmas.weights_of.Given as goal

abbrev pub invariant-loop-position : goal.invariant-loop-position
invariant-loop-position l = l.weights.items ++ map (weight_of l.columns l.above) (drop l.position-index l.line) ≡ map (weight_of l.columns l.above) l.line
