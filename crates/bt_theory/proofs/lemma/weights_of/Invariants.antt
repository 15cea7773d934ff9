use Rattle.std.proofs.Common.{◌≡◌, take}
use Rattle.bt_theory.specs.inner.Scopes.{weights_of}
use Rattle.bt_theory.proofs.lemma.weights_of.Given as goal

abbrev pub invariant-loop-weight : goal.invariant-loop-weight
invariant-loop-weight l = l.weights.items ≡ weights_of (take l.weight-index l.weighed)
