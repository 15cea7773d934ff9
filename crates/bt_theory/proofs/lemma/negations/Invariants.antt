use Rattle.std.proofs.Common.{◌≡◌, take}
use Rattle.bt_theory.specs.inner.Scopes.{negations}
use Rattle.bt_theory.proofs.lemma.negations.Given as goal

abbrev pub invariant-loop-row : goal.invariant-loop-row
invariant-loop-row l = l.lits.items ≡ negations l.atoms (take l.row-index l.weighed)
