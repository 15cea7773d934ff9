use Rattle.std.proofs.Common.{◌≡◌, ◌++◌, drop, true}
use Rattle.bt_linear_forms.specs.Lines.{signed_terms}
use Rattle.bt_linear_forms.proofs.line.negated_terms.Given as goal

abbrev pub invariant-loop-position : goal.invariant-loop-position
invariant-loop-position l = l.others.items ++ signed_terms true (drop l.position-index l.terms) ≡ signed_terms true l.terms
